use mathlib.Core.Path.{◌∙◌}
use Rattle.listing_lines.proofs.LineNumbers.{line_refused, line-lent, line-passed}
use Rattle.listing_lines.proofs.line.Goals as goal

pub returns-in-Err : goal.returns-in-Err
returns-in-Err c = c.no_line.ensures ∙ line_refused _ _ _ c.line_tests.ensures c.in-Err.is c.number.ensures

pub line_core-requires : goal.line_core-requires
line_core-requires c =
    let p = line-lent _ _ _ c.line_tests.ensures c.in_default.is in
    record { opening_len = p.0; index_in_bounds = p.1 }

pub returns : goal.returns
returns c = c.line_core.ensures ∙ line-passed _ _ _ c.line_tests.ensures c.in_default.is

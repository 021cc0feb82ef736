use mathlib.Core.Path.{sym, ◌∙◌}
use Rattle.listing_lines.proofs.LineNumbers.{line-wide, line_read}
use Rattle.listing_lines.proofs.line_core.Goals as goal

pub returns-in-Err : goal.returns-in-Err
returns-in-Err c = c.no_line.ensures ∙ line-wide _ _ _ c.requires.opening_len.0 c.requires.opening_len.1 c.requires.index_in_bounds (sym c.net_change.ensures ∙ c.in-Err.is) c.number.ensures

pub returns : goal.returns
returns c = line_read _ _ _ c.requires.opening_len.0 c.requires.opening_len.1 c.requires.index_in_bounds (sym c.net_change.ensures ∙ c.in-Ok.is)

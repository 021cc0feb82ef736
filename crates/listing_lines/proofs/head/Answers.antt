use mathlib.Core.Path.{◌∙◌}
use Rattle.listing_lines.proofs.HeadNumbers.{head-refused, head-lent, head_passed}
use Rattle.listing_lines.proofs.head.Goals as goal

pub returns-in-Err : goal.returns-in-Err
returns-in-Err c = c.no_head.ensures ∙ head-refused _ _ _ _ c.head_tests.ensures c.in-Err.is c.number.ensures

pub head_core-requires : goal.head_core-requires
head_core-requires c =
    let p = head-lent _ _ _ _ c.head_tests.ensures c.in_default.is in
    record { slots_per_epoch_nonzero = p.0; opening_len = p.1 }

pub returns : goal.returns
returns c = c.head_core.ensures ∙ head_passed _ _ _ _ c.head_tests.ensures c.in_default.is

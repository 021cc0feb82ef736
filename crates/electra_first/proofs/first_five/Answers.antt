use native.Mathlib.Omega.{arith}
use Rattle.justification.proofs.Passed.{justification-passed}
use Rattle.selection.proofs.Picking.{blank-length, blank_part}
use Rattle.electra_first.proofs.first_five.Goals as goal

pub five_kept-requires : goal.five_kept-requires
five_kept-requires c =
    let a = c.requires in
    record { rules_value = a.rules_value; finality_value = (justification-passed _ _ _ _ a.registry_value).weighs; registry_len = a.registry_len; kept_len = (blank-length 64 64 (omega arith), blank_part 64 64 (omega arith) (omega arith)) }

pub returns : goal.returns
returns c = c.five_kept.ensures

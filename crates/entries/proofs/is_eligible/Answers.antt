use mathlib.Core.Path.{ap}
use Rattle.definitions.specs.Checked.{value}
use Rattle.refusals.proofs.Answers.{then-answers, refused-answers}
use Rattle.leaf_refusals.proofs.Passed.{slot_entry_passed}
use Rattle.entries.proofs.is_eligible.Goals as goal

pub returns-in_err-slot_entry_tests : goal.returns-in_err-slot_entry_tests
returns-in_err-slot_entry_tests c = refused-answers _ c.slot_entry_tests.ensures _ c.in_err-slot_entry_tests.was c.from_residual.ensures

pub previous_epoch-previous-requires : goal.previous_epoch-previous-requires
previous_epoch-previous-requires c = (slot_entry_passed _ _ _ c.slot_entry_tests.ensures c.in_ok-slot_entry_tests.was).settings.positive.slots_per_epoch

pub entry_is_eligible-eligible-requires : goal.entry_is_eligible-eligible-requires
entry_is_eligible-eligible-requires c = (slot_entry_passed _ _ _ c.slot_entry_tests.ensures c.in_ok-slot_entry_tests.was).own.long

pub returns : goal.returns
returns c = rw (← c.previous_epoch-previous.ensures) (then-answers _ c.slot_entry_tests.ensures c.in_ok-slot_entry_tests.was (ap value c.entry_is_eligible-eligible.ensures))

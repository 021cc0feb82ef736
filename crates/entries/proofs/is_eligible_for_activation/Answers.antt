use mathlib.Core.Path.{ap}
use Rattle.definitions.specs.Checked.{value}
use Rattle.refusals.proofs.Answers.{then-answers, refused-answers}
use Rattle.leaf_refusals.proofs.Passed.{finalized_entry_passed}
use Rattle.entries.proofs.is_eligible_for_activation.Goals as goal

pub returns-in_err-finalized_entry_tests : goal.returns-in_err-finalized_entry_tests
returns-in_err-finalized_entry_tests c = refused-answers _ c.finalized_entry_tests.ensures _ c.in_err-finalized_entry_tests.was c.from_residual.ensures

pub entry_is_eligible_for_activation-eligible-requires : goal.entry_is_eligible_for_activation-eligible-requires
entry_is_eligible_for_activation-eligible-requires c = (finalized_entry_passed _ _ c.finalized_entry_tests.ensures c.in_ok-finalized_entry_tests.was).own.long

pub returns : goal.returns
returns c = then-answers _ c.finalized_entry_tests.ensures c.in_ok-finalized_entry_tests.was (ap value c.entry_is_eligible_for_activation-eligible.ensures)

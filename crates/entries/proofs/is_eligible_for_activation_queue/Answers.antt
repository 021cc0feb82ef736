use mathlib.Core.Path.{ap}
use Rattle.definitions.specs.Checked.{value}
use Rattle.refusals.proofs.Answers.{then-answers, refused-answers}
use Rattle.leaf_refusals.proofs.Passed.{settings_entry_passed}
use Rattle.entries.proofs.is_eligible_for_activation_queue.Goals as goal

pub returns-in_err-settings_entry_tests : goal.returns-in_err-settings_entry_tests
returns-in_err-settings_entry_tests c = refused-answers _ c.settings_entry_tests.ensures _ c.in_err-settings_entry_tests.was c.from_residual.ensures

pub entry_is_eligible_for_activation_queue-eligible-requires : goal.entry_is_eligible_for_activation_queue-eligible-requires
entry_is_eligible_for_activation_queue-eligible-requires c = (settings_entry_passed _ _ c.settings_entry_tests.ensures c.in_ok-settings_entry_tests.was).own.long

pub returns : goal.returns
returns c = then-answers _ c.settings_entry_tests.ensures c.in_ok-settings_entry_tests.was (ap value c.entry_is_eligible_for_activation_queue-eligible.ensures)

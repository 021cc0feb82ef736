use mathlib.Core.Path.{ap}
use Rattle.definitions.specs.Checked.{value}
use Rattle.refusals.proofs.Answers.{then-answers, refused-answers}
use Rattle.leaf_refusals.proofs.Passed.{entry-passed}
use Rattle.entries.proofs.is_active_validator.Goals as goal

pub returns-in_err-entry_tests : goal.returns-in_err-entry_tests
returns-in_err-entry_tests c = refused-answers _ c.entry_tests.ensures _ c.in_err-entry_tests.was c.from_residual.ensures

pub entry_is_active-active-requires : goal.entry_is_active-active-requires
entry_is_active-active-requires c = (entry-passed _ c.entry_tests.ensures c.in_ok-entry_tests.was).long

pub returns : goal.returns
returns c = then-answers _ c.entry_tests.ensures c.in_ok-entry_tests.was (ap value c.entry_is_active-active.ensures)

use mathlib.Core.Path.{ap}
use native.Mathlib.Omega.{arith}
use Rattle.definitions.specs.Checked.{value}
use Rattle.refusals.proofs.Answers.{then-answers, refused-answers}
use Rattle.leaf_refusals.proofs.Passed.{participation_entry_passed}
use Rattle.entries.proofs.is_unslashed_participating.Goals as goal

pub returns-in_err-participation_entry_tests : goal.returns-in_err-participation_entry_tests
returns-in_err-participation_entry_tests c = refused-answers _ c.participation_entry_tests.ensures _ c.in_err-participation_entry_tests.was c.from_residual.ensures

pub current_epoch-current-requires : goal.current_epoch-current-requires
current_epoch-current-requires c = (participation_entry_passed _ _ _ _ _ c.participation_entry_tests.ensures c.in_ok-participation_entry_tests.was).others.settings.positive.slots_per_epoch

pub entry_is_participating-participating-requires : goal.entry_is_participating-participating-requires
entry_is_participating-participating-requires c =
    let p = participation_entry_passed _ _ _ _ _ c.participation_entry_tests.ensures c.in_ok-participation_entry_tests.was in
    record { len = p.others.own.long; flag_index_bound = omega (arith, p.flag) }

pub returns : goal.returns
returns c = rw (← c.current_epoch-current.ensures) (then-answers _ c.participation_entry_tests.ensures c.in_ok-participation_entry_tests.was (ap value c.entry_is_participating-participating.ensures))

use native.Mathlib.Omega.{arith}
use Rattle.definitions.specs.Rust.Altair.Helpers.{get_unslashed_participating_indices}
use Rattle.leaf_refusals.proofs.registry_refusals.Passed.{participation_passed}
use Rattle.refusals.proofs.Answers.{then-answers, refused-answers}
use Rattle.totals.proofs.get_participating_balance.Goals as goal

pub returns-in_err-participation_tests : goal.returns-in_err-participation_tests
returns-in_err-participation_tests c = refused-answers _ c.participation_tests.ensures _ c.in_err-participation_tests.was c.from_residual.ensures

pub current_epoch-current-requires : goal.current_epoch-current-requires
current_epoch-current-requires c = (participation_passed _ _ _ _ _ c.participation_tests.ensures c.in_ok-participation_tests.was).others.positive.slots_per_epoch

pub participating_total-requires : goal.participating_total-requires
participating_total-requires c =
    let p = participation_passed _ _ _ _ _ c.participation_tests.ensures c.in_ok-participation_tests.was in
    record { registry_len = p.others.shape.long; flag_index_bound = omega (arith, p.flag) }

pub returns : goal.returns
unfolding get_unslashed_participating_indices
returns c = rw (← c.current_epoch-current.ensures) (then-answers _ c.participation_tests.ensures c.in_ok-participation_tests.was c.participating_total.ensures)

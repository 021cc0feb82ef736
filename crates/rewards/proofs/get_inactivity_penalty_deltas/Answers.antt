use Rattle.definitions.specs.Rust.Altair.Helpers.{get_inactivity_penalty_deltas}
use Rattle.rewards.proofs.Penalty.{penalty-passed}
use Rattle.refusals.proofs.Answers.{then-answers, refused-answers}
use Rattle.rewards.proofs.get_inactivity_penalty_deltas.Goals as goal

pub returns-in_err-penalty_tests : goal.returns-in_err-penalty_tests
returns-in_err-penalty_tests c = refused-answers _ c.penalty_tests.ensures _ c.in_err-penalty_tests.was c.from_residual.ensures

pub current_epoch-current-requires : goal.current_epoch-current-requires
current_epoch-current-requires c = rw c.settings_under-s.ensures (penalty-passed _ _ _ c.penalty_tests.ensures c.in_ok-penalty_tests.was).settings.positive.slots_per_epoch

pub previous_epoch-previous-requires : goal.previous_epoch-previous-requires
previous_epoch-previous-requires c = rw c.settings_under-s.ensures (penalty-passed _ _ _ c.penalty_tests.ensures c.in_ok-penalty_tests.was).settings.positive.slots_per_epoch

pub penalty_deltas-requires : goal.penalty_deltas-requires
penalty_deltas-requires c =
    let p = penalty-passed _ _ _ c.penalty_tests.ensures c.in_ok-penalty_tests.was in
    record { inactivity_score_bias_nonzero = rw c.settings_under-s.ensures p.settings.positive.inactivity_score_bias; quotient_nonzero = rw c.settings_under-s.ensures p.settings.positive.inactivity_penalty_quotient_altair; len = p.long; says = c.mul64-product.ensures }

pub returns : goal.returns
unfolding get_inactivity_penalty_deltas
returns c = rw (← c.settings_under-s.ensures, ← c.current_epoch-current.ensures, ← c.previous_epoch-previous.ensures) (then-answers _ c.penalty_tests.ensures c.in_ok-penalty_tests.was c.penalty_deltas.ensures)

use Rattle.refusals.proofs.Answers.{then-answers, refused-answers}
use Rattle.rewards_step.proofs.flag_rewards.Tests.{flag-passed}
use Rattle.rewards_step.proofs.flag_rewards.get_flag_index_deltas.Goals as goal

pub returns-in_err-flag_deltas_tests : goal.returns-in_err-flag_deltas_tests
returns-in_err-flag_deltas_tests c = refused-answers _ c.flag_deltas_tests.ensures _ c.in_err-flag_deltas_tests.was c.from_residual.ensures

pub tested_flag_deltas-requires : goal.tested_flag_deltas-requires
tested_flag_deltas-requires c =
    let p = flag-passed _ _ _ _ _ _ c.flag_deltas_tests.ensures c.in_ok-flag_deltas_tests.was in
    record { s_value = p.opened.settings.good; flag_index_bound = (p.flag, p.inside); registry_len = p.opened.shape.long }

pub returns : goal.returns
returns c = then-answers _ c.flag_deltas_tests.ensures c.in_ok-flag_deltas_tests.was c.tested_flag_deltas.ensures

use Rattle.refusals.proofs.Answers.{then-answers, refused-answers}
use Rattle.rewards.proofs.base_rewards.Tests.{entry_total_not_zero, total_entry_passed}
use Rattle.rewards.proofs.base_rewards.get_base_reward.Goals as goal

pub returns-in_err-total_entry_tests : goal.returns-in_err-total_entry_tests
returns-in_err-total_entry_tests c = refused-answers _ c.total_entry_tests.ensures _ c.in_err-total_entry_tests.was c.from_residual.ensures

pub base_reward_per_increment-per_increment-requires : goal.base_reward_per_increment-per_increment-requires
base_reward_per_increment-per_increment-requires c = entry_total_not_zero _ _ _ c.total_entry_tests.ensures c.in_ok-total_entry_tests.was

pub entry_base_reward-requires : goal.entry_base_reward-requires
entry_base_reward-requires c =
    let p = total_entry_passed _ _ _ c.total_entry_tests.ensures c.in_ok-total_entry_tests.was in
    record { effective_balance_increment_nonzero = p.settings.positive.effective_balance_increment; len = p.own.long; says = c.base_reward_per_increment-per_increment.ensures }

pub returns : goal.returns
returns c = then-answers _ c.total_entry_tests.ensures c.in_ok-total_entry_tests.was c.entry_base_reward.ensures

use Rattle.refusals.proofs.Answers.{then-answers, refused-answers}
use Rattle.rewards.proofs.base_rewards.Tests.{total-passed}
use Rattle.rewards.proofs.base_rewards.get_base_reward_per_increment.Goals as goal

pub returns-in_err-total_tests : goal.returns-in_err-total_tests
returns-in_err-total_tests c = refused-answers _ c.total_tests.ensures _ c.in_err-total_tests.was c.from_residual.ensures

pub base_reward_per_increment-requires : goal.base_reward_per_increment-requires
base_reward_per_increment-requires c = (total-passed _ _ c.total_tests.ensures c.in_ok-total_tests.was).total-positive

pub returns : goal.returns
returns c = then-answers _ c.total_tests.ensures c.in_ok-total_tests.was c.base_reward_per_increment.ensures

use Rattle.definitions.specs.Rust.Altair.Helpers.{get_base_reward}
use Rattle.arithmetic.proofs.Laws.{next, passes-on}
use Rattle.rewards.proofs.base_rewards.entry_base_reward.Goals as goal

pub returns-in_err-reward : goal.returns-in_err-reward
unfolding get_base_reward
returns-in_err-reward c = passes-on _ c.requires.says c.in_err-reward.was c.from_residual.ensures

pub returns : goal.returns
unfolding get_base_reward
returns c = next _ c.requires.says c.in_ok-reward.was c.mul64.ensures

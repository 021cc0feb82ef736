use native.Mathlib.Omega.{arith}
use Rattle.definitions.specs.Rust.Altair.Helpers.{get_base_reward_per_increment}
use Rattle.arithmetic.proofs.Laws.{next, passes-on}
use Rattle.rewards.proofs.base_rewards.Base.{root-positive}
use Rattle.rewards.proofs.base_rewards.base_reward_per_increment.Goals as goal

pub returns-in_err-product : goal.returns-in_err-product
unfolding get_base_reward_per_increment
returns-in_err-product c = passes-on _ c.mul64.ensures c.in_err-product.was c.from_residual.ensures

pub nonzero_div-reward : goal.nonzero_div-reward
nonzero_div-reward c = let p = root-positive _ c.requires in omega (arith, c.integer_sqrt-root.ensures)

pub returns : goal.returns
unfolding get_base_reward_per_increment
returns c = next _ c.mul64.ensures c.in_ok-product.was (rw c.integer_sqrt-root.ensures)

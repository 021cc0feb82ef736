-- The base reward refuses by overflow alone, and divides by a root that is not 0.
use Prim.Native.Nat.{ℕ, ◌<◌}
use native.Mathlib.Omega.{arith}
use Rattle.definitions.specs.declared.Settings.{Settings}
use Rattle.definitions.specs.Record.{Validator}
use Rattle.definitions.specs.Document.Phase0.Helpers.{integer_squareroot}
use Rattle.definitions.specs.Rust.Altair.Helpers.{get_base_reward_per_increment, get_base_reward}
use Rattle.laws.proofs.SquareRoot.{square-root, root-largest}
use Rattle.arithmetic.proofs.Operations.{OnlyOverflow, only-value, only-mul64, only-bind}

pub only-per_increment : (s : Settings) (total : ℕ) → OnlyOverflow (get_base_reward_per_increment s total)
unfolding get_base_reward_per_increment
only-per_increment s total = only-bind (only-mul64 _ _) (λ product. only-value _)

pub only-base : (s : Settings) (total : ℕ) (v : Validator) → OnlyOverflow (get_base_reward s total v)
unfolding get_base_reward
only-base s total v = only-bind (only-per_increment s total) (λ reward. only-mul64 _ reward)

pub root-positive : (n : ℕ) → 0 < n → 0 < integer_squareroot n
root-positive n h = root-largest n (integer_squareroot n) 1 (square-root n) (omega arith)

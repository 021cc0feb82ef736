-- What the deltas read of a validator, but for inactivity, is not its score.
use mathlib.Core.Path.{◌≡◌}
use mathlib.Core.Bool.{Bool}
use Prim.Native.Nat.{ℕ}
use Rattle.definitions.specs.Record.{Validator}
use Rattle.definitions.specs.Updates.{with_score}
use Rattle.definitions.specs.Rust.Phase0.Helpers.{is_active_validator}
use Rattle.definitions.specs.Rust.Phase0.EpochProcessing.{is_eligible}
use Rattle.definitions.specs.Rust.Altair.Helpers.{is_unslashed_participating}

pub eligible-scored : (previous score : ℕ) (v : Validator) {b : Bool} → b ≡ is_eligible previous v → b ≡ is_eligible previous (with_score score v)
unfolding is_eligible is_active_validator
eligible-scored previous score v e = e

pub hit_scored : (current index previous score : ℕ) (v : Validator) {b : Bool} → b ≡ is_unslashed_participating current index previous v → b ≡ is_unslashed_participating current index previous (with_score score v)
unfolding is_unslashed_participating is_active_validator
hit_scored current index previous score v e = e

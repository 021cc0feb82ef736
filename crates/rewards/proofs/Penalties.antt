-- What a validator loses by inactivity, case by case.
use mathlib.Core.Bool.{Bool, true, false, not}
use mathlib.Core.Path.{◌≡◌, sym, ◌∙◌}
use Prim.Native.Nat.{ℕ, ◌*◌, ◌/◌, ◌<◌}
use native.Mathlib.Nat.{mul-pos}
use native.Mathlib.Omega.{arith}
use Rattle.definitions.specs.declared.Deltas.{Deltas}
use Rattle.definitions.specs.declared.Settings.{Settings}
use Rattle.definitions.specs.Checked.{Checked, value, bind, mul64}
use Rattle.definitions.specs.Record.{Validator}
use Rattle.definitions.specs.Document.Phase0.EpochProcessing.{is_eligible}
use Rattle.definitions.specs.Rust.Altair.Helpers.{no_deltas, is_unslashed_participating, inactivity_penalty_deltas}
use Rattle.laws.proofs.Checked.{mul64-value}
use Rattle.refusals.proofs.All.{fails, passes}

-- a product of two numbers that are not 0 divides
pub product-divides : {a b d : ℕ} {n : Checked ℕ} → 0 < a → 0 < b → n ≡ mul64 a b → n ≡ value d → 0 < d
product-divides {a} {b} p q h k =
    let e = mul64-value a b (sym h ∙ k) in
    let l : 0 < a * b = mul-pos p q in
    omega (arith, e)

module _ (s : Settings) (quotient current_epoch previous_epoch : ℕ) (v : Validator) {eligible : Bool} (e : eligible ≡ is_eligible previous_epoch v) where
  pub penalty-none : not eligible ≡ true → value no_deltas ≡ inactivity_penalty_deltas s quotient current_epoch previous_epoch v
  unfolding inactivity_penalty_deltas
  penalty-none f = rw (fails e f)

  module _ (p : not eligible ≡ false) {matching : Bool} (u : matching ≡ is_unslashed_participating current_epoch 1 previous_epoch v) where
    pub penalty_hit : matching ≡ true → value no_deltas ≡ inactivity_penalty_deltas s quotient current_epoch previous_epoch v
    unfolding inactivity_penalty_deltas
    penalty_hit y = rw (passes e p, ← u, y)

    pub penalty_miss : {r : Checked Deltas} → matching ≡ false → r ≡ bind (mul64 v.effective_balance v.inactivity_score) (λ numerator. bind (mul64 s.inactivity_score_bias quotient) (λ denominator. value (record { reward = 0; penalty = numerator / denominator }))) → r ≡ inactivity_penalty_deltas s quotient current_epoch previous_epoch v
    unfolding inactivity_penalty_deltas
    penalty_miss y k = rw (passes e p, ← u, y) k

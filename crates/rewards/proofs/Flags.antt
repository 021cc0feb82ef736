-- What a validator gains and loses by a flag, case by case.
use mathlib.Core.Bool.{Bool, true, false, not}
use mathlib.Core.Path.{◌≡◌, refl, sym, ◌∙◌}
use Prim.Native.Nat.{ℕ, zero, suc, ◌/◌, ◌≤◌, ◌<◌}
use native.Mathlib.Nat.{le-div_iff_mul-le}
use native.Mathlib.Omega.{arith}
use borrow.Author.Tests.{eq-eqb, ne_eqb}
use lib.ListN.{get_or}
use Rattle.std.specs.Prelude.{IsErr, IsErrAnd}
use Rattle.definitions.specs.declared.Deltas.{Deltas}
use Rattle.definitions.specs.declared.Refusal.{Refusal}
use Rattle.definitions.specs.declared.Settings.{Settings}
use Rattle.definitions.specs.Checked.{Checked, value, refused, bind, mul64}
use Rattle.definitions.specs.Record.{Validator}
use Rattle.definitions.specs.Document.Phase0.EpochProcessing.{is_eligible}
use Rattle.definitions.specs.Rust.Altair.Helpers.{PARTICIPATION_FLAG_WEIGHTS, WEIGHT_DENOMINATOR, no_deltas, is_unslashed_participating, get_base_reward, FlagTotals, hit_deltas, miss_deltas, flag_index_deltas}
use Rattle.laws.proofs.Checked.{mul64-value}
use Rattle.refusals.proofs.All.{fails, passes}
use Rattle.arithmetic.proofs.Laws.{carried}
use Rattle.rewards.specs.declared.Shared.{Shared}
use Rattle.rewards.specs.Shared.{SharedBy}

-- source and head weigh the same
pub weight-other : (i : ℕ) → i ≤ 2 → (i ≡ 1 → ⊥) → 14 ≡ get_or PARTICIPATION_FLAG_WEIGHTS i 0
weight-other zero l n = refl
weight-other (suc zero) l n = absurd (n refl)
weight-other (suc (suc zero)) l n = refl
weight-other (suc (suc (suc i))) l n = absurd (omega arith)

-- the total has an increment, so that 64 times its increments divide
pub divides : {s : Settings} {h : Shared} {d : ℕ} → SharedBy s h → h.denominator ≡ value d → 0 < d
divides {s} {h} b k =
    let e = mul64-value _ _ (sym b.denominator ∙ k) in
    let q : 1 ≤ h.total / s.effective_balance_increment = (le-div_iff_mul-le {k = s.effective_balance_increment} b.increment).1 (omega (arith, b.least)) in
    omega (arith, e)

-- A hit
module _ (s : Settings) (weight : ℕ) (t : FlagTotals) (base : ℕ) where
  pub hit_leaking : t.leaking ≡ true → value no_deltas ≡ hit_deltas s weight t base
  unfolding hit_deltas
  hit_leaking h = rw h

  pub hit_not_leaking : {r : Checked Deltas} → t.leaking ≡ false → r ≡ bind (mul64 base weight) (λ weighted. bind (mul64 weighted t.participating_increments) (λ numerator. bind (mul64 (t.total_active_balance / s.effective_balance_increment) WEIGHT_DENOMINATOR) (λ denominator. value (record { reward = numerator / denominator; penalty = 0 })))) → r ≡ hit_deltas s weight t base
  unfolding hit_deltas
  hit_not_leaking h k = rw h k

-- A miss
module _ (flag_index weight base : ℕ) where
  pub miss_head : flag_index ≡ 2 → value no_deltas ≡ miss_deltas flag_index weight base
  unfolding miss_deltas
  miss_head h = rw (eq-eqb _ _ h)

  pub miss_other : {r : Checked Deltas} → (flag_index ≡ 2 → ⊥) → r ≡ bind (mul64 base weight) (λ weighted. value (record { reward = 0; penalty = weighted / WEIGHT_DENOMINATOR })) → r ≡ miss_deltas flag_index weight base
  unfolding miss_deltas
  miss_other h k = rw (ne_eqb _ _ h) k

-- The two tests of a validator, and its base reward
module _ (s : Settings) (current_epoch previous_epoch flag_index : ℕ) (t : FlagTotals) (v : Validator) {eligible : Bool} (e : eligible ≡ is_eligible previous_epoch v) where
  pub flag-none : not eligible ≡ true → value no_deltas ≡ flag_index_deltas s current_epoch previous_epoch flag_index t v
  unfolding flag_index_deltas
  flag-none f = rw (fails e f)

  module _ (p : not eligible ≡ false) {n : Checked ℕ} (h : n ≡ get_base_reward s t.total_active_balance v) where
    pub flag-stop : {q : Refusal} {r : Checked Deltas} → n ≡ refused q → IsErr r × IsErrAnd r (λ x. x ≡ q) → r ≡ flag_index_deltas s current_epoch previous_epoch flag_index t v
    unfolding flag_index_deltas bind
    flag-stop k d = rw (passes e p, sym h ∙ k) (carried _ d)

    module _ {x weight : ℕ} {participates : Bool} (k : n ≡ value x) (w : weight ≡ get_or PARTICIPATION_FLAG_WEIGHTS flag_index 0) (u : participates ≡ is_unslashed_participating current_epoch flag_index previous_epoch v) {r : Checked Deltas} where
      pub flag_hit : participates ≡ true → r ≡ hit_deltas s weight t x → r ≡ flag_index_deltas s current_epoch previous_epoch flag_index t v
      unfolding flag_index_deltas bind
      flag_hit y d = rw (passes e p, sym h ∙ k, ← u, y, ← w) d

      pub flag_miss : participates ≡ false → r ≡ miss_deltas flag_index weight x → r ≡ flag_index_deltas s current_epoch previous_epoch flag_index t v
      unfolding flag_index_deltas bind
      flag_miss y d = rw (passes e p, sym h ∙ k, ← u, y, ← w) d

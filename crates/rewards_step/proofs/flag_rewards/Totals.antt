-- A flag's totals, worked out one after the other.
use mathlib.Core.List.{List, map}
use mathlib.Core.Path.{◌≡◌, refl}
use Prim.Native.Nat.{ℕ, ◌≤◌, max}
use native.Mathlib.Omega.{arith}
use Rattle.definitions.specs.declared.Deltas.{Deltas}
use Rattle.definitions.specs.declared.Settings.{Settings}
use Rattle.definitions.specs.Checked.{Checked, value, refused, bind, sum64}
use Rattle.definitions.specs.Lists.{filter}
use Rattle.definitions.specs.Record.{Validator}
use Rattle.definitions.specs.Rust.Phase0.EpochProcessing.{is_in_inactivity_leak}
use Rattle.definitions.specs.Rust.Phase0.Helpers.{get_current_epoch, get_previous_epoch, get_active_validator_indices, get_total_balance, get_total_active_balance}
use Rattle.definitions.specs.Rust.Altair.Helpers.{FlagTotals, is_unslashed_participating, get_unslashed_participating_indices, flag_totals, flag_index_deltas, get_flag_index_deltas}
use Rattle.laws.proofs.Checked.{bound, value_same}
use Rattle.rewards_step.specs.Totals.{flag_totals_of}
use Rattle.rewards_step.specs.Step.{flag_deltas_from}

three : {A B C D E : Type 0} (a : Checked A) (b : Checked B) (d : Checked C) (f : A → B → C → D) (k : D → Checked E) → bind (bind a (λ x. bind b (λ y. bind d (λ z. value (f x y z))))) k ≡ bind a (λ x. bind b (λ y. bind d (λ z. k (f x y z))))
unfolding bind
three (refused r) b d f k = refl
three (value x) (refused r) d f k = refl
three (value x) (value y) (refused r) f k = refl
three (value x) (value y) (value z) f k = refl

-- a total is at least an increment
pub total-least : (s : Settings) (members : List Validator) {total : ℕ} → get_total_balance s members ≡ value total → s.effective_balance_increment ≤ total
unfolding get_total_balance
total-least s members {total} h =
    let b = bound (sum64 (map (λ v. v.effective_balance) members)) (λ sum. value (max s.effective_balance_increment sum)) h in
    let e : max s.effective_balance_increment b.first ≡ total = value_same b.then in
    omega arith

module _ (s : Settings) (state_slot finalized_epoch : ℕ) (vs : List Validator) (flag_index : ℕ) {current previous : ℕ} (e : current ≡ get_current_epoch s state_slot) (p : previous ≡ get_previous_epoch s state_slot) where
  -- what is worked out from a flag's totals is worked out from the three
  pub totals-first : {A : Type 0} (k : FlagTotals → Checked A) → bind (flag_totals s state_slot finalized_epoch vs flag_index) k ≡ bind (get_total_balance s (filter (is_unslashed_participating current flag_index previous) vs)) (λ participating. bind (get_total_balance s (get_active_validator_indices vs current)) (λ total. bind (is_in_inactivity_leak s state_slot finalized_epoch) (λ leaking. k (flag_totals_of s participating total leaking))))
  unfolding flag_totals get_unslashed_participating_indices get_total_active_balance
  totals-first k = rw (← e, ← p) (three _ _ _ (flag_totals_of s) k)

  pub flag-index : (v : Validator) {r : Checked Deltas} → r ≡ bind (get_total_balance s (filter (is_unslashed_participating current flag_index previous) vs)) (λ participating. flag_deltas_from s state_slot finalized_epoch vs current previous flag_index participating v) → r ≡ get_flag_index_deltas s state_slot finalized_epoch vs flag_index v
  unfolding get_flag_index_deltas
  flag-index v h = rw (← e, ← p, totals-first (λ t. flag_index_deltas s current previous flag_index t v)) h

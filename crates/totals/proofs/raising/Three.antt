-- The three totals' answers say which were raised.
use mathlib.Core.Path.{◌≡◌, refl, sym}
use mathlib.Core.Bool.{Bool, true, false, cond}
use mathlib.Core.List.{List, map}
use Prim.Native.Nat.{ℕ, ◌^◌, ◌≤◌, ◌<◌, max}
use native.Mathlib.Omega.{arith}
use borrow.Author.Tests.{le-ltb, ltb-false}
use lib.Dec.{ltb}
use Rattle.definitions.specs.declared.Settings.{Settings}
use Rattle.definitions.specs.declared.Total.{Total}
use Rattle.definitions.specs.Lists.{filter, sum}
use Rattle.definitions.specs.Record.{Validator}
use Rattle.definitions.specs.Checked.{Checked, value, refused, bind, sum64}
use Rattle.definitions.specs.declared.Refusal.{Refusal}
use Rattle.definitions.specs.declared.Refusal.TheVariants.{Overflow}
use Rattle.definitions.specs.Raised.{was_raised, total_with_raised, raised_totals}
use Rattle.definitions.specs.Rust.Phase0.Helpers.{get_current_epoch, get_previous_epoch, get_active_validator_indices, get_total_balance}
use Rattle.definitions.specs.Rust.Altair.Helpers.{is_unslashed_participating, get_unslashed_participating_indices}
use Rattle.laws.proofs.Checked.{not_value}
use Rattle.totals.specs.Flags.{flag_for, raised_of, ThreeTotals}

-- a sum that is refused has left 64 bits
past : (xs : List ℕ) {r : Refusal} → sum64 xs ≡ refused r → 2 ^ 64 ≤ sum xs
unfolding sum64
past xs {r} h = go (ltb (sum xs) (2 ^ 64)) refl h
  where
    go : (t : Bool) → ltb (sum xs) (2 ^ 64) ≡ t → cond t (value (sum xs)) (refused Overflow) ≡ refused r → 2 ^ 64 ≤ sum xs
    go true e h = absurd (not_value (sym h))
    go false e h = ltb-false (sum xs) (2 ^ 64) e

module _ (s : Settings) (fits : s.effective_balance_increment < 2 ^ 64) where
  module _ (members : List Validator) where
    abbrev balances : List ℕ
    balances = map (λ v. v.effective_balance) members

    -- so that it is not below the increment
    not_below : {r : Refusal} → sum64 balances ≡ refused r → was_raised s members ≡ 0
    unfolding was_raised
    not_below h = rw (le-ltb (sum balances) s.effective_balance_increment (omega (arith, past balances h)))

    flag_by : (m : Checked ℕ) {a : Checked Total} → sum64 balances ≡ m → a ≡ bind (bind m (λ total. value (max s.effective_balance_increment total))) (λ total. value (record { balance = total; raised = was_raised s members })) → flag_for a ≡ was_raised s members
    unfolding bind flag_for
    flag_by (value x) h e = rw e
    flag_by (refused r) h e = rw (e, not_below h)

    pub flag-said : {a : Checked Total} → a ≡ total_with_raised s members → flag_for a ≡ was_raised s members
    unfolding total_with_raised get_total_balance
    flag-said h = flag_by (sum64 balances) refl h

  pub three-raised : (state_slot : ℕ) (vs : List Validator) {now : ℕ} {active previous current : Checked Total} → now ≡ get_current_epoch s state_slot → ThreeTotals s state_slot vs active previous current → raised_of now active previous current ≡ raised_totals s state_slot vs
  unfolding raised_of raised_totals
  three-raised state_slot vs e h =
      rw (e, flag-said _ h.of_active, flag-said _ h.of_previous, flag-said _ h.of_current)

-- as the passes tell them, by the two epochs that the code has worked out
pub three-totals : (s : Settings) (state_slot : ℕ) (vs : List Validator) {now before : ℕ} {active previous current : Checked Total} → now ≡ get_current_epoch s state_slot → before ≡ get_previous_epoch s state_slot → active ≡ total_with_raised s (get_active_validator_indices vs now) → previous ≡ total_with_raised s (filter (is_unslashed_participating now 1 before) vs) → current ≡ total_with_raised s (filter (is_unslashed_participating now 1 now) vs) → ThreeTotals s state_slot vs active previous current
unfolding get_unslashed_participating_indices
three-totals s state_slot vs e d a b c = record { of_active = rw e at a; of_previous = rw (e, d) at b; of_current = rw e at c }

-- A total with whether it was raised, from its plain sum; and its balance alone.
use mathlib.Core.Path.{◌≡◌, ap, ◌∙◌}
use mathlib.Core.List.{List, map}
use Prim.Native.Nat.{ℕ}
use Rattle.std.specs.Prelude.{IsErr, IsErrAnd}
use Rattle.definitions.specs.declared.Settings.{Settings}
use Rattle.definitions.specs.declared.Total.{Total}
use Rattle.definitions.specs.declared.Refusal.{Refusal}
use Rattle.definitions.specs.Lists.{sum}
use Rattle.definitions.specs.Record.{Validator}
use Rattle.definitions.specs.Checked.{Checked, value, refused, bind, sum64}
use Rattle.definitions.specs.Raised.{was_raised, total_with_raised}
use Rattle.definitions.specs.Rust.Phase0.Helpers.{get_total_balance}
use Rattle.laws.proofs.Checked.{sum64-value}
use Rattle.arithmetic.proofs.Laws.{carried}
use Rattle.totals.specs.Totals.{total_from, balance_for}

abbrev balances : List Validator → List ℕ
balances members = map (λ v. v.effective_balance) members

module _ (s : Settings) (members : List Validator) where
  -- the plain sum, or that it has left 64 bits
  pub total_of-sum : {x : ℕ} {t : Total} → sum64 (balances members) ≡ value x → t ≡ total_from s.effective_balance_increment x → value t ≡ total_with_raised s members
  unfolding total_with_raised get_total_balance was_raised total_from bind
  total_of-sum {x} h e =
      let plain : sum (balances members) ≡ x = sum64-value (balances members) h in
      rw (h, plain) (ap value e)

  pub total-over : {p : Refusal} {r : Checked Total} → sum64 (balances members) ≡ refused p → r ≡ refused p → r ≡ total_with_raised s members
  unfolding total_with_raised get_total_balance bind
  total-over h e = rw h e

-- the balance of a total
balance-said : (m : Checked ℕ) (w : ℕ) {a : Checked Total} → a ≡ bind m (λ total. value (record { balance = total; raised = w })) → balance_for a ≡ m
unfolding bind balance_for
balance-said (value x) w e = rw e
balance-said (refused r) w e = rw e

pub says-balance : (s : Settings) (members : List Validator) {a : Checked Total} {r : Checked ℕ} → a ≡ total_with_raised s members → r ≡ balance_for a → r ≡ get_total_balance s members
unfolding total_with_raised
says-balance s members h e = e ∙ balance-said (get_total_balance s members) (was_raised s members) h

-- as the code takes it out
module _ {a : Checked Total} where
  pub balance_given : {t : Total} → a ≡ value t → value t.balance ≡ balance_for a
  unfolding balance_for
  balance_given e = rw e

  pub balance-refused : {p : Refusal} {r : Checked ℕ} → a ≡ refused p → IsErr r × IsErrAnd r (λ q. q ≡ p) → r ≡ balance_for a
  unfolding balance_for
  balance-refused e h = rw e (carried _ h)

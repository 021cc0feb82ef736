-- What an answer with rules says, and that it is the definition's of every call with what was lent.
use mathlib.Core.Bool.{true}
use mathlib.Core.List.{List}
use mathlib.Core.Path.{◌≡◌, refl, sym, ap, ◌∙◌}
use Prim.Native.Nat.{ℕ, ◌+◌, ◌-◌, ◌*◌, ◌/◌, ◌<◌}
use native.Mathlib.Omega.{arith}
use lib.ListN.{get_or, drop}
use lib.Seq.{get_or-drop}
use Rattle.definitions.specs.declared.Rules.{Rules}
use Rattle.definitions.specs.Checked.{Checked, value, refused, bind, number_of}
use Rattle.definitions.specs.declared.Refusal.{Refusal}
use Rattle.definitions.specs.Rules.{good_rules}
use Rattle.definitions_close.specs.declared.RulesAnswer.{RulesAnswer}
use Rattle.definitions_close.specs.Store.{Entry, Store, entries_from, entries, good_entries, rules_at, rules_answer_for}
use Rattle.definitions_close.specs.StoreClose.{StoreCall, store_call_shaped, rules_at_slot, rules_for}
use Rattle.laws.proofs.Checked.{number_not_zero}
use Rattle.laws.proofs.Tests.{both, test, all-at, in_order-value}
use Rattle.refusals.proofs.Answers.{after-passed, after-refused}
use Rattle.refusals.proofs.Laws.{good-settings}
use Rattle.store.proofs.store_entries.Entries.{blank, length-entries, entry-at}
use Rattle.store.proofs.Last.{last_entry}
use Rattle.store.proofs.Passed.{StorePassed, store-shaped}
use Rattle.store.specs.Answers.{turned_away}
use Rattle.store.specs.Called.{tests_with, rules_with}

-- no refusal: these are the rules
pub rules-given : (m : Checked Rules) {a : RulesAnswer} → a ≡ rules_answer_for m → a.refusal ≡ 0 → m ≡ value a.rules
rules-given (value r) e z = ap (λ (b : RulesAnswer). value b.rules) (sym e)
rules-given (refused r) e z = absurd (number_not_zero r (sym (ap (λ (b : RulesAnswer). b.refusal) e) ∙ z))

pub record Turned (m : Checked Rules) (number : ℕ) : Type 0 where
  pub why : Refusal
  pub is : m ≡ refused why
  pub said : number ≡ number_of why

pub rules-turned : (m : Checked Rules) {a : RulesAnswer} → a ≡ rules_answer_for m → (a.refusal ≡ 0 → ⊥) → Turned m a.refusal
rules-turned (value r) e z = absurd (z (ap (λ (b : RulesAnswer). b.refusal) e))
rules-turned (refused r) e z = record { why = r; is = refl; said = ap (λ (b : RulesAnswer). b.refusal) e }

pub rules-with : (c : StoreCall) → rules_with c.store c.finality.slot c.registry c.slashings c.roots c.closing_registry c.closing_slashings c.amounts ≡ rules_for c
unfolding rules_with rules_for tests_with store_call_shaped
rules-with c = refl

-- slots_per_epoch of an entry, and that it is not 0

module _ (n : ℕ) (xs : List ℕ) (i : ℕ) (l : i < n) where
  pub slots_at : (get_or (entries_from n xs) i blank).rules.settings.slots_per_epoch ≡ get_or xs (23 * i + 2) 0
  slots_at = ap (λ (e : Entry). e.rules.settings.slots_per_epoch) (entry-at n xs i l) ∙ get_or-drop 2 (drop (23 * i) xs) 0 0 ∙ get_or-drop (23 * i) xs 2 0

  pub slots-positive : good_entries (entries_from n xs) ≡ true → 0 < (get_or (entries_from n xs) i blank).rules.settings.slots_per_epoch
  unfolding good_entries good_rules
  slots-positive h =
      let g = all-at (λ e. good_rules e.rules) (entries_from n xs) i blank (omega (arith, length-entries n xs)) h in
      (good-settings _ (both _ _ g).0).positive.slots_per_epoch

-- of the last one
module _ (n : ℕ) (xs : List ℕ) (l : 0 < n) where
  last-slots : (get_or (entries_from n xs) (n - 1) blank).rules.settings.slots_per_epoch ≡ get_or xs (23 * n - 21) 0
  last-slots =
      let e : 23 * (n - 1) + 2 ≡ 23 * n - 21 = omega arith in
      slots_at n xs (n - 1) (omega arith) ∙ ap (λ (k : ℕ). get_or xs k 0) e

  pub last_positive : good_entries (entries_from n xs) ≡ true → 0 < get_or xs (23 * n - 21) 0
  last_positive h = omega (arith, slots-positive n xs (n - 1) (omega arith) h, last-slots)

  pub at_slot : (slot : ℕ) → rules_at_slot slot (entries_from n xs) ≡ rules_at (slot / get_or xs (23 * n - 21) 0) (entries_from n xs)
  unfolding rules_at_slot bind
  at_slot slot = rw (last_entry n xs l, last-slots)

-- x is what tests 1 and 2 answered
module _ (store : Store) (registry slashings roots closing_registry closing_slashings amounts : List ℕ) {x : Checked (Unit {0})} (e : x ≡ tests_with store registry slashings roots closing_registry closing_slashings amounts) where
  -- passed: so have the store's
  pub with-passed : x ≡ value tt → StorePassed store
  unfolding tests_with
  with-passed z =
      let q = in_order-value _ _ _ (sym e ∙ z) in
      record { shape = store-shaped store (test _ (q.shaped 0) 0); entries-good = q.settings 0 }

  module _ (slot : ℕ) where
    pub with-refused : {p : Refusal} {k : ℕ} → x ≡ refused p → k ≡ number_of p → turned_away k ≡ rules_answer_for (rules_with store slot registry slashings roots closing_registry closing_slashings amounts)
    unfolding rules_with
    with-refused z n =
        let tests = tests_with store registry slashings roots closing_registry closing_slashings amounts in
        rw (after-refused tests (rules_at_slot slot (entries store)) e z, n)

    pub with-rules : x ≡ value tt → rules_with store slot registry slashings roots closing_registry closing_slashings amounts ≡ rules_at_slot slot (entries store)
    unfolding rules_with
    with-rules z = after-passed _ _ e z

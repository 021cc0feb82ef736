-- Where a read of its epoch gives rules, a close with a store is the close by these, refused or not.
use mathlib.Core.Bool.{Bool, true, false, cond, ◌&&◌}
use mathlib.Core.Path.{◌≡◌, refl, sym, ap, subst}
use Prim.Native.Nat.{ℕ, ◌*◌, ◌/◌}
use lib.Dec.{eqb}
use lib.ListN.{length}
use Rattle.definitions.specs.declared.Settings.{Settings}
use Rattle.definitions.specs.declared.Rules.{Rules}
use Rattle.definitions.specs.Lists.{every}
use Rattle.definitions.specs.Checked.{value, refused, bind, number_of}
use Rattle.definitions.specs.declared.Refusal.{Refusal}
use Rattle.definitions.specs.declared.Refusal.TheVariants.{BadShape}
use Rattle.definitions.specs.Refusals.{in_order, after_tests, closing_buffer, registry_shaped, roots_shaped, slashings_shaped, same_length}
use Rattle.definitions.specs.Raised.{raised_unless_refused}
use Rattle.definitions.specs.Rules.{rules_shaped}
use Rattle.definitions.specs.Close.{limited_tests}
use Rattle.definitions_close.specs.Amounts.{amounts_shaped, limited_closing_amounts}
use Rattle.definitions_close.specs.FinalizingTest.{finalizing_test}
use Rattle.definitions_close.specs.FullClose.{full_tests, limited_full_tests, limited_fully_closed, closing_queue, full_close, limited_full_close}
use Rattle.definitions_close.specs.Store.{Entry, entries, last_of, of_last, store_shaped, good_entries, store_tests, entry_for, rules_at, read_rules}
use Rattle.definitions_close.specs.StoreClose.{StoreCall, call_by, store_call_shaped, rules_at_slot, rules_for, turned_away, close_by, store_close}
use Rattle.laws.proofs.Checked.{value_same, bound}
use Rattle.laws.proofs.Tests.{in_order-value}
use mathlib.Core.List.{List, [], ◌∷◌}
use Rattle.store.proofs.Passed.{store-shaped}
use Rattle.theorems.specs.Store.Laws.{ClosesByRead}
use Rattle.theorems.proofs.Store.Sequence.{Same, read_same}

-- the tests' refusal is the close's: nothing is written
pub refused-close : (c : StoreCall) (rules : Rules) (r : Refusal) → full_tests (call_by c rules) ≡ refused r → full_close (call_by c rules) ≡ turned_away c (number_of r)
unfolding limited_full_close limited_fully_closed closing_queue limited_closing_amounts finalizing_test after_tests bind closing_buffer raised_unless_refused
refused-close c rules r t = rw t

-- what is lent does not fit settings with the same S and L either
pub unshaped : (rules registry roots slashings closing amounts : Bool) → (registry && (amounts && ((roots && slashings) && closing))) ≡ false → cond amounts (rules && (registry && (roots && (slashings && closing)))) false ≡ false
unshaped rules registry roots slashings closing false h = refl
unshaped false registry roots slashings closing true h = refl
unshaped true false roots slashings closing true h = refl
unshaped true true false slashings closing true h = refl
unshaped true true true false closing true h = refl
unshaped true true true true closing true h = h

module _ (c : StoreCall) (rules : Rules) where
  abbrev pub closing : List Bool
  closing = same_length c.registry c.closing_registry ∷ same_length c.slashings c.closing_slashings ∷ []

  -- test 1 of the close by these rules, but for the amounts
  abbrev shaped_by : Settings → Bool
  shaped_by s =
      every (rules_shaped rules ∷ registry_shaped c.registry ∷ roots_shaped s c.roots ∷ slashings_shaped s c.slashings ∷ closing)

  pub shape-refused : cond (amounts_shaped c.registry c.amounts) (shaped_by rules.settings) false ≡ false → full_tests (call_by c rules) ≡ refused BadShape
  unfolding limited_full_tests limited_tests in_order bind
  shape-refused h = go (amounts_shaped c.registry c.amounts) refl h
    where
      go : (a : Bool) → amounts_shaped c.registry c.amounts ≡ a → cond a (shaped_by rules.settings) false ≡ false → full_tests (call_by c rules) ≡ refused BadShape
      go true p h = rw (p, h)
      go false p h = rw p

  -- the close with a store is refused with 1: so is the close by rules with the same S and L as the last entry's
  unlent : (e : Entry) → store_shaped c.store ≡ true → last_of (entries c.store) ≡ value e → Same rules.settings e.rules.settings → store_call_shaped c ≡ false → full_tests (call_by c rules) ≡ refused BadShape
  unfolding store_call_shaped of_last every
  unlent e s l same h =
      let roots = ap (λ (n : ℕ). eqb (length c.roots) (32 * n)) same.roots in
      let slashings = ap (λ (n : ℕ). eqb (length c.slashings) n) same.slashings in
      shape-refused
      (rw (roots, slashings)
      (unshaped (rules_shaped rules) (registry_shaped c.registry) (roots_shaped e.rules.settings c.roots) (slashings_shaped e.rules.settings c.slashings) (every closing) (amounts_shaped c.registry c.amounts)
      (rw (s, l) at h)))

-- What a read that gives rules says of the store
record Read (c : StoreCall) (epoch : ℕ) (rules : Rules) : Type 0 where
  shaped : store_shaped c.store ≡ true
  good : good_entries (entries c.store) ≡ true
  entry : Entry
  found : entry_for epoch (entries c.store) ≡ value entry
  is : entry.rules ≡ rules

read-gives : (c : StoreCall) (epoch : ℕ) (rules : Rules) → read_rules c.store epoch ≡ value rules → Read c epoch rules
unfolding read_rules after_tests rules_at store_tests
read-gives c epoch rules h =
    let es = entries c.store in
    let b = bound (in_order (store_shaped c.store ∷ []) (good_entries es ∷ []) []) (λ _. bind (entry_for epoch es) (λ e. value e.rules)) h in
    let q = in_order-value _ _ _ b.gave in
    let f = bound (entry_for epoch es) (λ e. value e.rules) b.then in
    record { shaped = q.shaped 0; good = q.settings 0; entry = f.first; found = f.gave; is = value_same f.then }

pub closes_by_read : ClosesByRead
unfolding store_close close_by rules_for rules_at_slot rules_at after_tests in_order bind every
closes_by_read c e rules last read = go (store_call_shaped c) refl
  where
    epoch : ℕ
    epoch = c.finality.slot / e.rules.settings.slots_per_epoch

    r : Read c epoch rules
    r = read-gives c epoch rules read

    same : Same rules.settings e.rules.settings
    same =
        subst (λ (q : Rules). Same q.settings e.rules.settings) r.is
        (read_same epoch (entries c.store) e (store-shaped c.store r.shaped).sequence last r.found)

    go : (t : Bool) → store_call_shaped c ≡ t → store_close c ≡ full_close (call_by c rules)
    go true p = rw (p, r.good, last, r.found, r.is)
    go false p = rw p (sym (refused-close c rules BadShape (unlent c rules e r.shaped last same p)))

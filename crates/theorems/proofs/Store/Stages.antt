-- A close with a store is turned away with 1, 2 or 13, or answers as the close by an entry's rules once these have been tested.
use mathlib.Core.Bool.{Bool, true, false}
use mathlib.Core.List.{List, [], ◌∷◌}
use mathlib.Core.Logic.{inl, inr}
use mathlib.Core.Path.{◌≡◌, refl, sym, ap, subst, ◌∙◌}
use Prim.Native.Nat.{ℕ, ◌*◌, ◌/◌}
use lib.Dec.{eqb}
use lib.ListN.{length}
use Rattle.definitions.specs.declared.Rules.{Rules}
use Rattle.definitions.specs.Lists.{every}
use Rattle.definitions.specs.Record.{BeaconState, decode}
use Rattle.definitions.specs.Checked.{Checked, value, refused, bind, number_of}
use Rattle.definitions.specs.declared.Refusal.{Refusal}
use Rattle.definitions.specs.declared.Refusal.TheVariants.{BadShape, BadSettings, NoEntry}
use Rattle.definitions.specs.Refusals.{in_order, after_tests, registry_shaped, roots_shaped, slashings_shaped, same_length, good_finality, good_registry}
use Rattle.definitions.specs.Rules.{settings_under, rules_shaped, good_rules}
use Rattle.definitions.specs.ExitQueue.{is_queue_of, queue_test}
use Rattle.definitions.specs.Close.{state_of, limited_tests, process_epoch}
use Rattle.definitions_close.specs.Amounts.{amounts_shaped}
use Rattle.definitions_close.specs.FullClose.{full_tests, limited_full_tests, limited_fully_closed, full_close, limited_full_close}
use Rattle.definitions_close.specs.Store.{Entry, entries, last_of, of_last, store_shaped, good_entries, entry_for, rules_at}
use Rattle.definitions_close.specs.StoreClose.{StoreCall, call_by, store_call_shaped, rules_at_slot, rules_for, close_by, store_close}
use Rattle.laws.proofs.Checked.{not_value, value_same, bound}
use Rattle.agreement.specs.Restored.{OneOf}
use Rattle.agreement.proofs.Refused.{work-refused}
use Rattle.agreement.proofs.Restored.{one_right, work-number}
use Rattle.laws.proofs.Tests.{both, test, in_order-value}
use Rattle.store.proofs.Passed.{store-shaped}
use Rattle.theorems.specs.Store.Stages.{Staged, turned, by_entry, Stages}
use Rattle.theorems.proofs.Store.Sequence.{Same, read_same, all_read}

-- Test 1 passed, with `last` the last entry
pub record Lent (c : StoreCall) (last : Entry) : Type 0 where
  pub store : store_shaped c.store ≡ true
  pub registry : registry_shaped c.registry ≡ true
  pub closing-registry : same_length c.registry c.closing_registry ≡ true
  pub closing-slashings : same_length c.slashings c.closing_slashings ≡ true
  pub amounts : amounts_shaped c.registry c.amounts ≡ true
  pub roots : roots_shaped last.rules.settings c.roots ≡ true
  pub slashings : slashings_shaped last.rules.settings c.slashings ≡ true

lent : (c : StoreCall) (last : Entry) → last_of (entries c.store) ≡ value last → store_call_shaped c ≡ true → Lent c last
unfolding store_call_shaped of_last
lent c last l h =
    let t = test _ h in
    let lengths = both (roots_shaped last.rules.settings c.roots) (slashings_shaped last.rules.settings c.slashings) (rw l at (t 3)) in
    record {
      store = t 0;
      registry = t 1;
      closing-registry = t 4;
      closing-slashings = t 5;
      amounts = t 2;
      roots = lengths.0;
      slashings = lengths.1;
    }

-- The rules of an entry

pub record Entered (c : StoreCall) (rules : Rules) : Type 0 where
  pub last : Entry
  pub lent_by : Lent c last
  pub shaped : rules_shaped rules ≡ true
  pub good : good_rules rules ≡ true
  pub same : Same rules.settings last.rules.settings

pub entered : (c : StoreCall) (rules : Rules) → rules_for c ≡ value rules → Entered c rules
unfolding rules_for after_tests rules_at_slot rules_at good_entries
entered c rules h =
    let es = entries c.store in
    let b = bound (in_order (store_call_shaped c ∷ []) (good_entries es ∷ []) []) (λ _. rules_at_slot c.finality.slot es) h in
    let q = in_order-value _ _ _ b.gave in
    let l = bound (last_of es) (λ e. rules_at (c.finality.slot / e.rules.settings.slots_per_epoch) es) b.then in
    let epoch = c.finality.slot / l.first.rules.settings.slots_per_epoch in
    let f = bound (entry_for epoch es) (λ e. value e.rules) l.then in
    let is = value_same f.then in
    let t = lent c l.first l.gave (q.shaped 0) in
    let s = store-shaped c.store t.store in
    record {
      last = l.first;
      lent_by = t;
      shaped = sym (ap rules_shaped is) ∙ all_read (λ e. rules_shaped e.rules) epoch es s.each f.gave;
      good = sym (ap good_rules is) ∙ all_read (λ e. good_rules e.rules) epoch es (q.settings 0) f.gave;
      same = subst (λ (r : Rules). Same r.settings l.first.rules.settings) is (read_same epoch es l.first s.sequence l.gave f.gave);
    }

-- no 1 and no 2 is left
module _ (c : StoreCall) (rules : Rules) (n : Entered c rules) where
  roots-fit : roots_shaped rules.settings c.roots ≡ true
  roots-fit = ap (λ (k : ℕ). eqb (length c.roots) (32 * k)) n.same.roots ∙ n.lent_by.roots

  slashings-fit : slashings_shaped rules.settings c.slashings ≡ true
  slashings-fit = ap (λ (k : ℕ). eqb (length c.slashings) k) n.same.slashings ∙ n.lent_by.slashings

  tests_left : full_tests (call_by c rules) ≡ bind (in_order [] [] (good_finality c.finality ∷ good_registry c.registry ∷ [])) (λ _. queue_test c.queue (decode c.registry))
  unfolding limited_full_tests limited_tests in_order every
  tests_left =
      let l = n.lent_by in
      rw (l.amounts, n.shaped, l.registry, roots-fit, slashings-fit, l.closing-registry, l.closing-slashings, n.good)

  answers : OneOf (full_close (call_by c rules)).refusal (0 ∷ 3 ∷ 8 ∷ 4 ∷ 5 ∷ [])
  unfolding limited_full_close limited_fully_closed after_tests bind in_order queue_test every
  answers = go (every (good_finality c.finality ∷ good_registry c.registry ∷ [])) refl (is_queue_of c.queue (decode c.registry)) refl (process_epoch (settings_under rules) (state_of (call_by c rules).call)) refl
    where
      go : (r : Bool) → every (good_finality c.finality ∷ good_registry c.registry ∷ []) ≡ r → (q : Bool) → is_queue_of c.queue (decode c.registry) ≡ q → (w : Checked BeaconState) → process_epoch (settings_under rules) (state_of (call_by c rules).call) ≡ w → OneOf (full_close (call_by c rules)).refusal (0 ∷ 3 ∷ 8 ∷ 4 ∷ 5 ∷ [])
      go false e q f w g = rw (tests_left, e) (inr (inl refl))
      go true e false f w g = rw (tests_left, e, f) (inr (inr (inl refl)))
      go true e true f (value st) g = rw (tests_left, e, f, g) (inl refl)
      go true e true f (refused r) g = rw (tests_left, e, f, g) (one_right (number_of r) (0 ∷ 3 ∷ 8 ∷ []) (4 ∷ 5 ∷ []) (work-number r (work-refused (call_by c rules).call r g)))

-- Turned away: 1, 2 or 13

last-refused : (es : List Entry) (r : Refusal) → last_of es ≡ refused r → r ≡ NoEntry
unfolding last_of
last-refused [] r e = cc
last-refused (f ∷ []) r e = absurd (not_value (sym e))
last-refused (f ∷ g ∷ es) r e = last-refused (g ∷ es) r e

at-refused : (epoch : ℕ) (es : List Entry) (r : Refusal) → rules_at epoch es ≡ refused r → r ≡ NoEntry
unfolding rules_at entry_for bind
at-refused epoch es r e = go (entry_for epoch es) refl e
  where
    go : (m : Checked Entry) → entry_for epoch es ≡ m → bind m (λ f. value f.rules) ≡ refused r → r ≡ NoEntry
    go (value f) p e = absurd (not_value (sym e))
    go (refused q) p e = let same : q ≡ r = cc in sym same ∙ last-refused _ q p

slot-refused : (slot : ℕ) (es : List Entry) (r : Refusal) → rules_at_slot slot es ≡ refused r → r ≡ NoEntry
unfolding rules_at_slot bind
slot-refused slot es r e = go (last_of es) refl e
  where
    go : (m : Checked Entry) → last_of es ≡ m → bind m (λ f. rules_at (slot / f.rules.settings.slots_per_epoch) es) ≡ refused r → r ≡ NoEntry
    go (value f) p e = at-refused (slot / f.rules.settings.slots_per_epoch) es r e
    go (refused q) p e = let same : q ≡ r = cc in sym same ∙ last-refused es q p

turned-number : (c : StoreCall) (r : Refusal) → rules_for c ≡ refused r → OneOf (number_of r) (1 ∷ 2 ∷ 13 ∷ [])
unfolding rules_for after_tests in_order bind every
turned-number c r e = go (store_call_shaped c) (good_entries (entries c.store)) e
  where
    go : (s g : Bool) → bind (in_order (s ∷ []) (g ∷ []) []) (λ _. rules_at_slot c.finality.slot (entries c.store)) ≡ refused r → OneOf (number_of r) (1 ∷ 2 ∷ 13 ∷ [])
    go false g e = let is : r ≡ BadShape = cc in rw is (inl refl)
    go true false e = let is : r ≡ BadSettings = cc in rw is (inr (inl refl))
    go true true e = rw (slot-refused c.finality.slot (entries c.store) r e) (inr (inr (inl refl)))

pub stages : Stages
unfolding store_close close_by
stages c = go (rules_for c) refl
  where
    go : (m : Checked Rules) → rules_for c ≡ m → Staged c
    go (refused r) e = turned (rw e (turned-number c r e)) (rw e)
    go (value rules) e = by_entry rules e (rw e) (rw e (answers c rules (entered c rules e)))

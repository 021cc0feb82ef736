-- Each call of a close by steps with a store is the call by the rules that the whole close goes by: the record so far has the opening's lengths
-- and slot. Where the store has none, the first call ends it as the whole close is refused.
use mathlib.Core.Bool.{Bool, true, false, cond, false≢true}
use mathlib.Core.List.{List, [], ◌∷◌}
use mathlib.Core.Path.{◌≡◌, refl, sym, ap, ◌∙◌, subst}
use Prim.Native.Nat.{ℕ, ◌≤◌}
use native.Mathlib.Omega.{arith}
use borrow.Author.Tests.{eq-eqb, ne_eqb, eqb-true}
use lib.Dec.{eqb}
use lib.ListN.{length, take}
use Rattle.definitions.specs.declared.Settings.{Settings}
use Rattle.definitions.specs.declared.Rules.{Rules}
use Rattle.definitions.specs.Lists.{every}
use Rattle.definitions.specs.Record.{BeaconState, encode}
use Rattle.definitions.specs.Checked.{number_of, Checked, value, refused, bind, fold_checked}
use Rattle.definitions.specs.declared.Refusal.{Refusal}
use Rattle.definitions.specs.Refusals.{in_order, after_tests, length_is, is_small, registry_shaped}
use Rattle.definitions.specs.Raised.{none_raised}
use Rattle.definitions.specs.Rules.{settings_under, rules_shaped, good_rules}
use Rattle.definitions.specs.Close.{Step, justification_step, inactivity_step, rewards_step, registry_step, slashings_step, effective_balances_step, slashings_reset_step, participation_flags_step, steps, step, close_up_to, limited_up_to}
use Rattle.definitions_close.specs.FullClose.{FullCall, full_close}
use Rattle.definitions_close.specs.CloseBySteps.{StepOutcome, says_ended, has_ended, in_turn, ended_by, unwritten, close_step}
use Rattle.definitions_close.specs.Orders.{Order, orders_in, room, orders_shaped, take_order, ninth_tests, ninth_in_turn, untried, carry_out}
use Rattle.definitions_close.specs.Store.{entries, store_shaped, good_entries}
use Rattle.definitions_close.specs.StoreClose.{StoreCall, call_by, store_call_shaped, rules_at_slot, rules_for, turned_away, close_by, store_close}
use Rattle.definitions_close.specs.StoreSteps.{StoreStepCall, step_by, step_of, store_so_far, store_found, step_refused, store_step_by, store_step, StoreNinthCall, ninth_by, ninth_of, ninth_rules, carry_by, store_carry_out}
use Rattle.laws.proofs.Checked.{value_same, bound, number_not_zero}
use Rattle.laws.proofs.Frame.Frames.{frames}
use Rattle.laws.proofs.Tests.{in_order-value}
use Rattle.theorems.specs.CloseBySteps.Desk as desk
use Rattle.theorems.specs.CloseBySteps.Desk.{Desk, Act, stepping, ordering, carrying, order_call, after_step, after_ninth, is_taken, arrived_by, Closed, eight_done, was_refused, Gives, GivesWhole, NinthLent, Carries, CarriedOut}
use Rattle.laws_close.proofs.Passed.{full-passed}
use Rattle.theorems.proofs.CloseBySteps.Tests.{shaped_as, long_as}
use Rattle.theorems.proofs.CloseBySteps.Turns.{UnderWay, desk_at, On, waiting, onward, ended}
use Rattle.theorems.proofs.CloseBySteps.Eight.{ended-act as desk-ended, ended-order, stopped-done, Way, under, over, over_done, with_taken, way-act, not_begun_lem, any_way, any-calls}
use Rattle.theorems.proofs.CloseBySteps.Nine.{nine-calls, after-nine}
use Rattle.theorems.proofs.Store.Stages.{Entered, entered}
use Rattle.theorems.specs.StoreHistory.Steps.{lent, step_call, act, acts, NotBegun, arrived, StoreAnyCalls, ninth_call, StoreNineCalls, StoreAfterNine}

-- No step writes the slot

slot_step : (s : Settings) (k : Step) (a b : BeaconState) → step s a k ≡ value b → b.finality.slot ≡ a.finality.slot
slot_step s justification_step a b p = ap (λ (st : BeaconState). st.finality.slot) (frames s justification_step a b p)
slot_step s inactivity_step a b p = ap (λ (st : BeaconState). st.finality.slot) (frames s inactivity_step a b p)
slot_step s rewards_step a b p = ap (λ (st : BeaconState). st.finality.slot) (frames s rewards_step a b p)
slot_step s registry_step a b p = ap (λ (st : BeaconState). st.finality.slot) (frames s registry_step a b p)
slot_step s slashings_step a b p = ap (λ (st : BeaconState). st.finality.slot) (frames s slashings_step a b p)
slot_step s effective_balances_step a b p = ap (λ (st : BeaconState). st.finality.slot) (frames s effective_balances_step a b p)
slot_step s slashings_reset_step a b p = ap (λ (st : BeaconState). st.finality.slot) (frames s slashings_reset_step a b p)
slot_step s participation_flags_step a b p = ap (λ (st : BeaconState). st.finality.slot) (frames s participation_flags_step a b p)

slot-steps : (s : Settings) (ks : List Step) (a : BeaconState) {b : BeaconState} → fold_checked (step s) a ks ≡ value b → b.finality.slot ≡ a.finality.slot
unfolding fold_checked
slot-steps s [] a p = ap (λ (st : BeaconState). st.finality.slot) (sym (value_same p))
slot-steps s (k ∷ ks) a p = let h = bound _ _ p in slot-steps s ks h.first h.then ∙ slot_step s k a h.first h.gave

slot_kept : (s : Settings) (n : ℕ) (a : BeaconState) {b : BeaconState} → close_up_to n s a ≡ value b → b.finality.slot ≡ a.finality.slot
unfolding limited_up_to
slot_kept s n a p = slot-steps s (take n steps) a p

-- The rules read depend on slot and lengths alone

record Alike (c : StoreCall) (d : Desk) : Type 0 where
  slot : d.running.answer.finality.slot ≡ c.finality.slot
  registry : length d.closing_registry ≡ length c.registry
  slashings : length d.closing_slashings ≡ length c.slashings
  amounts : length d.amounts ≡ length c.amounts

rules-alike : (c : StoreCall) (d : Desk) → Alike c d → length c.closing_registry ≡ length c.registry → length c.closing_slashings ≡ length c.slashings → rules_for (store_so_far d.running (lent c d)) ≡ rules_for c
unfolding rules_for store_call_shaped registry_shaped every
rules-alike c d h p q = rw (h.slot, h.registry, h.slashings, h.amounts, p, q)

in_turn_lem : (x : StoreStepCall) (rules : Rules) → has_ended x.running ≡ false → in_turn (step_of x) ≡ true → rules_for (store_found x) ≡ value rules → store_step x ≡ close_step (step_by x rules)
unfolding store_step store_step_by
in_turn_lem x rules p q h = rw (p, q, h)

-- a call whose rules are these, unless it is turned away before they are asked
step_by_lem : (x : StoreStepCall) (rules : Rules) → (has_ended x.running ≡ false → rules_for (store_found x) ≡ value rules) → store_step x ≡ close_step (step_by x rules)
unfolding store_step close_step unwritten
step_by_lem x rules h = go (has_ended x.running) refl (in_turn (step_of x)) refl
  where
    go : (a : Bool) → has_ended x.running ≡ a → (b : Bool) → in_turn (step_of x) ≡ b → store_step x ≡ close_step (step_by x rules)
    go true p b q = rw p
    go false p false q = rw (p, q)
    go false p true q = in_turn_lem x rules p q (h p)

ninth-read : (x : StoreNinthCall) (rules : Rules) → has_ended x.running ≡ false → eqb x.running.done 8 ≡ true → ninth_rules x ≡ value rules → store_carry_out x ≡ carry_out (ninth_by x rules)
unfolding store_carry_out carry_by
ninth-read x rules p q h = rw (p, q, h)

-- the ninth call, likewise
carry-by : (x : StoreNinthCall) (rules : Rules) → store_shaped x.store ≡ true → registry_shaped x.closing_registry ≡ true → good_entries (entries x.store) ≡ true → rules_shaped rules ≡ true → good_rules rules ≡ true → rules_at_slot x.running.answer.finality.slot (entries x.store) ≡ value rules → store_carry_out x ≡ carry_out (ninth_by x rules)
unfolding store_carry_out carry_out carry_by ninth_rules ninth_tests ninth_in_turn in_order after_tests bind every
carry-by x rules store registry good shaped fine read = go (has_ended x.running) refl (eqb x.running.done 8) refl (every (orders_shaped x.running.orders x.orders ∷ length_is (room x.orders) x.answers ∷ [])) refl (is_small x.period) refl
  where
    go : (a : Bool) → has_ended x.running ≡ a → (b : Bool) → eqb x.running.done 8 ≡ b → (l : Bool) → (every (orders_shaped x.running.orders x.orders ∷ length_is (room x.orders) x.answers ∷ [])) ≡ l → (p : Bool) → is_small x.period ≡ p → store_carry_out x ≡ carry_out (ninth_by x rules)
    go true e b f l g p h = rw e
    go false e false f l g p h = rw (e, f)
    go false e true f false g p h = rw (e, f, store, registry, g, shaped)
    go false e true f true g false h = rw (e, f, store, registry, g, shaped, good, h, fine)
    go false e true f true g true h = ninth-read x rules e f (rw (store, registry, g, good, h) read)

pub says : (x : StoreNinthCall) → x.running.done ≡ 9 → store_carry_out x ≡ untried (says_ended x.running) (ninth_of x)
unfolding store_carry_out
says x e = rw (eq-eqb x.running.done 9 e)

early-ninth : (x : StoreNinthCall) (rules : Rules) → eqb x.running.done 9 ≡ false → eqb x.running.done 8 ≡ false → store_carry_out x ≡ carry_out (ninth_by x rules)
unfolding store_carry_out carry_out
early-ninth x rules p q = rw (p, q)

ended-ninth : (x : StoreNinthCall) (rules : Rules) → x.running.done ≡ 9 → store_carry_out x ≡ carry_out (ninth_by x rules)
unfolding store_carry_out carry_out
ended-ninth x rules e = rw (eq-eqb x.running.done 9 e)

-- After the end nothing changes

ended-act : (c : StoreCall) (d : Desk) (a : Act) → d.running.done ≡ 9 → act c d a ≡ d
unfolding act store_step unwritten take_order store_carry_out
ended-act c d (stepping k) e = rw e
ended-act c d (ordering o) e = rw e
ended-act c d (carrying period answers) e = rw (eq-eqb d.running.done 9 e)

-- an order is taken, or not, by the desk alone
same_taken : (f g : Desk → Act → Desk) (d : Desk) (a : Act) (list : List Act) → arrived_by f (f d a) list ≡ arrived_by g (g d a) list → arrived_by f d (a ∷ list) ≡ arrived_by g d (a ∷ list)
unfolding arrived_by
same_taken f g d (stepping k) list e = e
same_taken f g d (ordering o) list e = ap (λ (later : List Order). cond (is_taken (take_order (order_call d o))) (o ∷ later) later) e
same_taken f g d (carrying period answers) list e = e

-- Where the store has rules

record Read (c : StoreCall) (rules : Rules) : Type 0 where
  entry : Entered c rules
  good : good_entries (entries c.store) ≡ true
  at : rules_at_slot c.finality.slot (entries c.store) ≡ value rules

read_so : (c : StoreCall) (rules : Rules) → rules_for c ≡ value rules → Read c rules
unfolding rules_for after_tests
read_so c rules e =
    let es = entries c.store in
    let b = bound (in_order (store_call_shaped c ∷ []) (good_entries es ∷ []) []) (λ _. rules_at_slot c.finality.slot es) e in
    record { entry = entered c rules e; good = (in_order-value _ _ _ b.gave).settings 0; at = b.then }

pub begun : (c : StoreCall) (rules : Rules) (d : Desk) → NotBegun c d → desk.NotBegun (call_by c rules) d
begun c rules d h = record { done = h.done; closing_registry = h.closing_registry; closing_slashings = h.closing_slashings; amounts = h.amounts }

module _ (c : StoreCall) (rules : Rules) (e : rules_for c ≡ value rules) where
  abbrev whole : FullCall
  whole = call_by c rules

  alike_at : (n : ℕ) (st : BeaconState) (count : ℕ) (orders : List ℕ) → UnderWay whole n st → Alike c (desk_at whole n st count orders)
  alike_at n st count orders u =
      record {
        slot = slot_kept _ n _ u.went;
        registry = long_as whole st (full-passed whole u.tested) u.sound;
        slashings = u.sound.slashings;
        amounts = u.long;
      }

  first-rules : (d : Desk) (k : ℕ) → desk.NotBegun whole d → rules_for (store_found (step_call c d k)) ≡ value rules
  unfolding store_found
  first-rules d k h = rw (h.done, h.closing_registry, h.closing_slashings, h.amounts) e

  later-rules : (n : ℕ) (st : BeaconState) (count : ℕ) (orders : List ℕ) (k : ℕ) → UnderWay whole n st → rules_for (store_found (step_call c (desk_at whole n st count orders) k)) ≡ value rules
  unfolding store_found
  later-rules n st count orders k u =
      let l = u.least in
      let t = (entered c rules e).lent_by in
      rw (ne_eqb n 0 (λ z. omega (arith, z, l)))
      (rules-alike c (desk_at whole n st count orders) (alike_at n st count orders u) (eqb-true _ _ t.closing-registry) (eqb-true _ _ t.closing-slashings) ∙ e)

  rules-on : (n : ℕ) (d : Desk) (os : List Order) (size : ℕ) → On whole n d os size → (k : ℕ) → has_ended d.running ≡ false → rules_for (store_found (step_call c d k)) ≡ value rules
  rules-on n d os size (waiting z h none long) k p = first-rules d k h
  rules-on n d os size (onward st count orders u at h) k p = subst (λ (x : Desk). rules_for (store_found (step_call c x k)) ≡ value rules) (sym at) (later-rules n st count orders k u)
  rules-on n d os size (ended s h) k p = absurd (false≢true (sym p ∙ eq-eqb d.running.done 9 (stopped-done whole d s)))

  same_step : (n : ℕ) (d : Desk) (os : List Order) (size : ℕ) → On whole n d os size → (k : ℕ) → act c d (stepping k) ≡ desk.act whole d (stepping k)
  unfolding act desk.act
  same_step n d os size h k =
      ap (λ (out : StepOutcome). after_step d out) (step_by_lem (step_call c d k) rules (rules-on n d os size h k))

  same-order : (d : Desk) (o : Order) → act c d (ordering o) ≡ desk.act whole d (ordering o)
  unfolding act desk.act
  same-order d o = refl

  ninth-at : (period : ℕ) (answers : List ℕ) (n : ℕ) (x : Desk) (os : List Order) (size : ℕ) → n ≤ 8 → On whole n x os size → store_carry_out (ninth_call c x period answers) ≡ carry_out (desk.ninth_call whole x period answers)
  ninth-at period answers n x os size l (waiting z h none long) =
      early-ninth (ninth_call c x period answers) rules (ne_eqb x.running.done 9 (λ d. absurd (omega (arith, d, h.done)))) (ne_eqb x.running.done 8 (λ d. absurd (omega (arith, d, h.done))))
  ninth-at period answers n x os size l (ended s h) = ended-ninth (ninth_call c x period answers) rules (stopped-done whole x s)
  ninth-at period answers n x os size l (onward st count orders u at h) =
      subst (λ (y : Desk). store_carry_out (ninth_call c y period answers) ≡ carry_out (desk.ninth_call whole y period answers)) (sym at)
      (let a = alike_at n st count orders u in
      let r = read_so c rules e in
      let t = r.entry in
      carry-by (ninth_call c (desk_at whole n st count orders) period answers) rules t.lent_by.store (shaped_as c.registry (encode st.validators) a.registry ∙ t.lent_by.registry) r.good t.shaped t.good (rw a.slot r.at))

  pub ninth-way : (period : ℕ) (answers : List ℕ) (x : Desk) (os : List Order) (size : ℕ) → Way whole x os size → store_carry_out (ninth_call c x period answers) ≡ carry_out (desk.ninth_call whole x period answers)
  ninth-way period answers x os size (under n l h) = ninth-at period answers n x os size l h
  ninth-way period answers x os size (over v) = ended-ninth (ninth_call c x period answers) rules (over_done v)

  same-act : (d : Desk) (a : Act) (os : List Order) (size : ℕ) → Way whole d os size → act c d a ≡ desk.act whole d a
  unfolding act desk.act
  same-act d (stepping k) os size (under n l h) = same_step n d os size h k
  same-act d (ordering o) os size w = refl
  same-act d (carrying period answers) os size w = ap (after_ninth d) (ninth-way period answers d os size w)
  same-act d (stepping k) os size (over v) = ended-act c d (stepping k) (over_done v) ∙ sym (desk-ended whole d (stepping k) (over_done v))

  -- the desk after any calls is the one by these rules, and the same orders are taken
  same-on : (d : Desk) (list : List Act) (os : List Order) (size : ℕ) → Way whole d os size → (acts c d list ≡ desk.acts whole d list) × (arrived_by (act c) d list ≡ arrived_by (desk.act whole) d list)
  unfolding acts desk.acts arrived_by
  same-on d [] os size w = (refl, refl)
  same-on d (a ∷ list) os size w =
      let s = same-act d a os size w in
      let r = same-on (desk.act whole d a) list (with_taken d a os) size (way-act whole d a os size w) in
      (ap (λ (x : Desk). acts c x list) s ∙ r.0, same_taken (act c) (desk.act whole) d a list (ap (λ (x : Desk). arrived_by (act c) x list) s ∙ r.1))

  module _ (d : Desk) (h : NotBegun c d) (list : List Act) where
    pub same-acts : acts c d list ≡ desk.acts whole d list
    same-acts = (same-on d list [] (length d.orders) (not_begun_lem whole d (begun c rules d h))).0

    pub same-arrived : arrived c d list ≡ desk.arrived whole d list
    same-arrived = (same-on d list [] (length d.orders) (not_begun_lem whole d (begun c rules d h))).1

-- Where it has none

ended-acts : (c : StoreCall) (d : Desk) (list : List Act) → d.running.done ≡ 9 → acts c d list ≡ d
unfolding acts
ended-acts c d [] e = refl
ended-acts c d (a ∷ list) e = ap (λ (x : Desk). acts c x list) (ended-act c d a e) ∙ ended-acts c d list e

waiting-order : (c : StoreCall) (d : Desk) (o : Order) → d.running.done ≡ 0 → act c d (ordering o) ≡ d
unfolding act take_order
waiting-order c d o e = rw e

module _ (c : StoreCall) {r : Refusal} (e : rules_for c ≡ refused r) where
  abbrev turned : List ℕ → Desk
  turned orders =
      record {
        running = record {
          done = 9;
          answer = record { refusal = number_of r; finality = c.finality; queue = c.queue; raised = none_raised; test = 0 };
          orders = 0;
        };
        closing_registry = c.closing_registry;
        closing_slashings = c.closing_slashings;
        amounts = c.amounts;
        orders = orders;
      }

  first-turned : (d : Desk) → NotBegun c d → act c d (stepping 1) ≡ turned d.orders
  unfolding act store_step store_step_by step_refused store_found unwritten ended_by
  first-turned d h = rw (h.done, h.closing_registry, h.closing_slashings, h.amounts, e)

  -- before the first call in its turn nothing changes
  early-step : (d : Desk) (k : ℕ) → d.running.done ≡ 0 → eqb k 1 ≡ false → act c d (stepping k) ≡ d
  unfolding act store_step unwritten
  early-step d k z f = rw (z, f)

  early-carry : (d : Desk) (period : ℕ) (answers : List ℕ) → d.running.done ≡ 0 → act c d (carrying period answers) ≡ d
  unfolding act store_carry_out
  early-carry d period answers z = rw z

  early_untaken : (d : Desk) (o : Order) → d.running.done ≡ 0 → is_taken (take_order (order_call d o)) ≡ false
  unfolding take_order
  early_untaken d o z = rw z

  none-later : (orders : List ℕ) (list : List Act) → arrived_by (act c) (turned orders) list ≡ []
  unfolding arrived_by
  none-later orders [] = refl
  none-later orders (stepping k ∷ list) = rw (ended-act c (turned orders) (stepping k) refl) (none-later orders list)
  none-later orders (carrying period answers ∷ list) = rw (ended-act c (turned orders) (carrying period answers) refl) (none-later orders list)
  none-later orders (ordering o ∷ list) = rw (ended-order (turned orders) o refl, ended-act c (turned orders) (ordering o) refl) (none-later orders list)

  -- any calls: none was the first in its turn, or it ended the close
  data Turned (d : Desk) (list : List Act) : Type 0 where
    waits : acts c d list ≡ d → Turned d list
    ends : acts c d list ≡ turned d.orders → arrived_by (act c) d list ≡ [] → Turned d list

  turned-again : (d : Desk) (a : Act) (list : List Act) → act c d a ≡ d → (arrived_by (act c) (act c d a) list ≡ [] → arrived_by (act c) d (a ∷ list) ≡ []) → Turned d list → Turned d (a ∷ list)
  unfolding acts
  turned-again d a list e f (waits g) = waits (ap (λ (x : Desk). acts c x list) e ∙ g)
  turned-again d a list e f (ends g k) = ends (ap (λ (x : Desk). acts c x list) e ∙ g) (f (ap (λ (x : Desk). arrived_by (act c) x list) e ∙ k))

  turned-any : (d : Desk) → NotBegun c d → (list : List Act) → Turned d list
  unfolding acts arrived_by
  turned-any d h [] = waits refl
  turned-any d h (ordering o ∷ list) =
      turned-again d (ordering o) list (waiting-order c d o h.done) (λ e. rw (early_untaken d o h.done) e) (turned-any d h list)
  turned-any d h (carrying period answers ∷ list) =
      turned-again d (carrying period answers) list (early-carry d period answers h.done) (λ e. e) (turned-any d h list)
  turned-any d h (stepping k ∷ list) = go (eqb k 1) refl (turned-any d h list)
    where
      go : (b : Bool) → eqb k 1 ≡ b → Turned d list → Turned d (stepping k ∷ list)
      go false f w = turned-again d (stepping k) list (early-step d k h.done f) (λ e. e) w
      go true f w =
          let first : act c d (stepping k) ≡ turned d.orders = ap (λ (j : ℕ). act c d (stepping j)) (eqb-true k 1 f) ∙ first-turned d h in
          ends (ap (λ (x : Desk). acts c x list) first ∙ ended-acts c (turned d.orders) list refl) (ap (λ (x : Desk). arrived_by (act c) x list) first ∙ none-later d.orders list)

  -- and once steps are done, or it has ended
  pub turned-closed : (d : Desk) → NotBegun c d → (list : List Act) → 8 ≤ (acts c d list).running.done → (acts c d list ≡ turned d.orders) × (arrived c d list ≡ [])
  turned-closed d h list l = go (turned-any d h list)
    where
      go : Turned d list → (acts c d list ≡ turned d.orders) × (arrived c d list ≡ [])
      go (waits e) = absurd (omega (arith, ap (λ (x : Desk). x.running.done) e, h.done, l))
      go (ends e f) = (e, f)

  turned-gives : (orders : List ℕ) → Gives (turned_away c (number_of r)) (turned orders)
  turned-gives orders =
      record {
        answer = refl;
        closing_registry = refl;
        closing_slashings = refl;
        amounts = refl;
        done = rw (ne_eqb (number_of r) 0 (number_not_zero r));
      }

-- Any calls, and the ninth

pub closed-done : {d : Desk} → Closed d → 8 ≤ d.running.done
closed-done (eight_done e) = omega (arith, e)
closed-done (was_refused e f) = omega (arith, e)

pub store_any_calls : StoreAnyCalls
unfolding store_close close_by orders_in
store_any_calls c d h list f = go (rules_for c) refl
  where
    go : (m : Checked Rules) → rules_for c ≡ m → GivesWhole (close_by c m) (arrived c d list) (acts c d list)
    go (value rules) e =
        let same = same-acts c rules e d h list in
        rw (same, same-arrived c rules e d h list) (any-calls (call_by c rules) d (begun c rules d h) list (subst Closed same f))
    go (refused r) e =
        let t = turned-closed c e d h list (closed-done f) in
        rw (t.0, t.1) (record { gives = turned-gives c e d.orders; orders = refl })

close-by : (c : StoreCall) (rules : Rules) → rules_for c ≡ value rules → store_close c ≡ full_close (call_by c rules)
unfolding store_close close_by
close-by c rules e = rw e

pub store_nine_calls : StoreNineCalls
store_nine_calls c d h list period answers = (λ z lent. go z lent (rules_for c) refl, λ z. says (ninth_call c (acts c d list) period answers) z)
  where
    go : (acts c d list).running.done ≡ 8 → NinthLent d period answers → (m : Checked Rules) → rules_for c ≡ m → (rules : Rules) × (rules_for c ≡ value rules) × Carries (call_by c rules) (arrived c d list) period answers (store_carry_out (ninth_call c (acts c d list) period answers))
    go z lent (value rules) e =
        let whole = call_by c rules in
        let same = same-acts c rules e d h list in
        let n = any_way whole d (begun c rules d h) list in
        let ninth = ap (λ (x : Desk). store_carry_out (ninth_call c x period answers)) same ∙ ninth-way c rules e period answers (desk.acts whole d list) _ _ n in
        (rules, e, rw (ninth, same-arrived c rules e d h list) ((nine-calls whole d (begun c rules d h) list period answers).0 (sym (ap (λ (x : Desk). x.running.done) same) ∙ z) lent))
    go z lent (refused r) e = absurd (omega (arith, z, ap (λ (x : Desk). x.running.done) (turned-closed c e d h list (omega (arith, z))).0))

pub store_after-nine : StoreAfterNine
store_after-nine c d h list z r = go (rules_for c) refl
  where
    go : (m : Checked Rules) → rules_for c ≡ m → (rules : Rules) × (rules_for c ≡ value rules) × CarriedOut (store_close c) (settings_under rules) (arrived c d list) (acts c d list)
    go (value rules) e =
        let same = same-acts c rules e d h list in
        (rules, e, rw (same, same-arrived c rules e d h list, close-by c rules e) (after-nine (call_by c rules) d (begun c rules d h) list (sym (ap (λ (x : Desk). x.running.done) same) ∙ z) (sym (ap (λ (x : Desk). x.running.answer.refusal) same) ∙ r)))
    go (refused q) e = absurd (number_not_zero q (sym (ap (λ (x : Desk). x.running.answer.refusal) (turned-closed c e d h list (omega (arith, z))).0) ∙ r))

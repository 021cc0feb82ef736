-- Whatever calls are made, in turn or not, with whatever orders: once eight steps are done, or the close is refused, the desk has what the whole close
-- gives.
use mathlib.Core.Path.{◌≡◌, refl, sym, ap, ◌∙◌, subst}
use mathlib.Core.Bool.{Bool, true, false, cond, ◌&&◌}
use mathlib.Core.List.{List, [], ◌∷◌, ◌++◌, append_assoc, append-nil}
use Prim.Native.Nat.{ℕ, zero, suc, ◌+◌, ◌*◌, ◌≤◌, ◌<◌}
use native.Mathlib.Numerals.{add-one}
use native.Mathlib.Omega.{arith}
use borrow.Author.Tests.{ltb-true, leb-true, eqb-true, eqb-false, ne_eqb}
use lib.Dec.{leb, ltb, eqb}
use lib.ListN.{length, set, length-set}
use Rattle.definitions.specs.Record.{BeaconState}
use Rattle.definitions.specs.Checked.{Checked, value, refused, bind}
use Rattle.definitions.specs.Refusals.{after_tests, closing_buffer}
use Rattle.definitions.specs.Raised.{raised_unless_refused}
use Rattle.definitions.specs.Close.{state_of, process_epoch, limited_epoch}
use Rattle.definitions_close.specs.Amounts.{limited_closing_amounts}
use Rattle.definitions_close.specs.FullClose.{FullCall, settings_of, fully_closed, limited_fully_closed, closing_queue, full_close, limited_full_close}
use Rattle.definitions_close.specs.declared.Running.{Running}
use Rattle.definitions_close.specs.CloseBySteps.{has_ended, in_turn, unwritten, close_step}
use Rattle.definitions_close.specs.Orders.{Order, orders_in, OrderCall, takes_orders, orders_shaped, room, with_orders, appended, take_order, ninth_tests, carries_out, ninth_in_turn, carry_out}
use Rattle.theorems.specs.CloseBySteps.Desk.{Desk, Act, stepping, ordering, carrying, step_call, order_call, ninth_call, after_ninth, act, acts, NotBegun, Gives, Closed, eight_done, was_refused, GivesWhole, AnyCalls, is_taken, arrived_by, arrived}
use Rattle.laws.proofs.Tests.{both}
use Rattle.theorems.proofs.CloseBySteps.Amounts.{amounts-end}
use Rattle.theorems.proofs.CloseBySteps.Turns.{Stopped, UnderWay, desk_at, Listed, On, waiting, onward, ended, ended_at, not_begun, first-call, later-call}

-- An order changes the list and its count alone

turned : (x : OrderCall) (e t f : Bool) → has_ended x.running ≡ e → (takes_orders x.running && orders_shaped x.running.orders x.orders) ≡ t → ltb x.running.orders (room x.orders) ≡ f → (take_order x).answer.running ≡ with_orders (take_order x).answer.running.orders x.running
unfolding take_order appended
turned x true t f p q r = rw p
turned x false true true p q r = rw (p, q, r)
turned x false true false p q r = rw (p, q, r)
turned x false false f p q r = rw (p, q)

pub order-running : (x : OrderCall) → (take_order x).answer.running ≡ with_orders (take_order x).answer.running.orders x.running
order-running x = turned x _ _ _ refl refl refl

-- and puts itself behind those that arrived before

behind : (count : ℕ) (list : List ℕ) (o : Order) → 2 * count + 1 < length list → orders_in (suc count) (set (set list (2 * count) o.validator) (2 * count + 1) o.start) ≡ orders_in count list ++ (o ∷ [])
unfolding orders_in
behind zero (a ∷ b ∷ list) o l = refl
behind zero (a ∷ []) o l = absurd (omega arith)
behind zero [] o l = absurd (omega arith)
behind (suc count) (a ∷ b ∷ list) o l =
    let k : 2 * suc count ≡ suc (suc (2 * count)) = omega arith in
    let j : suc (suc (2 * count)) + 1 ≡ suc (suc (2 * count + 1)) = omega arith in
    rw (k, j) (ap (λ (os : List Order). record { validator = a; start = b } ∷ os) (behind count list o (omega arith)))
behind (suc count) (a ∷ []) o l = absurd (omega arith)
behind (suc count) [] o l = absurd (omega arith)

listed-order : (x : OrderCall) (os : List Order) (size : ℕ) (e t f : Bool) → has_ended x.running ≡ e → (takes_orders x.running && orders_shaped x.running.orders x.orders) ≡ t → ltb x.running.orders (room x.orders) ≡ f → Listed x.running.orders x.orders os size → Listed (take_order x).answer.running.orders (take_order x).orders (cond (is_taken (take_order x)) (os ++ (x.order ∷ [])) os) size
unfolding take_order appended
listed-order x os size true t f p q r h = rw p h
listed-order x os size false true true p q r h =
    let count = x.running.orders in
    let l : count < room x.orders = ltb-true count (room x.orders) r in
    let n = h.long in
    rw (p, q, r)
    (record {
      are = ap (λ (k : ℕ). orders_in k (set (set x.orders (2 * count) x.order.validator) (2 * count + 1) x.order.start)) (add-one count) ∙ behind count x.orders x.order (omega arith) ∙ ap (λ (us : List Order). us ++ (x.order ∷ [])) h.are;
      long = simp length-set h.long;
      fits = omega arith;
    })
listed-order x os size false true false p q r h = rw (p, q, r) h
listed-order x os size false false f p q r h = rw (p, q) h

-- After the end, and before the first call, nothing changes

pub ended-act : (c : FullCall) (d : Desk) (a : Act) → d.running.done ≡ 9 → act c d a ≡ d
unfolding act close_step unwritten take_order carry_out
ended-act c d (stepping k) e = rw e
ended-act c d (ordering o) e = rw e
ended-act c d (carrying period answers) e = rw e

-- and no order is taken
pub ended-order : (d : Desk) (o : Order) → d.running.done ≡ 9 → is_taken (take_order (order_call d o)) ≡ false
unfolding take_order
ended-order d o e = rw e

-- out of turn nothing changes
out_of_turn : (c : FullCall) (d : Desk) (k : ℕ) → eqb d.running.done 9 ≡ false → in_turn (step_call c d k) ≡ false → act c d (stepping k) ≡ d
unfolding act close_step unwritten
out_of_turn c d k p q = rw (p, q)

early-ninth : (c : FullCall) (d : Desk) (period : ℕ) (answers : List ℕ) → eqb d.running.done 9 ≡ false → eqb d.running.done 8 ≡ false → act c d (carrying period answers) ≡ d
unfolding act carry_out
early-ninth c d period answers p q = rw (p, q)

waiting-order : (c : FullCall) (d : Desk) (o : Order) → d.running.done ≡ 0 → (act c d (ordering o) ≡ d) × (is_taken (take_order (order_call d o)) ≡ false)
unfolding act take_order
waiting-order c d o e = (rw e, rw e)

-- All calls

pub stopped-done : (c : FullCall) (d : Desk) → Stopped c d → d.running.done ≡ 9
stopped-done c d s = s.gives.done ∙ ap (λ (b : Bool). cond b 8 9) (ne_eqb (full_close c).refusal 0 s.refusal)

begun : (c : FullCall) (d : Desk) → NotBegun c d → d ≡ not_begun c d.running.answer d.running.orders d.orders
begun c d h =
    rw (sym h.done, sym h.closing_registry, sym h.closing_slashings, sym h.amounts)

pub step-on : (c : FullCall) (n : ℕ) (d : Desk) (os : List Order) (size : ℕ) → n < 8 → On c n d os size → On c (n + 1) (act c d (stepping (n + 1))) os size
step-on c n d os size l (waiting e h none long) =
    subst (λ (j : ℕ). On c (j + 1) (act c d (stepping (j + 1))) os size) (sym e)
    (rw none
    (subst (λ (k : ℕ). On c 1 (act c d (stepping 1)) [] k) long
    (subst (λ (x : Desk). On c 1 (act c x (stepping 1)) [] (length d.orders)) (sym (begun c d h)) (first-call c d.running.answer d.running.orders d.orders))))
step-on c zero d os size l (onward st count orders u e h) = absurd (let k = u.least in omega (arith, k))
step-on c (suc m) d os size l (onward st count orders u e h) =
    subst (λ (x : Desk). On c (suc m + 1) (act c x (stepping (suc m + 1))) os size) (sym e) (later-call c m st u l count orders h)
step-on c n d os size l (ended s h) = ended_at (ended-act c d (stepping (n + 1)) (stopped-done c d s)) s h

-- with the order, where it is taken
abbrev pub with : Desk → Order → List Order → List Order
with d o os = cond (is_taken (take_order (order_call d o))) (os ++ (o ∷ [])) os

pub order-on : (c : FullCall) (n : ℕ) (d : Desk) (o : Order) (os : List Order) (size : ℕ) → On c n d os size → On c n (act c d (ordering o)) (with d o os) size
unfolding act
order-on c n d o os size (waiting e h none long) =
    let w = waiting-order c d o h.done in
    subst (λ (x : Desk). On c n x (with d o os) size) (sym w.0) (waiting e h (rw w.1 none) long)
order-on c n d o os size (onward st count orders u e h) =
    subst (λ (x : Desk). On c n (act c x (ordering o)) (with x o os) size) (sym e)
    (let here = desk_at c n st count orders in
    let out = take_order (order_call here o) in
    onward st out.answer.running.orders out.orders u
    (ap (λ (w : Running).
    record {
      running = w;
      closing_registry = here.closing_registry;
      closing_slashings = here.closing_slashings;
      amounts = here.amounts;
      orders = out.orders;
    }) (order-running (order_call here o)))
    (listed-order (order_call here o) os size _ _ _ refl refl refl h))
order-on c n d o os size (ended s h) =
    let e = stopped-done c d s in
    rw (ended-order d o e) (ended_at (ended-act c d (ordering o) e) s h)

with-later : (t : Bool) (o : Order) (os later : List Order) → cond t (os ++ (o ∷ [])) os ++ later ≡ os ++ cond t (o ∷ later) later
with-later true o os later = append_assoc os (o ∷ []) later
with-later false o os later = refl

-- What the eighth leaves

accepted : (c : FullCall) (st : BeaconState) → UnderWay c 8 st → fully_closed c ≡ value st
unfolding limited_fully_closed after_tests bind limited_epoch
accepted c st u = rw (u.tested, u.went)

pub worked : (c : FullCall) (st : BeaconState) → UnderWay c 8 st → process_epoch (settings_of c) (state_of c.call) ≡ value st
unfolding limited_epoch
worked c st u = u.went

pub onward-gives : (c : FullCall) (st : BeaconState) (count : ℕ) (orders : List ℕ) → UnderWay c 8 st → Gives (full_close c) (desk_at c 8 st count orders)
unfolding limited_full_close limited_closing_amounts closing_buffer closing_queue raised_unless_refused bind
onward-gives c st count orders u =
    let p = u.tested in
    let q = worked c st u in
    let e = accepted c st u in
    let a = amounts-end c q in
    record {
      answer = rw e;
      closing_registry = rw (p, q);
      closing_slashings = rw (p, q);
      amounts = rw (p, q, a);
      done = rw e;
    }

-- Any call

-- where the orders have been carried out, by a ninth call that came after eight steps
pub record Over (c : FullCall) (d : Desk) (os : List Order) (size : ℕ) : Type 0 where
  pub state : BeaconState
  pub count : ℕ
  pub list : List ℕ
  pub way : UnderWay c 8 state
  pub listed : Listed count list os size
  pub period : ℕ
  pub answers : List ℕ
  pub is : d ≡ after_ninth (desk_at c 8 state count list) (carries_out (ninth_call c (desk_at c 8 state count list) period answers))

-- after any calls: n steps are done, or it is over
pub data Way (c : FullCall) (d : Desk) (os : List Order) (size : ℕ) : Type 0 where
  under : (n : ℕ) → n ≤ 8 → On c n d os size → Way c d os size
  over : Over c d os size → Way c d os size

pub over_done : {c : FullCall} {d : Desk} {os : List Order} {size : ℕ} → Over c d os size → d.running.done ≡ 9
unfolding carries_out
over_done o = ap (λ (x : Desk). x.running.done) o.is

stays : {c : FullCall} {d x : Desk} {os : List Order} {size : ℕ} → x ≡ d → Way c d os size → Way c x os size
stays {c} {d} {x} {os} {size} e w = subst (λ (y : Desk). Way c y os size) (sym e) w

-- n steps are done, and it has not ended
step-way : (c : FullCall) (n : ℕ) (d : Desk) (k : ℕ) (os : List Order) (size : ℕ) → n ≤ 8 → d.running.done ≡ n → On c n d os size → (t : Bool) → in_turn (step_call c d k) ≡ t → Way c (act c d (stepping k)) os size
step-way c n d k os size l e h false q = stays (out_of_turn c d k (ne_eqb d.running.done 9 (λ z. absurd (omega (arith, z, e, l)))) q) (under n l h)
step-way c n d k os size l e h true q =
    let b = both (eqb k (d.running.done + 1)) (leb k 8) q in
    let i = eqb-true k (d.running.done + 1) b.0 in
    let m = leb-true k 8 b.1 in
    let j : n + 1 ≡ k = omega (arith, i, e) in
    under (n + 1) (omega (arith, j, m)) (subst (λ (x : ℕ). On c (n + 1) (act c d (stepping x)) os size) j (step-on c n d os size (omega (arith, j, m)) h))

-- a ninth call out of its turn, or in it: refused by its tests, or carried out
ninth-at : (c : FullCall) (st : BeaconState) (count : ℕ) (orders : List ℕ) (os : List Order) (size : ℕ) → UnderWay c 8 st → Listed count orders os size → (period : ℕ) (answers : List ℕ) → Way c (act c (desk_at c 8 st count orders) (carrying period answers)) os size
unfolding act carry_out ninth_in_turn
ninth-at c st count orders os size u h period answers = go (ninth_tests (ninth_call c here period answers))
  where
    here : Desk
    here = desk_at c 8 st count orders

    go : (t : Checked (Unit {0})) → Way c (after_ninth here (ninth_in_turn (ninth_call c here period answers) t)) os size
    go (refused r) = under 8 (omega arith) (onward st count orders u refl h)
    go (value v) = over (record { state = st; count = count; list = orders; way = u; listed = h; period = period; answers = answers; is = refl })

ninth-way : (c : FullCall) (n : ℕ) (d : Desk) (os : List Order) (size : ℕ) → n ≤ 8 → On c n d os size → (period : ℕ) (answers : List ℕ) → Way c (act c d (carrying period answers)) os size
ninth-way c n d os size l (waiting e h none long) period answers =
    stays (early-ninth c d period answers (ne_eqb d.running.done 9 (λ z. absurd (omega (arith, z, h.done)))) (ne_eqb d.running.done 8 (λ z. absurd (omega (arith, z, h.done)))))
    (under n l (waiting e h none long))
ninth-way c n d os size l (ended s h) period answers = stays (ended-act c d (carrying period answers) (stopped-done c d s)) (under n l (ended s h))
ninth-way c n d os size l (onward st count orders u e h) period answers = go (eqb n 8) refl
  where
    done : d.running.done ≡ n
    done = ap (λ (x : Desk). x.running.done) e

    go : (t : Bool) → eqb n 8 ≡ t → Way c (act c d (carrying period answers)) os size
    go false f =
        let not8 = eqb-false n 8 f in
        stays (early-ninth c d period answers (ne_eqb d.running.done 9 (λ z. absurd (omega (arith, z, done, l)))) (ne_eqb d.running.done 8 (λ z. not8 (omega (arith, z, done)))))
        (under n l (onward st count orders u e h))
    go true f =
        let z = eqb-true n 8 f in
        subst (λ (x : Desk). Way c (act c x (carrying period answers)) os size) (sym (e ∙ ap (λ (j : ℕ). desk_at c j st count orders) z))
        (ninth-at c st count orders os size (subst (λ (j : ℕ). UnderWay c j st) z u) h period answers)

-- with the order, where one is taken
abbrev pub with_taken : Desk → Act → List Order → List Order
with_taken d (stepping k) os = os
with_taken d (ordering o) os = with d o os
with_taken d (carrying period answers) os = os

pub way-act : (c : FullCall) (d : Desk) (a : Act) (os : List Order) (size : ℕ) → Way c d os size → Way c (act c d a) (with_taken d a os) size
way-act c d (stepping k) os size (under n l h) = go h
  where
    go : On c n d os size → Way c (act c d (stepping k)) os size
    go (waiting e h none long) = step-way c n d k os size l (h.done ∙ sym e) (waiting e h none long) _ refl
    go (onward st count orders u e h) = step-way c n d k os size l (ap (λ (x : Desk). x.running.done) e) (onward st count orders u e h) _ refl
    go (ended s h) = stays (ended-act c d (stepping k) (stopped-done c d s)) (under n l (ended s h))
way-act c d (ordering o) os size (under n l h) = under n l (order-on c n d o os size h)
way-act c d (carrying period answers) os size (under n l h) = ninth-way c n d os size l h period answers
way-act c d (stepping k) os size (over v) = stays (ended-act c d (stepping k) (over_done v)) (over v)
way-act c d (ordering o) os size (over v) = rw (ended-order d o (over_done v)) (stays (ended-act c d (ordering o) (over_done v)) (over v))
way-act c d (carrying period answers) os size (over v) = stays (ended-act c d (carrying period answers) (over_done v)) (over v)

-- all that arrived, with those before
pub taken-first : (next : Desk → Act → Desk) (d : Desk) (a : Act) (list : List Act) (os : List Order) → with_taken d a os ++ arrived_by next (next d a) list ≡ os ++ arrived_by next d (a ∷ list)
unfolding arrived_by
taken-first next d (stepping k) list os = refl
taken-first next d (ordering o) list os = with-later (is_taken (take_order (order_call d o))) o os (arrived_by next (next d (ordering o)) list)
taken-first next d (carrying period answers) list os = refl

way-acts : (c : FullCall) (d : Desk) (list : List Act) (os : List Order) (size : ℕ) → Way c d os size → Way c (acts c d list) (os ++ arrived c d list) size
unfolding acts arrived_by
way-acts c d [] os size w = rw (append-nil os) w
way-acts c d (a ∷ list) os size w =
    subst (λ (us : List Order). Way c (acts c (act c d a) list) us size) (taken-first (act c) d a list os) (way-acts c (act c d a) list (with_taken d a os) size (way-act c d a os size w))

pub not_begun_lem : (c : FullCall) (d : Desk) → NotBegun c d → Way c d [] (length d.orders)
not_begun_lem c d h = under 0 (omega arith) (waiting refl h refl refl)

pub any_way : (c : FullCall) (d : Desk) → NotBegun c d → (list : List Act) → Way c (acts c d list) (arrived c d list) (length d.orders)
any_way c d h list = way-acts c d list [] (length d.orders) (not_begun_lem c d h)

-- What is left

way-gives : (c : FullCall) (d : Desk) (os : List Order) (size : ℕ) → Way c d os size → Closed d → GivesWhole (full_close c) os d
unfolding carries_out
way-gives c d os size (under n l (waiting e h none long)) (eight_done z) = absurd (omega (arith, h.done, z))
way-gives c d os size (under n l (waiting e h none long)) (was_refused z f) = absurd (omega (arith, h.done, z))
way-gives c d os size (under n l (onward st count orders u e h)) (eight_done z) =
    let k : n ≡ 8 = sym (ap (λ (x : Desk). x.running.done) e) ∙ z in
    let is = e ∙ ap (λ (j : ℕ). desk_at c j st count orders) k in
    subst (GivesWhole (full_close c) os) (sym is) (record { gives = onward-gives c st count orders (subst (λ (j : ℕ). UnderWay c j st) k u); orders = h.are })
way-gives c d os size (under n l (onward st count orders u e h)) (was_refused z f) = absurd (f (ap (λ (x : Desk). x.running.answer.refusal) e))
way-gives c d os size (under n l (ended s h)) f = record { gives = s.gives; orders = h.are }
way-gives c d os size (over v) (eight_done z) = absurd (omega (arith, over_done v, z))
way-gives c d os size (over v) (was_refused z f) = absurd (f (ap (λ (x : Desk). x.running.answer.refusal) v.is))

pub any-calls : AnyCalls
any-calls c d h list f = way-gives c (acts c d list) _ _ (any_way c d h list) f

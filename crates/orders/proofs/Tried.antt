-- Orders by numbers: one, and all in order of arrival.
use mathlib.Core.Path.{◌≡◌, refl, sym, ap, ap₂, ◌∙◌}
use mathlib.Core.Bool.{Bool, true, false, cond, ◌&&◌, false≢true}
use mathlib.Core.List.{List, [], ◌∷◌, ◌++◌}
use Prim.Native.Nat.{ℕ, zero, suc, ◌+◌, ◌-◌, ◌*◌, ◌≤◌, ◌<◌}
use native.Mathlib.Numerals.{add-one}
use native.Mathlib.Omega.{arith}
use borrow.Author.Tests.{lt-ltb, le-ltb, le-leb, lt-leb, leb-true, leb-false}
use lib.Dec.{leb, ltb, eqb}
use lib.ListN.{length, get_or, drop, set, length-drop, length-set}
use lib.Seq.{get_or-drop}
use Rattle.definitions.specs.declared.ExitQueue.{ExitQueue}
use Rattle.definitions.specs.declared.Settings.{Settings}
use Rattle.definitions.specs.Record.{Validator, nobody, decode_one, encode, decode, FAR_FUTURE_EPOCH}
use Rattle.definitions.specs.Checked.{Checked, value, refused, number_of, code_of, done, settle}
use Rattle.definitions.specs.declared.Refusal.{Refusal}
use Rattle.definitions.specs.declared.Refusal.TheVariants.{NoExit, TooEarly}
use Rattle.definitions.specs.ExitQueue.{queue_of}
use Rattle.definitions.specs.Rust.Phase0.Helpers.{is_active_validator, get_current_epoch, get_validator_churn_limit, compute_activation_exit_epoch, initiate_validator_exit}
use Rattle.definitions_close.proofs.Orders.{orders-long}
use Rattle.definitions_close.specs.Orders.{Order, orders_in, may_exit, is_due, process_voluntary_exit, carried_out, answers_to}
use Rattle.laws.proofs.Encode.{length-decode, encode-decode, decode-encode}
use Rattle.laws.proofs.Checked.{not_value, refused_same}
use Rattle.laws.proofs.Loops.Ran.{ran-refused}
use Rattle.laws.proofs.Loops.Entry.{entry_at, entry-is, number-at}
use Rattle.laws.proofs.Tests.{both}
use Rattle.exit_queue.specs.Exits.{exit_at}
use Rattle.exit_queue.proofs.exits.Exits.{exit_by-numbers}
use Rattle.exit_queue.proofs.exits.Limit.{limit-exit}
use Rattle.validator_exit.specs.Exits.{LeavesPair}
use Rattle.definitions_close.specs.Calls.{order}
use Rattle.orders.specs.Tried.{entry_may_exit, order_by, carried_by, answers_by, AllTried}

-- One order on the registry xs of n validators

module _ (epoch period least limit delay n : ℕ) (xs : List ℕ) (long : length xs ≡ 10 * n) (validator start : ℕ) where
  abbrev vs : List Validator
  vs = decode xs

  abbrev m : Checked (List Validator)
  m = order_by epoch period least limit delay vs (order validator start)

  -- turned away, with nothing changed
  turned : (r : Refusal) → m ≡ refused r → LeavesPair m xs xs (refused r)
  turned r e = rw e (record { leaves = record { ran = ran-refused refl; kept = λ p h. refl }; queue = λ z. absurd (not_value z) })

  pub unknown : n ≤ validator → LeavesPair m xs xs (refused NoExit)
  unfolding order_by may_exit
  unknown l = turned NoExit (rw (le-ltb validator (length vs) (omega (arith, length-decode n xs long, l))))

  module _ (l : validator < n) where
    abbrev v : Validator
    v = get_or vs validator nobody

    inside : ltb validator (length vs) ≡ true
    inside = lt-ltb validator (length vs) (omega (arith, length-decode n xs long, l))

    pub cannot : entry_may_exit epoch v ≡ false → LeavesPair m xs xs (refused NoExit)
    unfolding order_by may_exit
    cannot e = turned NoExit (go (is_active_validator v epoch) (eqb v.exit_epoch FAR_FUTURE_EPOCH) refl refl)
      where
        go : (a b : Bool) → is_active_validator v epoch ≡ a → eqb v.exit_epoch FAR_FUTURE_EPOCH ≡ b → m ≡ refused NoExit
        go true true p q = absurd (false≢true (sym e ∙ rw (p, q)))
        go true false p q = rw (inside, p, q)
        go false b p q = rw (inside, p)

    may : entry_may_exit epoch v ≡ true → may_exit epoch vs validator ≡ true
    unfolding may_exit
    may e =
        let a = both (is_active_validator v epoch) (eqb v.exit_epoch FAR_FUTURE_EPOCH) e in
        rw (inside, a.0, a.1)

    pub early : entry_may_exit epoch v ≡ true → is_due epoch period v start ≡ false → LeavesPair m xs xs (refused TooEarly)
    unfolding order_by
    early e f = turned TooEarly (rw (may e, f))

    pub exits : entry_may_exit epoch v ≡ true → is_due epoch period v start ≡ true → {after : List ℕ} {t : Checked ExitQueue} → LeavesPair (exit_at least limit delay vs validator) xs after t → LeavesPair m xs after t
    unfolding order_by
    exits e f h = rw (may e, f) h

    -- an active validator's activation is not ahead
    pub active-since : entry_may_exit epoch v ≡ true → v.activation_epoch ≤ epoch
    unfolding is_active_validator
    active-since e =
        let a = both (is_active_validator v epoch) (eqb v.exit_epoch FAR_FUTURE_EPOCH) e in
        leb-true v.activation_epoch epoch (both (leb v.activation_epoch epoch) (ltb epoch v.exit_epoch) a.0).0

    -- by the validator's part of the registry, and its activation epoch there
    pub may_part : entry_may_exit epoch (decode_one (entry_at xs validator)) ≡ true → entry_may_exit epoch v ≡ true
    may_part e = sym (ap (entry_may_exit epoch) (entry-is n xs validator long l)) ∙ e

    activation-is : get_or xs (10 * validator + 3) 0 ≡ v.activation_epoch
    activation-is = number-at n xs validator long l 3 (omega arith)

    pub since-part : entry_may_exit epoch (decode_one (entry_at xs validator)) ≡ true → get_or xs (10 * validator + 3) 0 ≤ epoch
    since-part e = rw activation-is (active-since (may_part e))

    pub due-part : (leb start epoch && leb (get_or xs (10 * validator + 3) 0 + period) epoch) ≡ is_due epoch period v start
    unfolding is_due
    due-part = ap (λ (a : ℕ). leb start epoch && leb (a + period) epoch) activation-is

-- the period is compared without a sum
pub due : (activation period epoch : ℕ) → activation ≤ epoch → leb period (epoch - activation) ≡ leb (activation + period) epoch
due activation period epoch l = go (leb (activation + period) epoch) refl
  where
    go : (t : Bool) → leb (activation + period) epoch ≡ t → leb period (epoch - activation) ≡ t
    go true e = let h = leb-true (activation + period) epoch e in le-leb period (epoch - activation) (omega arith)
    go false e = let h = leb-false (activation + period) epoch e in lt-leb period (epoch - activation) (omega arith)

-- All

orders-more : (i : ℕ) (xs : List ℕ) → orders_in (suc i) xs ≡ orders_in i xs ++ (order (get_or xs (2 * i) 0) (get_or xs (2 * i + 1) 0) ∷ [])
unfolding orders_in
orders-more zero xs = refl
orders-more (suc i) xs =
    ap (λ (os : List Order). order (get_or xs 0 0) (get_or xs 1 0) ∷ os)
    (orders-more i (drop 2 xs) ∙ ap (λ (o : Order). orders_in i (drop 2 xs) ++ (o ∷ [])) (ap₂ order (at (2 * i) (2 * suc i) (omega arith)) (at (2 * i + 1) (2 * suc i + 1) (omega arith))))
  where
    at : (j k : ℕ) → 2 + j ≡ k → get_or (drop 2 xs) j 0 ≡ get_or xs k 0
    at j k e = get_or-drop 2 xs j 0 ∙ ap (λ (q : ℕ). get_or xs q 0) e

module _ (f : List Validator → Order → Checked (List Validator)) where
  carried-more : (vs : List Validator) (os : List Order) (o : Order) → carried_by f vs (os ++ (o ∷ [])) ≡ settle (f (carried_by f vs os) o) (carried_by f vs os)
  unfolding carried_by
  carried-more vs [] o = refl
  carried-more vs (p ∷ os) o = carried-more (settle (f vs p) vs) os o

  answers-more : (vs : List Validator) (os : List Order) (o : Order) → answers_by f vs (os ++ (o ∷ [])) ≡ answers_by f vs os ++ (code_of (f (carried_by f vs os) o) ∷ [])
  unfolding answers_by carried_by
  answers-more vs [] o = refl
  answers-more vs (p ∷ os) o = ap (λ (t : List ℕ). code_of (f vs p) ∷ t) (answers-more (settle (f vs p) vs) os o)

  answers-long : (vs : List Validator) (os : List Order) → length (answers_by f vs os) ≡ length os
  unfolding answers_by
  answers-long vs [] = refl
  answers-long vs (o ∷ os) = ap suc (answers-long (settle (f vs o) vs) os)

set-behind : (xs ys : List ℕ) (i y : ℕ) → length xs ≡ i → i < length xs + length ys → set (xs ++ ys) i y ≡ (xs ++ (y ∷ [])) ++ drop 1 ys
set-behind [] [] i y e l = absurd (omega (arith, l))
set-behind [] (z ∷ ys) zero y e l = refl
set-behind [] (z ∷ ys) (suc i) y e l = absurd (omega (arith, e))
set-behind (x ∷ xs) ys zero y e l = absurd (omega (arith, e))
set-behind (x ∷ xs) ys (suc i) y e l = ap (λ (t : List ℕ). x ∷ t) (set-behind xs ys i y (omega (arith, e)) (omega (arith, l)))

drop_more : (i : ℕ) (xs : List ℕ) → drop 1 (drop i xs) ≡ drop (suc i) xs
drop_more zero xs = refl
drop_more (suc i) [] = refl
drop_more (suc i) (x ∷ xs) = drop_more i xs

-- the registry after a try, and the number that is told of it
tried_held : (m : Checked (List Validator)) (n : ℕ) {xs ys : List ℕ} {t : Checked ExitQueue} → length xs ≡ 10 * n → LeavesPair m xs ys t → ys ≡ encode (settle m (decode xs))
tried_held (value ws) n long h = h.leaves.ran.held ws refl
tried_held (refused r) n {xs = xs} long h = h.leaves.kept r refl ∙ sym (encode-decode n xs long)

same-number : {A B : Type 0} (m : Checked A) (t : Checked B) → done t ≡ done m → code_of t ≡ code_of m
same-number (value x) (value y) e = refl
same-number (value x) (refused q) e = absurd (not_value e)
same-number (refused p) (value y) e = absurd (not_value (sym e))
same-number (refused p) (refused q) e = ap number_of (refused_same e)

-- after i orders
pub record Trying (f : List Validator → Order → Checked (List Validator)) (n : ℕ) (xs₀ orders lent : List ℕ) (count i : ℕ) (xs answers : List ℕ) (q : ExitQueue) : Type 0 where
  pub below : i ≤ count
  pub long : length xs ≡ 10 * n
  pub held : xs ≡ encode (carried_by f (decode xs₀) (orders_in i orders))
  pub answered : answers ≡ answers_by f (decode xs₀) (orders_in i orders) ++ drop i lent
  pub room : length answers ≡ length lent
  pub queue : q ≡ queue_of (decode xs)

pub trying_none : {f : List Validator → Order → Checked (List Validator)} {n : ℕ} {xs₀ orders lent : List ℕ} {count : ℕ} {q : ExitQueue} → length xs₀ ≡ 10 * n → q ≡ queue_of (decode xs₀) → Trying f n xs₀ orders lent count 0 xs₀ lent q
unfolding orders_in carried_by answers_by
trying_none {n = n} {xs₀ = xs₀} long h = record { below = omega arith; long = long; held = sym (encode-decode n xs₀ long); answered = refl; room = refl; queue = h }

module _ {f : List Validator → Order → Checked (List Validator)} {n : ℕ} {xs₀ orders lent : List ℕ} {count i : ℕ} {xs answers : List ℕ} {q : ExitQueue} (g : Trying f n xs₀ orders lent count i xs answers q) {ys : List ℕ} {t : Checked ExitQueue} (l : i < count) (fits : count ≤ length lent) (same : length ys ≡ length xs) (h : LeavesPair (f (decode xs) (order (get_or orders (2 * i) 0) (get_or orders (2 * i + 1) 0))) xs ys t) where
  trying_next : {number : ℕ} {pair : ExitQueue} → number ≡ code_of t → pair ≡ queue_of (decode ys) → Trying f n xs₀ orders lent count (i + 1) ys (set answers i number) pair
  trying_next {number} {pair} told k =
      record {
        below = omega arith;
        long = same ∙ g.long;
        held = tried_held (f (decode xs) o) n g.long h ∙ ap (λ (us : List Validator). encode (settle (f us o) us)) so_far ∙ ap encode (sym (carried-more f vs (orders_in i orders) o)) ∙ ap (λ (os : List Order). encode (carried_by f vs os)) (sym next);
        answered =
            ap₂ (λ (given : List ℕ) (y : ℕ). set given i y) g.answered (told ∙ same-number (f (decode xs) o) t h.leaves.ran.is ∙ ap (λ (us : List Validator). code_of (f us o)) so_far)
            ∙ set-behind (answers_by f vs (orders_in i orders)) (drop i lent) i _ size (omega (arith, size, length-drop i lent, l, fits))
            ∙ ap₂ ◌++◌ (sym (answers-more f vs (orders_in i orders) o) ∙ ap (answers_by f vs) (sym next)) (drop_more i lent ∙ ap (λ (k : ℕ). drop k lent) (sym (add-one i)));
        room = length-set answers i number ∙ g.room;
        queue = k;
      }
    where
      vs : List Validator
      vs = decode xs₀

      o : Order
      o = order (get_or orders (2 * i) 0) (get_or orders (2 * i + 1) 0)

      so_far : decode xs ≡ carried_by f vs (orders_in i orders)
      so_far = ap decode g.held ∙ decode-encode (carried_by f vs (orders_in i orders))

      size : length (answers_by f vs (orders_in i orders)) ≡ i
      size = answers-long f vs (orders_in i orders) ∙ orders-long i orders

      next : orders_in (i + 1) orders ≡ orders_in i orders ++ (o ∷ [])
      next = ap (λ (k : ℕ). orders_in k orders) (add-one i) ∙ orders-more i orders

  pub trying_exit : {pair : ExitQueue} → t ≡ value pair → Trying f n xs₀ orders lent count (i + 1) ys (set answers i 0) pair
  trying_exit z = trying_next (ap code_of (sym z)) (h.queue z)

  -- the registry is as it was, and so is its pair
  pub trying_refused : {p : Refusal} {number : ℕ} → t ≡ refused p → number ≡ number_of p → Trying f n xs₀ orders lent count (i + 1) ys (set answers i number) q
  trying_refused z e = trying_next (e ∙ ap code_of (sym z)) (g.queue ∙ ap (λ (zs : List ℕ). queue_of (decode zs)) (sym (untouched (f (decode xs) (order (get_or orders (2 * i) 0) (get_or orders (2 * i + 1) 0))) h (ap done (sym z) ∙ h.leaves.ran.is))))
    where
      untouched : (m : Checked (List Validator)) → LeavesPair m xs ys t → {p : Refusal} → refused p ≡ done m → ys ≡ xs
      untouched (value ws) k e = absurd (not_value e)
      untouched (refused r) k e = k.leaves.kept r refl

pub trying_all : {f : List Validator → Order → Checked (List Validator)} {n : ℕ} {xs₀ orders lent : List ℕ} {count i : ℕ} {xs answers : List ℕ} {q : ExitQueue} → Trying f n xs₀ orders lent count i xs answers q → count ≤ i → AllTried f xs₀ orders lent count xs answers q
trying_all {count = count} {i = i} g l = let e : i ≡ count = omega (arith, l, g.below) in rw (← e) (record { registry = g.held; answers = g.answered; queue = g.queue })

-- an order that is carried out is an exit
exited : (s : Settings) (state_slot period : ℕ) (vs : List Validator) (o : Order) {ws : List Validator} → process_voluntary_exit s state_slot period vs o ≡ value ws → initiate_validator_exit s state_slot vs o.validator ≡ value ws
unfolding process_voluntary_exit
exited s state_slot period vs o {ws} p = go (may_exit (get_current_epoch s state_slot) vs o.validator) (is_due (get_current_epoch s state_slot) period (get_or vs o.validator nobody) o.start) p
  where
    go : (a b : Bool) → cond a (cond b (initiate_validator_exit s state_slot vs o.validator) (refused TooEarly)) (refused NoExit) ≡ value ws → initiate_validator_exit s state_slot vs o.validator ≡ value ws
    go true true e = e
    go true false e = absurd (not_value e)
    go false b e = absurd (not_value e)

-- They are those of the definition: an exit leaves the churn limit as it was

module _ (s : Settings) (state_slot period least limit : ℕ) (first : compute_activation_exit_epoch s (get_current_epoch s state_slot) ≡ value least) where
  abbrev by : List Validator → Order → Checked (List Validator)
  by = order_by (get_current_epoch s state_slot) period least limit s.min_validator_withdrawability_delay

  by-is : (vs : List Validator) → get_validator_churn_limit s state_slot vs ≡ limit → (o : Order) → by vs o ≡ process_voluntary_exit s state_slot period vs o
  unfolding order_by process_voluntary_exit
  by-is vs k o = rw (exit_by-numbers s state_slot vs o.validator first k)

  limit-stays : (vs : List Validator) → get_validator_churn_limit s state_slot vs ≡ limit → (o : Order) (w : Checked (List Validator)) → process_voluntary_exit s state_slot period vs o ≡ w → get_validator_churn_limit s state_slot (settle w vs) ≡ limit
  limit-stays vs k o (value ws) p = limit-exit s state_slot vs o.validator (exited s state_slot period vs o p) ∙ k
  limit-stays vs k o (refused r) p = k

  pub orders-are : (vs : List Validator) → get_validator_churn_limit s state_slot vs ≡ limit → (os : List Order) → (carried_by by vs os ≡ carried_out s state_slot period vs os) × (answers_by by vs os ≡ answers_to s state_slot period vs os)
  unfolding carried_by answers_by carried_out answers_to
  orders-are vs k [] = (refl, refl)
  orders-are vs k (o ∷ os) =
      let tried = process_voluntary_exit s state_slot period vs o in
      let rest = orders-are (settle tried vs) (limit-stays vs k o tried refl) os in
      rw (by-is vs k o) (rest.0, ap (λ (t : List ℕ). code_of tried ∷ t) rest.1)

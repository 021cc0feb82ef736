-- The loop over the opening's validators: what the functions on the lent registry give, turn by turn.
use mathlib.Core.Path.{◌≡◌, refl, sym, ap, ◌∙◌}
use mathlib.Core.Bool.{Bool, true, false, ◌&&◌, ◌||◌}
use mathlib.Core.List.{List}
use Prim.Native.Nat.{ℕ, ◌+◌, ◌*◌, ◌/◌, ◌≤◌, ◌<◌}
use native.Mathlib.Omega.{arith}
use borrow.Author.Tests.{lt-ltb, le-ltb, le-leb, lt-leb}
use lib.Dec.{ltb, leb}
use lib.ListN.{length, get_or}
use Rattle.definitions.specs.Record.{Validator, FAR_FUTURE_EPOCH, encode, decode}
use Rattle.definitions.specs.Checked.{Checked, value, refused, bind, add64}
use Rattle.definitions.specs.declared.Refusal.{Refusal}
use Rattle.definitions.specs.Rust.Phase0.Helpers.{increase_balance}
use Rattle.laws.proofs.Checked.{not_value, value_same, refused_same}
use Rattle.laws.proofs.Encode.{length-decode, encode-decode}
use Rattle.laws.specs.Ran.{Settles, Ran}
use Rattle.laws.proofs.Loops.Entry.{entry_at, put_at, number-at}
use Rattle.laws.proofs.Loops.Ran.{ran-value, ran-gave, ran-by, ran-entry}
use Rattle.arithmetic.proofs.Laws.{bind-value, bind-refused}
use Rattle.definitions_electra.specs.declared.PendingDeposit.{PendingDeposit}
use Rattle.definitions_electra.specs.Record.{decode_deposits}
use Rattle.laws_electra.proofs.Deposits.{length-deposits}
use Rattle.laws_electra.proofs.Until.{Resumed, resumed-none, resumed-all, resumed-left, resumed-refused, resumed-more}
use Rattle.electra_deposits.specs.declared.QueueNumbers.{QueueNumbers}
use Rattle.electra_deposits.specs.declared.DepositTurn.{DepositTurn}
use Rattle.electra_deposits.specs.declared.Deposited.{Deposited}
use Rattle.electra_deposits.specs.Alone.{tested_at, withdrawn_at, exited_at, raised, Running, running, turn, stops, none, queueing_of, turn_by, after_turn, Turns, alone, ended, Deposits}
use Rattle.laws_electra.proofs.Cases.{less_or, test_or}

-- One validator

module _ (xs : List ℕ) (key : ℕ) (long : length xs ≡ 10 * (length xs / 10)) where
  many : length (decode xs) ≡ length xs / 10
  many = length-decode (length xs / 10) xs long

  pub tested-none : (f : Validator → Bool) → length xs / 10 ≤ key → false ≡ tested_at f (decode xs) key
  tested-none f l = rw (many, le-ltb key (length xs / 10) l)

  module _ (l : key < length xs / 10) where
    pub tested-withdrawable : (next : ℕ) → ltb (get_or xs (10 * key + 5) 0) next ≡ withdrawn_at next (decode xs) key
    tested-withdrawable next = rw (many, lt-ltb key (length xs / 10) l, number-at (length xs / 10) xs key long l 5 (omega arith))

    pub tested-exit : ltb (get_or xs (10 * key + 4) 0) FAR_FUTURE_EPOCH ≡ exited_at (decode xs) key
    tested-exit = rw (many, lt-ltb key (length xs / 10) l, number-at (length xs / 10) xs key long l 4 (omega arith))

module _ (xs : List ℕ) (d : PendingDeposit) (long : length xs ≡ 10 * (length xs / 10)) where
  pub raised-none : length xs / 10 ≤ d.pubkey → Ran (raised (decode xs) d) xs (value tt)
  unfolding raised
  raised-none l = rw (many xs d.pubkey long, le-ltb d.pubkey (length xs / 10) l) (ran-value (sym (encode-decode (length xs / 10) xs long)))

  -- its part comes back as e
  pub raised-one : {e : List ℕ} {r : Checked (Unit {0})} → d.pubkey < length xs / 10 → Settles (λ v. increase_balance v d.amount) (entry_at xs d.pubkey) e r → Ran (raised (decode xs) d) (put_at xs d.pubkey e) r
  unfolding raised
  raised-one l h = rw (many xs d.pubkey long, lt-ltb d.pubkey (length xs / 10) l) (ran-entry (λ v. increase_balance v d.amount) (length xs / 10) xs d.pubkey long l h)

-- The three stops

module _ (q : QueueNumbers) (i slot : ℕ) where
  pub stop-late : q.finalized_slot < slot → true ≡ ((ltb 0 slot && q.bridge_open) || ltb q.finalized_slot slot || leb q.most i)
  stop-late l = rw (lt-ltb q.finalized_slot slot l) (test_or (ltb 0 slot && q.bridge_open) (λ t. rw t) (λ t. rw t))

  module _ (f : slot ≤ q.finalized_slot) where
    pub stop-many : q.most ≤ i → true ≡ ((ltb 0 slot && q.bridge_open) || ltb q.finalized_slot slot || leb q.most i)
    stop-many l = rw (le-ltb q.finalized_slot slot f, le-leb q.most i l) (test_or (ltb 0 slot && q.bridge_open) (λ t. rw t) (λ t. rw t))

    module _ (g : i < q.most) where
      pub stop-none : slot ≡ 0 → false ≡ ((ltb 0 slot && q.bridge_open) || ltb q.finalized_slot slot || leb q.most i)
      stop-none z = rw (le-ltb q.finalized_slot slot f, lt-leb q.most i g, le-ltb 0 slot (omega arith))

      pub stop-bridge : (slot ≡ 0 → ⊥) → q.bridge_open ≡ ((ltb 0 slot && q.bridge_open) || ltb q.finalized_slot slot || leb q.most i)
      stop-bridge z = rw (le-ltb q.finalized_slot slot f, lt-leb q.most i g, lt-ltb 0 slot (omega (arith, z))) (test_or q.bridge_open (λ t. rw t) (λ t. rw t))

-- The five ways through a turn

gave : {m : ℕ → Checked Running} {xs : List ℕ} {t : DepositTurn} → ((i : ℕ) → m i ≡ value (after_turn xs t i)) → Turns m xs (value t)
gave {t = t} e = record { gives = λ u z i. (let s : t ≡ u = value_same z in rw (← s) (e i)); refuses = λ p z. absurd (not_value (sym z)) }

over : {m : ℕ → Checked Running} {p : Refusal} {xs : List ℕ} {r : Checked DepositTurn} → ((i : ℕ) → m i ≡ refused p) → r ≡ refused p → Turns m xs r
over e z = record { gives = λ u y. absurd (not_value (sym z ∙ y)); refuses = λ q y i. e i ∙ ap refused (refused_same (sym z ∙ y)) }

module _ (s : ℕ) {m : ℕ → Checked Running} {x : Checked (List Validator)} (e : (i : ℕ) → m i ≡ bind x (λ vs. value (running vs s (i + 1)))) {xs : List ℕ} {r : Checked (Unit {0})} (h : Ran x xs r) where
  went : r ≡ value tt → Turns m xs (value (record { processed = s; reached = false }))
  went z = gave (λ i. e i ∙ bind-value (λ vs. value (running vs s (i + 1))) (ran-gave h z))

  went_not : {p : Refusal} {t : Checked DepositTurn} → r ≡ refused p → t ≡ refused p → Turns m xs t
  went_not z k = over (λ i. e i ∙ bind-refused (λ vs. value (running vs s (i + 1))) (ran-by h z)) k

module _ (q : QueueNumbers) (processed : ℕ) (d : PendingDeposit) (xs : List ℕ) {w : Bool} (is-w : w ≡ withdrawn_at q.next_epoch (decode xs) d.pubkey) where
  module _ (t : w ≡ true) {ys : List ℕ} {r : Checked (Unit {0})} (h : Ran (raised (decode xs) d) ys r) where
    text_withdrawn : (i : ℕ) → turn_by q xs processed d i ≡ bind (raised (decode xs) d) (λ vs. value (running vs processed (i + 1)))
    unfolding turn
    text_withdrawn i = rw (← is-w, t)

    pub turn-withdrawn : r ≡ value tt → Turns (turn_by q xs processed d) ys (value (record { processed = processed; reached = false }))
    turn-withdrawn = went processed text_withdrawn h

    pub turn-withdrawn_not : {p : Refusal} {s : Checked DepositTurn} → r ≡ refused p → s ≡ refused p → Turns (turn_by q xs processed d) ys s
    turn-withdrawn_not = went_not processed text_withdrawn h

  module _ (not-w : w ≡ false) {x : Bool} (is_x : x ≡ exited_at (decode xs) d.pubkey) where
    pub turn-exited : x ≡ true → Turns (turn_by q xs processed d) xs (value (record { processed = processed; reached = false }))
    unfolding turn
    turn-exited t = gave (λ i. rw (← is-w, not-w, ← is_x, t))

    module _ (not-x : x ≡ false) where
      pub turn-over : {p : Refusal} {r : Checked DepositTurn} → add64 processed d.amount ≡ refused p → r ≡ refused p → Turns (turn_by q xs processed d) xs r
      unfolding turn bind
      turn-over e = over (λ i. rw (← is-w, not-w, ← is_x, not-x, e))

      module _ {sum : ℕ} (e : add64 processed d.amount ≡ value sum) where
        pub turn-full : q.available < sum → Turns (turn_by q xs processed d) xs (value (record { processed = processed; reached = true }))
        unfolding turn bind
        turn-full l = gave (λ i. rw (← is-w, not-w, ← is_x, not-x, e, lt-ltb q.available sum l))

        module _ (l : sum ≤ q.available) {ys : List ℕ} {r : Checked (Unit {0})} (h : Ran (raised (decode xs) d) ys r) where
          text-applied : (i : ℕ) → turn_by q xs processed d i ≡ bind (raised (decode xs) d) (λ vs. value (running vs sum (i + 1)))
          unfolding turn bind
          text-applied i = rw (← is-w, not-w, ← is_x, not-x, e, le-ltb q.available sum l)

          pub turn-applied : r ≡ value tt → Turns (turn_by q xs processed d) ys (value (record { processed = sum; reached = false }))
          turn-applied = went sum text-applied h

          pub turn-applied_not : {p : Refusal} {s : Checked DepositTurn} → r ≡ refused p → s ≡ refused p → Turns (turn_by q xs processed d) ys s
          turn-applied_not = went_not sum text-applied h

-- The loop after i turns

pub record Going (q : QueueNumbers) (xs₀ ds : List ℕ) (i : ℕ) (xs : List ℕ) (processed : ℕ) : Type 0 where
  pub resumed : Resumed (stops q.most (queueing_of q)) (turn (queueing_of q)) (running (decode xs₀) 0 0) (decode_deposits ds) i (running (decode xs) processed i)
  pub long : length xs ≡ 10 * (length xs / 10)

pub going_none : (q : QueueNumbers) (xs ds : List ℕ) → length xs ≡ 10 * (length xs / 10) → Going q xs ds 0 xs 0
going_none q xs ds l = record { resumed = resumed-none _ _ _ _; long = l }

finished : {m : Checked Running} {a : Running} {xs : List ℕ} {d : Deposited} → m ≡ value a → xs ≡ encode a.validators → d ≡ ended a → Deposits m xs (value d)
finished e h j = record { is = ap value j ∙ sym (bind-value _ e); held = λ b f. h ∙ ap (λ (x : Running). encode x.validators) (value_same (sym e ∙ f)) }

module _ {q : QueueNumbers} {xs₀ ds : List ℕ} {i : ℕ} {xs : List ℕ} {processed : ℕ} (g : Going q xs₀ ds i xs processed) where
  now-lent : xs ≡ encode (decode xs)
  now-lent = sym (encode-decode (length xs / 10) xs g.long)

  pub going_all : length ds / 5 ≤ i → Deposits (alone q xs₀ ds) xs (value (record { index = length ds / 5; processed = processed; reached = false }))
  unfolding alone
  going_all l =
      let e : i ≡ length ds / 5 = omega (arith, g.resumed.below, length-deposits ds) in
      rw (← e) (finished (resumed-all g.resumed (omega (arith, length-deposits ds))) now-lent refl)

  module _ (l : i < length ds / 5) {d : PendingDeposit} (is : d ≡ get_or (decode_deposits ds) i none) {b : Bool} (e : b ≡ ((ltb 0 d.slot && q.bridge_open) || ltb q.finalized_slot d.slot || leb q.most i)) where
    here : i < length (decode_deposits ds)
    here = omega (arith, length-deposits ds)

    stops-is : stops q.most (queueing_of q) (running (decode xs) processed i) (get_or (decode_deposits ds) i none) ≡ b
    unfolding stops
    stops-is = rw (← is) (sym e)

    pub going_left : b ≡ true → Deposits (alone q xs₀ ds) xs (value (record { index = i; processed = processed; reached = false }))
    unfolding alone
    going_left t = finished (resumed-left g.resumed none here (stops-is ∙ t)) now-lent refl

    module _ (f : b ≡ false) {ys : List ℕ} {r : Checked DepositTurn} (h : Turns (turn_by q xs processed d) ys r) where
      pub going_stop : {p : Refusal} {s : Checked Deposited} → r ≡ refused p → s ≡ refused p → Deposits (alone q xs₀ ds) ys s
      unfolding alone
      going_stop {p} z k =
          let x = resumed-refused g.resumed none here (stops-is ∙ f) {p = p} (rw (← is) (h.refuses p z i)) in
          record { is = k ∙ sym (bind-refused _ x); held = λ o y. absurd (not_value (sym x ∙ y)) }

      module _ {t : DepositTurn} (z : r ≡ value t) where
        more : Resumed (stops q.most (queueing_of q)) (turn (queueing_of q)) (running (decode xs₀) 0 0) (decode_deposits ds) (i + 1) (after_turn ys t i)
        more = resumed-more g.resumed none here (stops-is ∙ f) (rw (← is) (h.gives t z i))

        -- the limit is reached: whatever follows, the loop is left
        pub going_full : length ys ≡ length xs → t.reached ≡ true → Deposits (alone q xs₀ ds) ys (value (record { index = i; processed = t.processed; reached = true }))
        unfolding alone stops
        going_full same u =
            finished (less_or (i + 1) (length (decode_deposits ds)) (λ o. resumed-left more none o (rw u)) (λ o. resumed-all more o))
            (sym (encode-decode (length xs / 10) ys (omega (arith, same, g.long)))) (rw u)

        pub going_more : length ys ≡ length xs → t.reached ≡ false → Going q xs₀ ds (i + 1) ys t.processed
        going_more same u = record { resumed = rw u at more; long = omega (arith, same, g.long) }

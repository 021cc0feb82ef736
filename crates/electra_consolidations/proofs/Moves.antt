-- What a move books: the two columns of the rows, and nothing else.
use Rattle.std.proofs.Common.{◌≡◌, ℕ, zero, suc, ◌+◌, ◌*◌, ◌/◌, ◌%◌, ◌^◌, ◌<◌, ◌≤◌, Bool, true, false, cond, not, ◌&&◌, ltb, ◌≢◌, List, length, get_or, drop, sym, refl, ap, ◌∙◌, arith, length-set, get_or-drop, get_or-set_other, get_or-set_same, ext_get_or, le-ltb, lt-ltb}
use Rattle.definitions.specs.Record.{Validator, decode, is_slashed, nobody}
use Rattle.definitions.specs.declared.Refusal.{Refusal}
use Rattle.definitions.specs.Checked.{Checked, value, refused, bind}
use Rattle.laws.proofs.Checked.{not_value, value_same}
use Rattle.laws.specs.Ran.{Ran}
use Rattle.laws.proofs.Loops.Ran.{ran-gave}
use Rattle.arithmetic.proofs.Laws.{bind-value}
use Rattle.definitions_electra.specs.Record.{decode_consolidations}
use Rattle.definitions_electra.specs.Document.Electra.EpochProcessing.{consolidations_stop, consolidated_balance}
use Rattle.definitions_electra.specs.Evaluated.Electra.EpochProcessing.{process_consolidation}
use Rattle.definitions_electra_close.specs.Amounts.{add_at, move_consolidation}
use Rattle.laws_electra.specs.Consolidations.{pair}
use Rattle.laws_electra.proofs.Consolidations.{none, length_pairs}
use Rattle.laws_electra.proofs.Cases.{same_or, less_or}
use Rattle.laws_electra.proofs.Until.{Resumed, resumed-none, resumed-all, resumed-left, resumed-more}
use Rattle.electra_consolidations.specs.Consolidations.{turned, reached}
use Rattle.electra_consolidations.specs.Moves.{booked_move, column, moved_to, movements, Framed, MovesBooked}
use Rattle.electra_consolidations.proofs.Consolidating.{Going, is-pair, inside-pairs, stops, turn}

-- A column

pub column-long : (k n : ℕ) (xs : List ℕ) → length (column k n xs) ≡ n
unfolding column
column-long k zero xs = refl
column-long k (suc n) xs = ap suc (column-long k n (drop 12 xs))

pub column-at : (k n : ℕ) (xs : List ℕ) (i : ℕ) → i < n → get_or (column k n xs) i 0 ≡ get_or xs (12 * i + k) 0
unfolding column
column-at k zero xs i l = absurd (omega arith)
column-at k (suc n) xs zero l = let e : k ≡ 12 * 0 + k = omega arith in ap (λ (j : ℕ). get_or xs j 0) e
column-at k (suc n) xs (suc i) l =
    let e : 12 + (12 * i + k) ≡ 12 * suc i + k = omega arith in
    column-at k n (drop 12 xs) i (omega arith) ∙ get_or-drop 12 xs (12 * i + k) 0 ∙ ap (λ (j : ℕ). get_or xs j 0) e

-- a number that no row has at k is added to
column-other : (k n : ℕ) (xs : List ℕ) (j x : ℕ) → ((i : ℕ) → 12 * i + k ≢ j) → column k n (add_at xs j x) ≡ column k n xs
column-other k n xs j x h =
    ext_get_or 0 _ _ (column-long k n _ ∙ sym (column-long k n xs))
    (λ i l. (let b : i < n = omega (arith, l, column-long k n (add_at xs j x)) in column-at k n (add_at xs j x) i b ∙ get_or-set_other xs j (12 * i + k) _ 0 (h i) ∙ sym (column-at k n xs i b)))

-- the number k of the row r is added to
column-same : (k n : ℕ) (xs : List ℕ) (r x : ℕ) → r < n → 12 * n ≤ length xs → k < 12 → column k n (add_at xs (12 * r + k) x) ≡ add_at (column k n xs) r x
column-same k n xs r x l long m =
    ext_get_or 0 _ _ (column-long k n _ ∙ sym (length-set (column k n xs) r _ ∙ column-long k n xs))
    (λ i b. same_or i r
    (λ q. rw q
    (column-at k n (add_at xs (12 * r + k) x) r l
    ∙ get_or-set_same xs (12 * r + k) _ 0 (omega arith)
    ∙ ap (λ (y : ℕ). (y + x) % (2 ^ 64)) (sym (column-at k n xs r l))
    ∙ sym (get_or-set_same (column k n xs) r _ 0 (omega (arith, l, column-long k n xs)))))
    (λ q. (let c : i < n = omega (arith, b, column-long k n (add_at xs (12 * r + k) x)) in
    column-at k n (add_at xs (12 * r + k) x) i c
    ∙ get_or-set_other xs (12 * r + k) (12 * i + k) _ 0 (λ u. q (omega (arith, u)))
    ∙ sym (column-at k n xs i c)
    ∙ sym (get_or-set_other (column k n xs) r i _ 0 q))))

-- Nothing else is written

framed-same : (n : ℕ) (xs : List ℕ) → Framed n xs xs
framed-same n xs = record { long = refl; unlent = λ l. refl; others = λ i k l. refl; behind = λ j l. refl }

framed_then : {n : ℕ} {xs ys zs : List ℕ} → Framed n xs ys → Framed n ys zs → Framed n xs zs
framed_then a b =
    record {
      long = b.long ∙ a.long;
      unlent = λ l. b.unlent (omega (arith, l, a.long)) ∙ a.unlent l;
      others = λ i k l. b.others i k l ∙ a.others i k l;
      behind = λ j l. b.behind j l ∙ a.behind j l;
    }

framed_add : (n : ℕ) (xs : List ℕ) (r k x : ℕ) → r < n → 10 ≤ k → k < 12 → 12 * n ≤ length xs → Framed n xs (add_at xs (12 * r + k) x)
framed_add n xs r k x l a b long =
    record {
      long = length-set xs (12 * r + k) _;
      unlent = λ u. absurd (omega arith);
      others = λ i j m. get_or-set_other xs (12 * r + k) (12 * i + j) _ 0 (λ u. omega (arith, u));
      behind = λ j m. get_or-set_other xs (12 * r + k) j _ 0 (λ u. omega (arith, u));
    }

-- One move

pub booked-none : (n source target moved : ℕ) (xs : List ℕ) → length xs < 12 * n → xs ≡ booked_move n source target moved xs
unfolding booked_move
booked-none n source target moved xs l = rw (lt-ltb (length xs) (12 * n) l)

pub booked-both : (n source target moved : ℕ) (xs : List ℕ) {ys zs : List ℕ} → 12 * n ≤ length xs → ys ≡ add_at xs (12 * source + 10) moved → zs ≡ add_at ys (12 * target + 11) moved → zs ≡ booked_move n source target moved xs
unfolding booked_move
booked-both n source target moved xs l a b = rw (le-ltb (length xs) (12 * n) l) (b ∙ ap (λ (ys : List ℕ). add_at ys (12 * target + 11) moved) a)

module _ (n source target moved : ℕ) (xs : List ℕ) (ls : source < n) (lt : target < n) where
  abbrev first : List ℕ
  first = add_at xs (12 * source + 10) moved

  first-long : length first ≡ length xs
  first-long = length-set xs (12 * source + 10) _

  booked-framed : Framed n xs (booked_move n source target moved xs)
  unfolding booked_move
  booked-framed =
      less_or (length xs) (12 * n) (λ l. rw (lt-ltb (length xs) (12 * n) l) (framed-same n xs))
      (λ l. rw (le-ltb (length xs) (12 * n) l) (framed_then (framed_add n xs source 10 moved ls (omega arith) (omega arith) l) (framed_add n first target 11 moved lt (omega arith) (omega arith) (omega (arith, l, first-long)))))

  module _ (l : 12 * n ≤ length xs) where
    booked-out : column 10 n (booked_move n source target moved xs) ≡ add_at (column 10 n xs) source moved
    unfolding booked_move
    booked-out = rw (le-ltb (length xs) (12 * n) l) (column-other 10 n first (12 * target + 11) moved (λ i u. omega (arith, u)) ∙ column-same 10 n xs source moved ls l (omega arith))

    booked-into : column 11 n (booked_move n source target moved xs) ≡ add_at (column 11 n xs) target moved
    unfolding booked_move
    booked-into =
        rw (le-ltb (length xs) (12 * n) l)
        (column-same 11 n first target moved lt (omega (arith, l, first-long)) (omega arith)
        ∙ ap (λ (c : List ℕ). add_at c target moved) (column-other 11 n xs (12 * source + 10) moved (λ i u. omega (arith, u))))

-- The loop: the registry xs and the rows after i turns over the registry xs₀ and rows₀

pub record Booking (next n : ℕ) (xs₀ ps rows₀ : List ℕ) (i : ℕ) (xs rows : List ℕ) : Type 0 where
  pub framed : Framed n rows₀ rows
  pub resumed : 12 * n ≤ length rows₀ → Resumed (λ m. consolidations_stop next m.consolidating) move_consolidation (moved_to n (decode xs₀) 0 rows₀) (decode_consolidations ps) i (moved_to n (decode xs) i rows)

pub booking_none : (next n : ℕ) (xs₀ ps rows₀ : List ℕ) → Booking next n xs₀ ps rows₀ 0 xs₀ rows₀
booking_none next n xs₀ ps rows₀ = record { framed = framed-same n rows₀; resumed = λ l. resumed-none _ _ _ _ }

module _ {next n : ℕ} {xs₀ ps rows₀ : List ℕ} {i : ℕ} {xs rows : List ℕ} (g : Going next n xs₀ ps i xs) (b : Booking next n xs₀ ps rows₀ i xs rows) where
  pub booking_all : length ps / 2 ≤ i → MovesBooked next n xs₀ xs ps rows₀ rows (value (length ps / 2))
  unfolding movements
  booking_all l =
      let e : i ≡ length ps / 2 = omega (arith, g.resumed.below, length_pairs ps) in
      rw (← e) (record { framed = b.framed; booked = λ count z k. (let same = value_same z in rw (← same) (resumed-all (b.resumed k) (omega (arith, length_pairs ps)))) })

  module _ (l : i < length ps / 2) {source target : ℕ} (s : source ≡ get_or ps (2 * i) 0) (t : target ≡ get_or ps (2 * i + 1) 0) where
    abbrev at_source : Validator
    at_source = get_or (decode xs) source nobody

    -- the test of the source is stop
    module _ {stop : Bool} (e : stop ≡ (not (is_slashed at_source) && ltb next at_source.withdrawable_epoch)) where
      pub booking_left : stop ≡ true → MovesBooked next n xs₀ xs ps rows₀ rows (value i)
      unfolding movements
      booking_left h = record { framed = b.framed; booked = λ count z k. (let same = value_same z in rw (← same) (resumed-left (b.resumed k) none (inside-pairs g l s t) (stops g l s t e ∙ h))) }

      -- what it moves is booked, and the turn gave ys
      module _ (f : stop ≡ false) (ls : source < n) (lt : target < n) {moved : ℕ} (m : moved ≡ cond (is_slashed at_source) 0 (consolidated_balance at_source)) {rows' : List ℕ} (h : rows' ≡ booked_move n source target moved rows) {ys : List ℕ} {r : Checked (Unit {0})} (ran : Ran (turned (decode xs) (pair source target)) ys r) where
        framed-now : Framed n rows₀ rows'
        framed-now = rw h (framed_then b.framed (booked-framed n source target moved rows ls lt))

        pub booking_stop : {p : Refusal} → MovesBooked next n xs₀ ys ps rows₀ rows' (refused p)
        booking_stop = record { framed = framed-now; booked = λ count z. absurd (not_value z) }

        turn-done : r ≡ value tt → process_consolidation (reached (decode xs) i) (get_or (decode_consolidations ps) i none) ≡ value (reached (decode ys) (i + 1))
        unfolding bind
        turn-done z = turn g l s t e f ran ∙ rw (ran-gave ran z)

        moves : r ≡ value tt → 12 * n ≤ length rows → move_consolidation (moved_to n (decode xs) i rows) (get_or (decode_consolidations ps) i none) ≡ value (moved_to n (decode ys) (i + 1) rows')
        unfolding move_consolidation
        moves z k = bind-value _ (turn-done z) ∙ rw (is-pair g l s t, h, booked-out n source target moved rows ls lt k, booked-into n source target moved rows ls lt k, m)

        pub booking_more : r ≡ value tt → Booking next n xs₀ ps rows₀ (i + 1) ys rows'
        booking_more z = record { framed = framed-now; resumed = λ k. resumed-more (b.resumed k) none (inside-pairs g l s t) (stops g l s t e ∙ f) (moves z (omega (arith, k, b.framed.long))) }

-- The turn of a consolidation, and the loop.
use Rattle.std.proofs.Common.{◌≡◌, ℕ, ◌+◌, ◌*◌, ◌/◌, ◌<◌, ◌≤◌, min, Bool, true, false, cond, not, ◌&&◌, ltb, List, length, get_or, set, sym, ap, ◌∙◌, arith, length-set, ltb-true, eq-eqb, ne_eqb}
use Rattle.definitions.specs.Record.{Validator, is_slashed, decode_one, encode_one, encode, decode, nobody}
use Rattle.definitions.specs.Checked.{Checked, value, refused, bind}
use Rattle.definitions.specs.declared.Refusal.{Refusal}
use Rattle.definitions.specs.Rust.Phase0.Helpers.{increase_balance, decrease_balance}
use Rattle.laws.proofs.Checked.{not_value, value_same}
use Rattle.laws.proofs.Encode.{length-encode, length-decode, encode-decode, decode-encode}
use Rattle.laws.proofs.Tests.{both, all-at}
use Rattle.laws.specs.Ran.{Settles, Ran}
use Rattle.laws.proofs.Loops.Entry.{entry_at, put_at, entry-is, entry-back, number-at}
use Rattle.laws.proofs.Loops.Ran.{ran-value, ran-gave, ran-by, ran-entry}
use Rattle.definitions_electra.specs.Record.{PendingConsolidation, decode_consolidations}
use Rattle.definitions_electra.specs.Document.Electra.EpochProcessing.{Consolidating, consolidations_stop, consolidated_balance, next_consolidation}
use Rattle.definitions_electra.specs.Evaluated.Electra.EpochProcessing.{consolidate, process_consolidation}
use Rattle.arithmetic.proofs.Laws.{bind-refused}
use Rattle.laws_electra.specs.Consolidations.{pair, within}
use Rattle.laws_electra.proofs.Consolidations.{none, length_pairs, pair-at}
use Rattle.laws_electra.proofs.Cases.{test_or}
use Rattle.laws_electra.proofs.Until.{Resumed, resumed-none, resumed-all, resumed-left, resumed-refused, resumed-more}
use Rattle.electra_consolidations.specs.Consolidations.{turned, reached, placed, consolidations, Consolidates}

-- every source and target is one of n
module _ (n : ℕ) (ps : List ℕ) (i : ℕ) (l : i < length ps / 2) (h : placed n ps ≡ true) where
  inside : (ltb (get_or ps (2 * i) 0) n && ltb (get_or ps (2 * i + 1) 0) n) ≡ true
  unfolding placed
  inside =
      let t = all-at (within n) (decode_consolidations ps) i none (omega (arith, length_pairs ps)) h in
      rw (pair-at ps i l) at t

  pub source-placed : get_or ps (2 * i) 0 < n
  source-placed = ltb-true _ n (both _ (ltb (get_or ps (2 * i + 1) 0) n) inside).0

  pub target-placed : get_or ps (2 * i + 1) 0 < n
  target-placed = ltb-true _ n (both (ltb (get_or ps (2 * i) 0) n) _ inside).1

-- One consolidation: the source's part came back as e, then the target's as g

pub balance-moved : (n : ℕ) (xs : List ℕ) (source : ℕ) {moved : ℕ} → length xs ≡ 10 * n → source < n → moved ≡ min (get_or xs (10 * source + 6) 0) (get_or xs (10 * source + 0) 0) → moved ≡ consolidated_balance (get_or (decode xs) source nobody)
balance-moved n xs source long ls m = m ∙ rw (number-at n xs source long ls 6 (omega arith), number-at n xs source long ls 0 (omega arith))

pub moved-ran : (n : ℕ) (xs : List ℕ) (source target : ℕ) {e g : List ℕ} {moved : ℕ} {r : Checked (Unit {0})} → length xs ≡ 10 * n → source < n → target < n → moved ≡ consolidated_balance (get_or (decode xs) source nobody) → e ≡ encode_one (decrease_balance (decode_one (entry_at xs source)) moved) → Settles (λ v. increase_balance v moved) (entry_at (put_at xs source e) target) g r → Ran (consolidate (decode xs) (pair source target)) (put_at (put_at xs source e) target g) r
unfolding consolidate
moved-ran n xs source target {e} {g} {moved} {r} long ls lt a h k =
    let v = get_or (decode xs) source nobody in
    let b : decode_one (entry_at xs source) ≡ v = entry-is n xs source long ls in
    let w = decrease_balance v moved in
    let c : put_at xs source e ≡ encode (set (decode xs) source w) = entry-back n xs source long ls w (h ∙ ap (λ (u : Validator). encode_one (decrease_balance u moved)) b) in
    let d : decode (put_at xs source e) ≡ set (decode xs) source w = ap decode c ∙ decode-encode (set (decode xs) source w) in
    let f : length (put_at xs source e) ≡ 10 * n = rw c (omega (arith, length-encode (set (decode xs) source w), length-set (decode xs) source w, length-decode n xs long)) in
    rw (← a, ← d) (ran-entry (λ v. increase_balance v moved) n (put_at xs source e) target f lt k)

-- A turn: a slashed source is passed over

module _ (n : ℕ) (xs : List ℕ) (source target : ℕ) (long : length xs ≡ 10 * n) (l : source < n) where
  abbrev v : Validator
  v = get_or (decode xs) source nobody

  slashed-at : get_or xs (10 * source + 1) 0 ≡ v.slashed
  slashed-at = number-at n xs source long l 1 (omega arith)

  pub turn-slashed : get_or xs (10 * source + 1) 0 ≡ 1 → Ran (turned (decode xs) (pair source target)) xs (value tt)
  unfolding turned
  turn-slashed e = rw (eq-eqb v.slashed 1 (sym slashed-at ∙ e)) (ran-value (sym (encode-decode n xs long)))

  pub turn_moved : {ys : List ℕ} {r : Checked (Unit {0})} → (get_or xs (10 * source + 1) 0 ≡ 1 → ⊥) → Ran (consolidate (decode xs) (pair source target)) ys r → Ran (turned (decode xs) (pair source target)) ys r
  unfolding turned
  turn_moved f h = rw (ne_eqb v.slashed 1 (λ e. f (slashed-at ∙ e))) h

  pub moves-slashed : get_or xs (10 * source + 1) 0 ≡ 1 → 0 ≡ cond (is_slashed v) 0 (consolidated_balance v)
  moves-slashed e = rw (eq-eqb v.slashed 1 (sym slashed-at ∙ e))

  pub moves-balance : {moved : ℕ} → (get_or xs (10 * source + 1) 0 ≡ 1 → ⊥) → moved ≡ consolidated_balance v → moved ≡ cond (is_slashed v) 0 (consolidated_balance v)
  moves-balance f h = h ∙ rw (ne_eqb v.slashed 1 (λ e. f (slashed-at ∙ e)))

  pub stops-slashed : (next : ℕ) → get_or xs (10 * source + 1) 0 ≡ 1 → false ≡ (not (is_slashed v) && ltb next v.withdrawable_epoch)
  stops-slashed next e = rw (eq-eqb v.slashed 1 (sym slashed-at ∙ e))

  pub stops-later : (next : ℕ) → (get_or xs (10 * source + 1) 0 ≡ 1 → ⊥) → ltb next (get_or xs (10 * source + 5) 0) ≡ (not (is_slashed v) && ltb next v.withdrawable_epoch)
  stops-later next f = rw (ne_eqb v.slashed 1 (λ e. f (slashed-at ∙ e)), number-at n xs source long l 5 (omega arith))

-- the text's turn
turn_is : (p : Consolidating) (c : PendingConsolidation) → process_consolidation p c ≡ bind (turned p.validators c) (λ vs. value (next_consolidation p vs))
unfolding process_consolidation turned bind
turn_is p c = test_or (is_slashed (get_or p.validators c.source_index nobody)) (λ t. rw t) (λ t. rw t)

-- The loop: the registry xs after i turns over the registry xs₀ of n validators

pub record Going (next n : ℕ) (xs₀ ps : List ℕ) (i : ℕ) (xs : List ℕ) : Type 0 where
  pub long : length xs ≡ 10 * n
  pub resumed : Resumed (consolidations_stop next) process_consolidation (reached (decode xs₀) 0) (decode_consolidations ps) i (reached (decode xs) i)

pub going_none : (next : ℕ) {n : ℕ} {xs₀ : List ℕ} (ps : List ℕ) → length xs₀ ≡ 10 * n → Going next n xs₀ ps 0 xs₀
going_none next ps h = record { long = h; resumed = resumed-none _ _ _ _ }

done : {m : Checked Consolidating} {p : Consolidating} {many : ℕ} {xs : List ℕ} → m ≡ value p → p.next_pending_consolidation ≤ many → xs ≡ encode p.validators → Consolidates m many xs (value p.next_pending_consolidation)
unfolding bind
done {m} {p} {many} e l h =
    record {
      is = rw e;
      most = λ count f. (let z = value_same f in rw (← z) l);
      held = λ q f. (let z : p ≡ q = value_same (sym e ∙ f) in rw (← z) h);
    }

module _ {next n : ℕ} {xs₀ ps : List ℕ} {i : ℕ} {xs : List ℕ} (g : Going next n xs₀ ps i xs) where
  now-encoded : xs ≡ encode (decode xs)
  now-encoded = sym (encode-decode n xs g.long)

  pub going_all : length ps / 2 ≤ i → Consolidates (consolidations next (decode xs₀) ps) (length ps / 2) xs (value (length ps / 2))
  unfolding consolidations
  going_all l =
      let e : i ≡ length ps / 2 = omega (arith, g.resumed.below, length_pairs ps) in
      rw (← e) (done (resumed-all g.resumed (omega (arith, length_pairs ps))) (omega arith) now-encoded)

  module _ (l : i < length ps / 2) {source target : ℕ} (s : source ≡ get_or ps (2 * i) 0) (t : target ≡ get_or ps (2 * i + 1) 0) where
    pub is-pair : get_or (decode_consolidations ps) i none ≡ pair source target
    is-pair = rw (s, t) (pair-at ps i l)

    pub inside-pairs : i < length (decode_consolidations ps)
    inside-pairs = omega (arith, length_pairs ps)

    -- the test of the source is b
    module _ {b : Bool} (e : b ≡ (not (is_slashed (get_or (decode xs) source nobody)) && ltb next (get_or (decode xs) source nobody).withdrawable_epoch)) where
      pub stops : consolidations_stop next (reached (decode xs) i) (get_or (decode_consolidations ps) i none) ≡ b
      unfolding consolidations_stop
      stops = rw is-pair (sym e)

      pub going_left : b ≡ true → Consolidates (consolidations next (decode xs₀) ps) (length ps / 2) xs (value i)
      unfolding consolidations
      going_left h = done (resumed-left g.resumed none inside-pairs (stops ∙ h)) (omega arith) now-encoded

      module _ (f : b ≡ false) {ys : List ℕ} {r : Checked (Unit {0})} (h : Ran (turned (decode xs) (pair source target)) ys r) where
        pub turn : process_consolidation (reached (decode xs) i) (get_or (decode_consolidations ps) i none) ≡ bind (turned (decode xs) (pair source target)) (λ vs. value (next_consolidation (reached (decode xs) i) vs))
        turn = rw is-pair (turn_is (reached (decode xs) i) (pair source target))

        pub going_stop : {p : Refusal} → r ≡ refused p → Consolidates (consolidations next (decode xs₀) ps) (length ps / 2) ys (refused p)
        unfolding consolidations bind
        going_stop z =
            let w = resumed-refused g.resumed none inside-pairs (stops ∙ f) (turn ∙ bind-refused _ (ran-by h z)) in
            record { is = rw w; most = λ count u. absurd (not_value u); held = λ o u. absurd (not_value (sym w ∙ u)) }

        pub going_more : r ≡ value tt → length ys ≡ length xs → Going next n xs₀ ps (i + 1) ys
        unfolding bind
        going_more z k =
            record {
              long = k ∙ g.long;
              resumed = resumed-more g.resumed none inside-pairs (stops ∙ f) (turn ∙ rw (ran-gave h z));
            }

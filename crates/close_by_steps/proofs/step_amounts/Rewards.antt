-- Rewards that book as they go: one validator, all, and the step.
use mathlib.Core.Path.{◌≡◌, refl, sym, ap, ◌∙◌}
use mathlib.Core.List.{List, [], ◌∷◌, ◌++◌, map}
use Prim.Native.Nat.{ℕ, suc, ◌+◌, ◌-◌, ◌*◌, ◌/◌, ◌≤◌, ◌<◌}
use native.Mathlib.Omega.{arith}
use borrow.Author.Count.{below_more}
use borrow.Author.Tests.{eq-eqb, ne_eqb}
use lib.ListN.{length, get_or, set, replicate, length-map, length-append, length-take, length-drop}
use Rattle.definitions.specs.declared.Settings.{Settings}
use Rattle.definitions.specs.declared.Deltas.{Deltas}
use Rattle.definitions.specs.Record.{Validator, decode_one, decode, nobody}
use Rattle.definitions.specs.Checked.{Checked, value, refused, map_checked, fold_checked}
use Rattle.definitions.specs.declared.Refusal.{Refusal}
use Rattle.definitions.specs.Rust.Phase0.Helpers.{get_current_epoch, get_previous_epoch}
use Rattle.definitions.specs.Rust.Altair.Helpers.{FlagTotals, flag_index_deltas, inactivity_penalty_deltas}
use Rattle.definitions.specs.Rust.Altair.EpochProcessing.{all_deltas, reward_and_penalize}
use Rattle.definitions_close.specs.Amounts.{booked, booked_by_rewards, nines}
use Rattle.laws.proofs.Checked.{not_value, value_same, bound}
use Rattle.laws.proofs.Encode.{length-decode, encode-decode}
use Rattle.arithmetic.proofs.Laws.{bind-value}
use Rattle.laws.proofs.Loops.Entry.{entry_at, put_at}
use Rattle.laws.proofs.Loops.Mapped.{mapped-is}
use Rattle.laws.proofs.Loops.Checking.{Checking, checking-none, checking-ten, checking-more, checking-stop, checking-all, settles-value, settles-refused}
use Rattle.rates.specs.declared.reward_balances.Pairs.{Pairs}
use Rattle.rates.specs.Balances.{applied_balance, four, four_of}
use Rattle.rates.proofs.reward_balances.Paired.{deltas-four, pairs-refused, not_paid, paid}
use Rattle.rates.proofs.reward_balances.Rewarded.{put-balance}
use Rattle.rewards_step.specs.declared.StepTotals.{StepTotals}
use Rattle.rewards_step.specs.Totals.{source_totals, target_totals, head_totals}
use Rattle.rewards_step.specs.Step.{step_totals}
use Rattle.rewards_step.proofs.Step.{by-totals, rewards-genesis, rewards-refused, rewards-by}
use Rattle.write_pass.specs.Filled.{left, Fits, nine_at, put_nine}
use Rattle.write_pass.proofs.Booked.{applied}
use Rattle.write_pass.proofs.Nine.{nine-nine, nine-same, nine-other}
use Rattle.laws_close.proofs.Amounts.Lists.{each-length, each_at, at_map}
use Rattle.laws_close.proofs.Amounts.Nines.{Eights, nine-at, nines-long, nine_ext}
use Rattle.close_by_steps.specs.Booked.{eight_of, BooksEntry, BooksAll, RewardsBooked}

-- One validator

module _ (s : Settings) (quotient current previous : ℕ) (source target head : FlagTotals) where
  abbrev f : Validator → Checked Validator
  f = reward_and_penalize s quotient current previous source target head

  abbrev g : Validator → Checked (List ℕ)
  g = eight_of s quotient current previous source target head

  abbrev fours : Validator → Checked Pairs
  fours = four_of s quotient current previous source target head

  module _ (e : List ℕ) (ten : length e ≡ 10) where
    stays : {p : Refusal} {nine : List ℕ} → f (decode_one e) ≡ refused p → BooksEntry f g e e nine (refused p)
    stays h = record { settles = settles-refused f ten h; books = λ z. absurd (not_value z) }

    pub four-refused : {p : Refusal} {nine : List ℕ} → fours (decode_one e) ≡ refused p → BooksEntry f g e e nine (refused p)
    four-refused h = stays (pairs-refused s quotient current previous source target head (decode_one e) h)

    module _ {p : Pairs} (h : fours (decode_one e) ≡ value p) where
      pub balance-refused : {q : Refusal} {nine : List ℕ} → fold_checked applied_balance (get_or e 6 0) (four p) ≡ refused q → BooksEntry f g e e nine (refused q)
      balance-refused k = stays (not_paid s quotient current previous source target head (decode_one e) h k)

      pub entry-booked : {nine : List ℕ} {x : ℕ} → fold_checked applied_balance (get_or e 6 0) (four p) ≡ value x → nine ≡ booked (get_or e 6 0) (four p) ++ ((left (get_or e 6 0) (four p) - x) ∷ []) → BooksEntry f g e (set e 6 x) nine (value tt)
      unfolding eight_of
      entry-booked {nine} {x} k n =
          let is = (applied (get_or e 6 0) (four p) k).is in
          let zero : left (get_or e 6 0) (four p) - x ≡ 0 = omega (arith, is) in
          let ds = deltas-four s quotient current previous source target head (decode_one e) ∙ bind-value (λ p. value (four p)) h in
          let eight = bind-value (λ ds. value (booked (decode_one e).balance ds)) ds in
          record {
            settles = settles-value f (paid s quotient current previous source target head (decode_one e) h k) (put-balance e x ten);
            books = λ z b q. n ∙ rw zero (ap (λ (ys : List ℕ). ys ++ (0 ∷ [])) (value_same (sym eight ∙ q)));
          }

  pub eight-long : (v : Validator) {e : List ℕ} → g v ≡ value e → length e ≡ 8
  unfolding eight_of all_deltas booked
  eight-long v q =
      let a = bound _ _ q in
      let b = bound (flag_index_deltas s current previous 0 source v) _ a.gave in
      let c = bound (flag_index_deltas s current previous 1 target v) _ b.then in
      let d = bound (flag_index_deltas s current previous 2 head v) _ c.then in
      let i = bound (inactivity_penalty_deltas s quotient current previous v) _ d.then in
      ap length (sym (value_same a.then)) ∙ ap (λ (ds : List Deltas). length (booked v.balance ds)) (sym (value_same i.then))

pub fits-left : (balance : ℕ) (p : Pairs) {x : ℕ} → fold_checked applied_balance balance (four p) ≡ value x → Fits balance (four p) × (x ≤ left balance (four p))
fits-left balance p h = let a = applied balance (four p) h in (a.fits, omega (arith, a.is))

-- All

pub record Booking (f : Validator → Checked Validator) (g : Validator → Checked (List ℕ)) (n : ℕ) (xs₀ : List ℕ) (i : ℕ) (xs amounts : List ℕ) : Type 0 where
  pub checking : Checking f n xs₀ i xs
  pub first : length xs₀ ≡ 10 * n
  pub long : length amounts ≡ 9 * n
  pub below : i ≤ n
  pub small : 10 * n < 1152921504606846976
  pub held : (j : ℕ) → j < i → (e : List ℕ) → g (get_or (decode xs₀) j nobody) ≡ value e → nine_at amounts j ≡ e ++ (0 ∷ [])

put-long : (n : ℕ) (xs : List ℕ) (i : ℕ) (e : List ℕ) → length xs ≡ 9 * n → i < n → length e ≡ 9 → length (put_nine xs i e) ≡ 9 * n
put-long n xs i e h l k = simp (length-append, length-take, length-drop) (omega arith)

pub booking_none : {f : Validator → Checked Validator} {g : Validator → Checked (List ℕ)} {n : ℕ} {xs₀ amounts : List ℕ} → length xs₀ ≡ 10 * n → length amounts ≡ 9 * n → 10 * n < 1152921504606846976 → Booking f g n xs₀ 0 xs₀ amounts
booking_none {f} a b c = record { checking = checking-none f a; first = a; long = b; below = omega arith; small = c; held = λ j l. absurd (omega arith) }

module _ {f : Validator → Checked Validator} {g : Validator → Checked (List ℕ)} {n : ℕ} {xs₀ : List ℕ} {i : ℕ} {xs amounts : List ℕ} (b : Booking f g n xs₀ i xs amounts) where
  pub booking_all : n ≤ i → n ≡ length xs₀ / 10 → BooksAll f g xs₀ xs amounts (value tt)
  booking_all l e =
      record {
        ran = checking-all b.checking l;
        long = λ z. omega (arith, b.long, e);
        books = λ z j k. b.held j (omega (arith, k, e, l));
      }

  module _ (l : i < n) where
    pub booking_ten : length (entry_at xs i) ≡ 10
    booking_ten = checking-ten b.checking l

    pub booking_nine : length (nine_at amounts i) ≡ 9
    booking_nine = nine-nine n amounts i b.long l

    module _ {e m : List ℕ} {r : Checked (Unit {0})} (h : BooksEntry f g (entry_at xs i) e m r) where
      pub booking_stop : {ys zs : List ℕ} {p : Refusal} → r ≡ refused p → BooksAll f g xs₀ ys zs (refused p)
      booking_stop z = record { ran = checking-stop b.checking l h.settles z; long = λ q. absurd (not_value q); books = λ q. absurd (not_value q) }

      pub booking_more : r ≡ value tt → length m ≡ 9 → Booking f g n xs₀ (i + 1) (put_at xs i e) (put_nine amounts i m)
      booking_more z nine =
          record {
            checking = checking-more b.checking l h.settles z;
            first = b.first;
            long = put-long n amounts i m b.long l nine;
            below = omega arith;
            small = b.small;
            held =
                below_more (λ j. (x : List ℕ) → g (get_or (decode xs₀) j nobody) ≡ value x → nine_at (put_nine amounts i m) j ≡ x ++ (0 ∷ [])) i
                (λ j t x y. nine-other n amounts i b.long l m j t ∙ b.held j t x y)
                (λ x y. nine-same n amounts i b.long l m nine ∙ h.books z x (ap g (mapped-is b.checking.mapped l) ∙ y));
          }

-- The step

nine-wide : (i : ℕ) → 9 * i + 9 - 9 * i ≡ 9
nine-wide i = omega arith

-- nine zeros for each
zeros : (vs : List Validator) → nines (map (λ v. replicate 8 0) vs) (map (λ v. 0) vs) ≡ replicate (9 * length vs) 0
unfolding nines
zeros [] = refl
zeros (v ∷ vs) =
    let e : 9 * suc (length vs) ≡ suc (suc (suc (suc (suc (suc (suc (suc (suc (9 * length vs))))))))) = omega arith in
    rw e (ap (λ (t : List ℕ). 0 ∷ 0 ∷ 0 ∷ 0 ∷ 0 ∷ 0 ∷ 0 ∷ 0 ∷ 0 ∷ t) (zeros vs))

module _ (s : Settings) (quotient state_slot finalized_epoch : ℕ) (xs : List ℕ) (ten : length xs ≡ 10 * (length xs / 10)) where
  abbrev vs : List Validator
  vs = decode xs

  many : length vs ≡ length xs / 10
  many = length-decode (length xs / 10) xs ten

  pub genesis-booked : {current : ℕ} → current ≡ get_current_epoch s state_slot → current ≡ 0 → (lent : List ℕ) {amounts : List ℕ} → length lent ≡ 9 * (length xs / 10) → amounts ≡ replicate (length lent) 0 → RewardsBooked s quotient state_slot finalized_epoch xs xs amounts (value tt)
  unfolding booked_by_rewards
  genesis-booked e z lent l a =
      record {
        ran = rewards-genesis s quotient state_slot finalized_epoch vs e z (sym (encode-decode _ _ ten));
        books = λ y es q.
            (let c : get_current_epoch s state_slot ≡ 0 = sym e ∙ z in
            let is : map (λ v. replicate 8 0) vs ≡ es = value_same (sym (rw (eq-eqb (get_current_epoch s state_slot) 0 c)) ∙ q) in
            a ∙ ap (λ (k : ℕ). replicate k 0) (l ∙ ap (λ (k : ℕ). 9 * k) (sym many)) ∙ sym (zeros vs) ∙ ap (λ (us : List (List ℕ)). nines us (map (λ v. 0) vs)) is);
      }

  -- by what the code worked out
  module _ {current previous : ℕ} (e : current ≡ get_current_epoch s state_slot) (p : previous ≡ get_previous_epoch s state_slot) (n : current ≡ 0 → ⊥) where
    abbrev totals : Checked StepTotals
    totals = step_totals s state_slot finalized_epoch current previous vs

    pub refused-booked : {after amounts : List ℕ} {q : Refusal} → totals ≡ refused q → RewardsBooked s quotient state_slot finalized_epoch xs after amounts (refused q)
    refused-booked h = record { ran = rewards-refused s state_slot finalized_epoch vs e p quotient n h; books = λ z. absurd (not_value z) }

    module _ {t : StepTotals} (h : totals ≡ value t) where
      abbrev by : Validator → Checked (List ℕ)
      by = eight_of s quotient current previous (source_totals s t) (target_totals s t) (head_totals s t)

      booked-from : booked_by_rewards s quotient state_slot finalized_epoch vs ≡ map_checked by vs
      unfolding booked_by_rewards eight_of
      booked-from = rw (← e, ← p, ne_eqb current 0 n) (by-totals s state_slot finalized_epoch vs e p (λ source target head. map_checked (eight_of s quotient current previous source target head) vs) ∙ bind-value _ h)

      pub step-booked : {after amounts : List ℕ} {r : Checked (Unit {0})} → BooksAll (reward_and_penalize s quotient current previous (source_totals s t) (target_totals s t) (head_totals s t)) by xs after amounts r → RewardsBooked s quotient state_slot finalized_epoch xs after amounts r
      step-booked {after} {amounts} {r} k = record { ran = rewards-by s state_slot finalized_epoch vs e p quotient n h k.ran; books = books }
        where
          books : r ≡ value tt → (es : List (List ℕ)) → booked_by_rewards s quotient state_slot finalized_epoch vs ≡ value es → amounts ≡ nines es (map (λ v. 0) vs)
          books z es q =
              let each = sym booked-from ∙ q in
              let size = each-length by vs each in
              let at : (i : ℕ) → i < length vs → by (get_or vs i nobody) ≡ value (get_or es i []) = λ i l. each_at by nobody [] vs each i l in
              let eight : Eights es (map (λ (v : Validator). 0) vs) = record { long = length-map vs (λ v. 0) ∙ sym size; eight = λ i l. eight-long s quotient current previous _ _ _ (get_or vs i nobody) (at i (omega (arith, l, size))) } in
              nine_ext (length xs / 10) amounts (nines es (map (λ v. 0) vs)) (k.long z) (nines-long es _ eight ∙ omega (arith, size, many))
              (λ i l.
              let inside : i < length es = omega (arith, l, size, many) in
              let zero : get_or (map (λ (v : Validator). 0) vs) i 0 ≡ 0 = at_map (λ (v : Validator). 0) nobody 0 vs i (omega (arith, l, many)) in
              rw (nine-wide i) at (k.books z i l (get_or es i []) (at i (omega (arith, l, many))))
              ∙ ap (λ (y : ℕ). get_or es i [] ++ (y ∷ [])) (sym zero)
              ∙ sym (nine-at es (map (λ v. 0) vs) eight i inside))

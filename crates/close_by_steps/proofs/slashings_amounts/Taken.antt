-- The ninth number of each nine put from the front, and what the slashings step books by it.
use mathlib.Core.Path.{◌≡◌, refl, sym, ap, ap₂, ◌∙◌}
use mathlib.Core.Bool.{Bool, true, false, cond}
use mathlib.Core.List.{List, [], ◌∷◌, ◌++◌, append_assoc}
use Prim.Native.Nat.{ℕ, zero, suc, ◌+◌, ◌-◌, ◌*◌, ◌/◌, ◌≤◌, ◌<◌}
use native.Mathlib.Omega.{arith}
use borrow.Author.Count.{below_more}
use borrow.Author.Tests.{ltb-true}
use lib.Dec.{ltb}
use lib.ListN.{length, get_or, take, drop, set, length-append, length-take, length-drop}
use lib.Seq.{get_or-take, get_or-drop}
use Rattle.definitions.specs.declared.Settings.{Settings}
use Rattle.definitions.specs.Record.{Validator, encode, decode, nobody}
use Rattle.definitions.specs.Checked.{Checked, value, refused}
use Rattle.definitions.specs.Rust.Altair.EpochProcessing.{process_slashings}
use Rattle.definitions_close.specs.Amounts.{taken_by_slashings, nines}
use Rattle.definitions_close.specs.CloseBySteps.{eights}
use Rattle.definitions.specs.declared.Refusal.{Refusal}
use Rattle.laws.proofs.Checked.{value_same, not_value}
use Rattle.laws.proofs.Loops.Ran.{ran-refused, ran-by}
use Rattle.laws.proofs.Encode.{length-encode, length-decode, decode-encode}
use Rattle.laws.specs.Ran.{Ran}
use Rattle.laws.proofs.Loops.Entry.{number-at}
use Rattle.write_pass.specs.Filled.{nine_at, put_nine}
use Rattle.write_pass.proofs.Nine.{nine-nine, nine-same, nine-other}
use Rattle.laws_close.proofs.Amounts.Nines.{Eights, nine-at, nines-long, nine_ext, first-eight, last}
use Rattle.laws_close.proofs.Amounts.Slashed.{Slashed, slashed}
use Rattle.close_by_steps.specs.Taken.{SlashingsBooked, balance_in, NinthsPut, NinthsTaken}
use Rattle.laws_close.proofs.Amounts.Eights.{long-eights}

-- a difference that stops at 0
pub lowered_is : (a b : ℕ) → cond (ltb a b) 0 (a - b) ≡ a - b
lowered_is a b = go (ltb a b) refl
  where
    go : (t : Bool) → ltb a b ≡ t → cond t 0 (a - b) ≡ a - b
    go true e = let l = ltb-true a b e in omega (arith, l)
    go false e = refl

-- the ninth of nine is put
pub ninth-put : (xs : List ℕ) (x : ℕ) → length xs ≡ 9 → set xs 8 x ≡ take 8 xs ++ (x ∷ [])
ninth-put xs x l = go 8 xs (omega arith)
  where
    go : (n : ℕ) (ys : List ℕ) → length ys ≡ suc n → set ys n x ≡ take n ys ++ (x ∷ [])
    go n [] h = absurd (omega (arith, h))
    go zero (y ∷ []) h = refl
    go zero (y ∷ z ∷ ys) h = absurd (omega (arith, h))
    go (suc n) (y ∷ ys) h = ap (λ (t : List ℕ). y ∷ t) (go n ys (omega (arith, h)))

nine-wide : (i : ℕ) → 9 * i + 9 - 9 * i ≡ 9
nine-wide i = omega arith

drop_past : (a b : List ℕ) (k : ℕ) → k ≡ length a → drop k (a ++ b) ≡ b
drop_past [] b zero e = refl
drop_past [] b (suc k) e = absurd (omega (arith, e))
drop_past (x ∷ a) b zero e = absurd (omega (arith, e))
drop_past (x ∷ a) b (suc k) e = drop_past a b k (omega (arith, e))

drop_plus : (a b : ℕ) (xs : List ℕ) → drop a (drop b xs) ≡ drop (b + a) xs
drop_plus a zero xs = let e : a ≡ zero + a = omega arith in ap (λ (k : ℕ). drop k xs) e
drop_plus a (suc b) [] = empty a (suc b + a)
  where
    empty : (j k : ℕ) → drop {A = ℕ} j [] ≡ drop k []
    empty zero zero = refl
    empty zero (suc k) = refl
    empty (suc j) zero = refl
    empty (suc j) (suc k) = refl
drop_plus a (suc b) (x ∷ xs) =
    let e : suc b + a ≡ suc (b + a) = omega arith in
    rw e (drop_plus a b xs)

-- After i turns, of which turn j puts f j

pub record Putting (f : ℕ → ℕ) (n : ℕ) (lent : List ℕ) (i : ℕ) (xs : List ℕ) : Type 0 where
  pub first : length lent ≡ 9 * n
  pub long : length xs ≡ 9 * n
  pub below : i ≤ n
  pub small : 10 * n < 1152921504606846976
  pub held : (j : ℕ) → j < i → nine_at xs j ≡ take 8 (nine_at lent j) ++ (f j ∷ [])
  pub rest : drop (9 * i) xs ≡ drop (9 * i) lent

pub putting-none : {f : ℕ → ℕ} {n : ℕ} {lent : List ℕ} → length lent ≡ 9 * n → 10 * n < 1152921504606846976 → Putting f n lent 0 lent
putting-none a b = record { first = a; long = a; below = omega arith; small = b; held = λ j l. absurd (omega arith); rest = refl }

module _ {f : ℕ → ℕ} {n : ℕ} {lent : List ℕ} {i : ℕ} {xs : List ℕ} (g : Putting f n lent i xs) (l : i < n) where
  pub putting-nine : length (nine_at xs i) ≡ 9
  putting-nine = nine-nine n xs i g.long l

  same : nine_at xs i ≡ nine_at lent i
  same = ap (take (9 * i + 9 - 9 * i)) g.rest

  -- what stands in the ninth place
  pub putting-ninth : get_or xs (9 * i + 8) 0 ≡ get_or (nine_at lent i) 8 0
  putting-ninth =
      let w = nine-wide i in
      sym (rw w (get_or-take 9 (drop (9 * i) xs) 8 0 (omega arith) ∙ get_or-drop (9 * i) xs 8 0)) ∙ ap (λ (e : List ℕ). get_or e 8 0) same

  pub putting-more : {m : List ℕ} {y : ℕ} → length m ≡ 9 → m ≡ take 8 (nine_at xs i) ++ (y ∷ []) → y ≡ f i → Putting f n lent (i + 1) (put_nine xs i m)
  putting-more {m} {y} nine is e =
      let front : length (take (9 * i) xs) ≡ 9 * i = simp length-take (omega (arith, g.long, l)) in
      let w = nine-wide i in
      let k : 9 * (i + 1) ≡ length (take (9 * i) xs ++ m) = omega (arith, length-append (take (9 * i) xs) m, front, nine) in
      let s : 9 * i + 9 ≡ 9 * (i + 1) = omega arith in
      record {
        first = g.first;
        long = simp (length-append, length-take, length-drop) (omega (arith, g.long, l, nine));
        below = omega arith;
        small = g.small;
        held =
            below_more (λ j. nine_at (put_nine xs i m) j ≡ take 8 (nine_at lent j) ++ (f j ∷ [])) i
            (λ j t. nine-other n xs i g.long l m j t ∙ g.held j t)
            (nine-same n xs i g.long l m nine ∙ is ∙ ap₂ (λ (a : List ℕ) (b : ℕ). take 8 a ++ (b ∷ [])) same e);
        rest =
            ap (drop (9 * (i + 1))) (sym (append_assoc (take (9 * i) xs) m (drop (9 * i + 9 - 9 * i) (drop (9 * i) xs))))
            ∙ drop_past (take (9 * i) xs ++ m) (drop (9 * i + 9 - 9 * i) (drop (9 * i) xs)) (9 * (i + 1)) k
            ∙ ap (λ (q : ℕ). drop q (drop (9 * i) xs)) w
            ∙ ap (drop 9) g.rest
            ∙ drop_plus 9 (9 * i) lent
            ∙ ap (λ (q : ℕ). drop q lent) s;
      }

module _ {registry lent : List ℕ} {n i : ℕ} {xs : List ℕ} where
  pub put_all : Putting (balance_in registry) n lent i xs → n ≤ i → n ≡ length registry / 10 → NinthsPut registry lent xs
  put_all g l e = record { long = omega (arith, g.long, g.first); nine = λ j k. g.held j (omega (arith, k, e, l)) }

  pub taken-all : Putting (λ j. get_or (nine_at lent j) 8 0 - balance_in registry j) n lent i xs → n ≤ i → n ≡ length registry / 10 → NinthsTaken registry lent xs
  taken-all g l e = record { long = omega (arith, g.long, g.first); nine = λ j k. g.held j (omega (arith, k, e, l)) }

pub balance-is : (n : ℕ) (registry : List ℕ) (i : ℕ) → length registry ≡ 10 * n → i < n → get_or registry (10 * i + 6) 0 ≡ balance_in registry i
balance-is n registry i long l = number-at n registry i long l 6 (omega arith)

-- The step

eights_at : (n : ℕ) (xs : List ℕ) (i : ℕ) → i < n → get_or (eights n xs) i [] ≡ take 8 (drop (9 * i) xs)
unfolding eights
eights_at zero xs i l = absurd (omega arith)
eights_at (suc n) xs zero l = refl
eights_at (suc n) xs (suc i) l =
    let s : 9 + 9 * i ≡ 9 * suc i = omega arith in
    eights_at n (drop 9 xs) i (omega arith) ∙ ap (take 8) (drop_plus (9 * i) 9 xs ∙ ap (λ (k : ℕ). drop k xs) s)

take-fewer : (xs : List ℕ) → take 8 (take 9 xs) ≡ take 8 xs
take-fewer xs = go 8 1 xs
  where
    go : (a b : ℕ) (ys : List ℕ) → take a (take (a + b) ys) ≡ take a ys
    go zero b ys = refl
    go (suc a) b [] = ap (take (suc a)) (nothing (suc a + b))
      where
        nothing : (k : ℕ) → take {A = ℕ} k [] ≡ []
        nothing zero = refl
        nothing (suc k) = refl
    go (suc a) b (y ∷ ys) = let e : suc a + b ≡ suc (a + b) = omega arith in rw e (ap (λ (t : List ℕ). y ∷ t) (go a b ys))

module _ (s : Settings) (multiplier state_slot : ℕ) (slashings before lent : List ℕ) (ten : length before ≡ 10 * (length before / 10)) (nine : length lent ≡ 9 * (length before / 10)) where
  abbrev n : ℕ
  n = length before / 10

  pub slashings-refused : {after amounts : List ℕ} {r : Checked (Unit {0})} {p : Refusal} → Ran (process_slashings s multiplier state_slot slashings (decode before)) after r → r ≡ refused p → SlashingsBooked s multiplier state_slot slashings before after lent amounts (refused p)
  slashings-refused h z = record { ran = ran-refused (ran-by h z); books = λ q. absurd (not_value q) }

  given : (m : Checked (List Validator)) {after : List ℕ} → Ran m after (value tt) → (ws : List Validator) × ((m ≡ value ws) × (after ≡ encode ws))
  given (value ws) h = (ws, (refl, h.held ws refl))
  given (refused r) h = absurd (not_value (sym h.is))

  pub slashings-taken : {after kept amounts : List ℕ} → Ran (process_slashings s multiplier state_slot slashings (decode before)) after (value tt) → NinthsPut before lent kept → NinthsTaken after kept amounts → SlashingsBooked s multiplier state_slot slashings before after lent amounts (value tt)
  slashings-taken {after} {kept} {amounts} h p t = record { ran = h; books = λ z ts q. books ts q }
    where
      vs : List Validator
      vs = decode before

      many : length vs ≡ n
      many = length-decode n before ten

      w : (ws : List Validator) × ((process_slashings s multiplier state_slot slashings vs ≡ value ws) × (after ≡ encode ws))
      w = given (process_slashings s multiplier state_slot slashings vs) h

      sl : Slashed s multiplier state_slot slashings vs w.0
      sl = slashed s multiplier state_slot slashings vs w.1.0

      taken-from : decode after ≡ w.0
      taken-from = ap decode w.1.1 ∙ decode-encode w.0

      tens : length after / 10 ≡ n
      tens = omega (arith, ap length w.1.1, length-encode w.0, sl.same, many)

      at : (i : ℕ) → i < n → take 9 (drop (9 * i) amounts) ≡ take 8 (drop (9 * i) lent) ++ (get_or sl.ninths i 0 ∷ [])
      at i l =
          let wide = nine-wide i in
          let put = p.nine i l in
          let taken = t.nine i (omega (arith, l, tens)) in
          let eight : length (take 8 (nine_at lent i)) ≡ 8 = simp (length-take, length-drop) (omega (arith, nine, l)) in
          let b : balance_in before i ≡ balance_in after i + get_or sl.ninths i 0 = sl.equal i (omega (arith, l, many)) ∙ ap (λ (us : List Validator). (get_or us i nobody).balance + get_or sl.ninths i 0) (sym taken-from) in
          let less : balance_in before i - balance_in after i ≡ get_or sl.ninths i 0 = omega (arith, b) in
          let ninth : get_or (nine_at kept i) 8 0 ≡ balance_in before i = ap (λ (e : List ℕ). get_or e 8 0) put ∙ ap (λ (k : ℕ). get_or (take 8 (nine_at lent i) ++ (balance_in before i ∷ [])) k 0) (sym eight) ∙ last (take 8 (nine_at lent i)) (balance_in before i) in
          let front : take 8 (nine_at kept i) ≡ take 8 (nine_at lent i) = ap (take 8) put ∙ first-eight (take 8 (nine_at lent i)) (balance_in before i) eight in
          let short : take 8 (nine_at lent i) ≡ take 8 (drop (9 * i) lent) = ap (λ (k : ℕ). take 8 (take k (drop (9 * i) lent))) wide ∙ take-fewer (drop (9 * i) lent) in
          sym (ap (λ (k : ℕ). take k (drop (9 * i) amounts)) wide) ∙ taken ∙ ap₂ (λ (a : List ℕ) (x : ℕ). a ++ (x ∷ [])) (front ∙ short) (ap (λ (x : ℕ). x - balance_in after i) ninth ∙ less)

      lots : length lent / 9 ≡ n
      lots = omega (arith, nine)

      books : (ts : List ℕ) → taken_by_slashings s multiplier state_slot slashings vs ≡ value ts → amounts ≡ nines (eights (length lent / 9) lent) ts
      books ts q =
          let is : sl.ninths ≡ ts = value_same (sym sl.are ∙ q) in
          let es = eights n lent in
          let eight : Eights es sl.ninths = record { long = sl.long ∙ many ∙ sym (long-eights n lent); eight = λ i l. (let k : i < n = omega (arith, l, long-eights n lent) in rw (eights_at n lent i k) (simp (length-take, length-drop) (omega (arith, nine, k)))) } in
          nine_ext n amounts (nines es sl.ninths) (t.long ∙ p.long ∙ nine) (nines-long es sl.ninths eight ∙ omega (arith, long-eights n lent))
          (λ i l. at i l ∙ ap (λ (e : List ℕ). e ++ (get_or sl.ninths i 0 ∷ [])) (sym (eights_at n lent i l)) ∙ sym (nine-at es sl.ninths eight i (omega (arith, l, long-eights n lent))))
          ∙ ap₂ (λ (k : ℕ) (us : List ℕ). nines (eights k lent) us) (sym lots) is

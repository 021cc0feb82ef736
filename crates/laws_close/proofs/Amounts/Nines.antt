-- Nine numbers a validator, in the whole list.
use mathlib.Core.Path.{◌≡◌, refl, sym, ap, ◌∙◌}
use mathlib.Core.List.{List, [], ◌∷◌, ◌++◌}
use Prim.Native.Nat.{ℕ, zero, suc, ◌+◌, ◌*◌, ◌/◌, ◌%◌, ◌<◌}
use native.Mathlib.Omega.{arith}
use lib.ListN.{length, get_or, take, drop, length-append}
use lib.Seq.{ext_get_or, get_or-drop, get_or-take}
use Rattle.definitions_close.specs.Amounts.{nines}
use Rattle.laws.proofs.Encode.{take_whole}

drop_more : (n k : ℕ) (xs ys : List ℕ) → n ≡ length xs + k → drop n (xs ++ ys) ≡ drop k ys
drop_more n k [] ys h = let e : n ≡ k = omega (arith, h) in ap (λ (m : ℕ). drop m ys) e
drop_more zero k (x ∷ xs) ys h = absurd (omega (arith, h))
drop_more (suc n) k (x ∷ xs) ys h = drop_more n k xs ys (omega (arith, h))

snoc : (xs : List ℕ) (y : ℕ) (ys : List ℕ) → xs ++ (y ∷ ys) ≡ (xs ++ (y ∷ [])) ++ ys
snoc [] y ys = refl
snoc (x ∷ xs) y ys = ap (λ (t : List ℕ). x ∷ t) (snoc xs y ys)

-- eight numbers each, and as many ninths
pub record Eights (es : List (List ℕ)) (ts : List ℕ) : Type 0 where
  pub long : length ts ≡ length es
  pub eight : (i : ℕ) → i < length es → length (get_or es i []) ≡ 8

pub fewer : {e : List ℕ} {es : List (List ℕ)} {t : ℕ} {ts : List ℕ} → Eights (e ∷ es) (t ∷ ts) → Eights es ts
fewer h = record { long = omega (arith, h.long); eight = λ i l. h.eight (suc i) (omega arith) }

pub nine-at : (es : List (List ℕ)) (ts : List ℕ) → Eights es ts → (i : ℕ) → i < length es → take 9 (drop (9 * i) (nines es ts)) ≡ get_or es i [] ++ (get_or ts i 0 ∷ [])
unfolding nines
nine-at [] ts h i l = absurd (omega arith)
nine-at (e ∷ es) [] h i l = absurd (let k = h.long in omega (arith, k))
nine-at (e ∷ es) (t ∷ ts) h zero l =
    let n : length (e ++ (t ∷ [])) ≡ 9 = omega (arith, length-append e (t ∷ []), h.eight 0 (omega arith)) in
    ap (take 9) (snoc e t (nines es ts)) ∙ ap (λ (k : ℕ). take k ((e ++ (t ∷ [])) ++ nines es ts)) (sym n) ∙ take_whole (e ++ (t ∷ [])) (nines es ts)
nine-at (e ∷ es) (t ∷ ts) h (suc i) l =
    let n : 9 * suc i ≡ length (e ++ (t ∷ [])) + 9 * i = omega (arith, length-append e (t ∷ []), h.eight 0 (omega arith)) in
    ap (λ (xs : List ℕ). take 9 (drop (9 * suc i) xs)) (snoc e t (nines es ts))
    ∙ ap (take 9) (drop_more (9 * suc i) (9 * i) (e ++ (t ∷ [])) (nines es ts) n)
    ∙ nine-at es ts (fewer h) i (omega arith)

pub nines-long : (es : List (List ℕ)) (ts : List ℕ) → Eights es ts → length (nines es ts) ≡ 9 * length es
unfolding nines
nines-long [] ts h = refl
nines-long (e ∷ es) [] h = absurd (let k = h.long in omega (arith, k))
nines-long (e ∷ es) (t ∷ ts) h = omega (arith, length-append e (t ∷ nines es ts), h.eight 0 (omega arith), nines-long es ts (fewer h))

-- eight numbers and one more

pub front : (xs ys : List ℕ) (k : ℕ) → k < length xs → get_or (xs ++ ys) k 0 ≡ get_or xs k 0
front [] ys k l = absurd (omega arith)
front (x ∷ xs) ys zero l = refl
front (x ∷ xs) ys (suc k) l = front xs ys k (omega arith)

pub last : (xs : List ℕ) (y : ℕ) → get_or (xs ++ (y ∷ [])) (length xs) 0 ≡ y
last [] y = refl
last (x ∷ xs) y = last xs y

pub first-eight : (xs : List ℕ) (y : ℕ) → length xs ≡ 8 → take 8 (xs ++ (y ∷ [])) ≡ xs
first-eight xs y h = ap (λ (k : ℕ). take k (xs ++ (y ∷ []))) (sym h) ∙ take_whole xs (y ∷ [])

-- two lists with the same nine numbers of each validator

at-nine : (xs : List ℕ) (i r : ℕ) → r < 9 → get_or xs (9 * i + r) 0 ≡ get_or (take 9 (drop (9 * i) xs)) r 0
at-nine xs i r m = sym (get_or-drop (9 * i) xs r 0) ∙ sym (get_or-take 9 (drop (9 * i) xs) r 0 m)

pub nine_ext : (n : ℕ) (xs ys : List ℕ) → length xs ≡ 9 * n → length ys ≡ 9 * n → ((i : ℕ) → i < n → take 9 (drop (9 * i) xs) ≡ take 9 (drop (9 * i) ys)) → xs ≡ ys
nine_ext n xs ys h k same = ext_get_or 0 xs ys (h ∙ sym k) at
  where
    at : (j : ℕ) → j < length xs → get_or xs j 0 ≡ get_or ys j 0
    at j l =
        let i = j / 9 in
        let r = j % 9 in
        let e : j ≡ 9 * (j / 9) + j % 9 = omega arith in
        let m : j % 9 < 9 = omega arith in
        let b : j / 9 < n = omega (arith, l, h) in
        ap (λ (q : ℕ). get_or xs q 0) e ∙ at-nine xs i r m ∙ ap (λ (zs : List ℕ). get_or zs r 0) (same i b) ∙ sym (at-nine ys i r m) ∙ ap (λ (q : ℕ). get_or ys q 0) (sym e)

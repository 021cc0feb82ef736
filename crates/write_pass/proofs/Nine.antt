-- Nine numbers as a part of the whole list: lent, put one by one, and given back.
use mathlib.Core.Path.{◌≡◌, refl, sym, ap, ◌∙◌}
use mathlib.Core.List.{List, [], ◌∷◌, ◌++◌}
use Prim.Native.Nat.{ℕ, zero, suc, ◌+◌, ◌-◌, ◌*◌, ◌≤◌, ◌<◌}
use native.Mathlib.Omega.{arith}
use lib.ListN.{length, take, drop, set, length-take, length-drop, take-append-drop}
use lib.Seq.{take_all}
use Rattle.write_pass.specs.Filled.{nine_at, put_nine, PutAt}
use Rattle.laws.proofs.Encode.{from, from-take, take_whole}

abbrev over : ℕ → ℕ → ℕ → ℕ → ℕ → ℕ → ℕ → ℕ → ℕ → List ℕ → List ℕ
over a b c d e f g h i xs = set (set (set (set (set (set (set (set (set xs 0 a) 1 b) 2 c) 3 d) 4 e) 5 f) 6 g) 7 h) 8 i

pub nine-put : (a b c d e f g h i : ℕ) (xs : List ℕ) → length xs ≡ 9 → over a b c d e f g h i xs ≡ a ∷ b ∷ c ∷ d ∷ e ∷ f ∷ g ∷ h ∷ i ∷ []
unfolding from
nine-put a b c d e f g h i xs l = ap (over a b c d e f g h i) (sym (from-take 9 0 xs (omega arith) ∙ take_all 9 xs (omega arith)))

take-front : (n : ℕ) (xs ys : List ℕ) → n ≤ length xs → take n (xs ++ ys) ≡ take n xs
take-front zero xs ys h = refl
take-front (suc n) [] ys h = absurd (omega arith)
take-front (suc n) (x ∷ xs) ys h = ap (λ (t : List ℕ). x ∷ t) (take-front n xs ys (omega arith))

drop-front : (n : ℕ) (xs ys : List ℕ) → n ≤ length xs → drop n (xs ++ ys) ≡ drop n xs ++ ys
drop-front zero xs ys h = refl
drop-front (suc n) [] ys h = absurd (omega arith)
drop-front (suc n) (x ∷ xs) ys h = drop-front n xs ys (omega arith)

part-front : (n k : ℕ) (xs ys : List ℕ) → k + n ≤ length xs → take n (drop k (xs ++ ys)) ≡ take n (drop k xs)
part-front n k xs ys h = rw (drop-front k xs ys (omega arith)) (take-front n (drop k xs) ys (omega (arith, length-drop k xs)))

drop-whole : (xs ys : List ℕ) → drop (length xs) (xs ++ ys) ≡ ys
drop-whole [] ys = refl
drop-whole (x ∷ xs) ys = drop-whole xs ys

nine-long : (i : ℕ) → 9 * i + 9 - 9 * i ≡ 9
nine-long i = omega arith

-- lent where there is room, and given back as e
module _ (xs : List ℕ) (i : ℕ) where
  pub nine-part : 9 * i + 9 ≤ length xs → length (nine_at xs i) ≡ 9
  nine-part l = simp (length-take, length-drop) (omega arith)

  pub put-part : {e nine : List ℕ} → length e ≡ length (nine_at xs i) → e ≡ nine → PutAt i nine xs (put_nine xs i e)
  put-part {e} {nine} k is = record { long = λ l. ap length (sym is) ∙ k ∙ nine-part l; is = λ l. ap (put_nine xs i) is }

module _ (n : ℕ) (xs : List ℕ) (i : ℕ) (long : length xs ≡ 9 * n) (l : i < n) where
  pub nine-nine : length (nine_at xs i) ≡ 9
  nine-nine = simp (length-take, length-drop) (omega arith)

  front : length (take (9 * i) xs) ≡ 9 * i
  front = simp length-take (omega arith)

  -- the part that was put
  pub nine-same : (e : List ℕ) → length e ≡ 9 → nine_at (put_nine xs i e) i ≡ e
  nine-same e h =
      let rest = e ++ drop 9 (drop (9 * i) xs) in
      rw (nine-long i)
      (ap (λ (k : ℕ). take 9 (drop k (take (9 * i) xs ++ rest))) (sym front)
      ∙ ap (take 9) (drop-whole (take (9 * i) xs) rest)
      ∙ ap (λ (k : ℕ). take k rest) (sym h)
      ∙ take_whole e (drop 9 (drop (9 * i) xs)))

  -- and an earlier one
  pub nine-other : (e : List ℕ) (j : ℕ) → j < i → nine_at (put_nine xs i e) j ≡ nine_at xs j
  nine-other e j k =
      let first = take (9 * i) xs in
      let rest = e ++ drop (9 * i + 9 - 9 * i) (drop (9 * i) xs) in
      rw (nine-long j)
      (part-front 9 (9 * j) first rest (omega (arith, front))
      ∙ sym (part-front 9 (9 * j) first (drop (9 * i) xs) (omega (arith, front)))
      ∙ ap (λ (t : List ℕ). take 9 (drop (9 * j) t)) (take-append-drop (9 * i) xs))

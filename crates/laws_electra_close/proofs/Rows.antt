-- Rows of twelve by their places.
use mathlib.Core.Path.{◌≡◌, refl, sym, ap, ap₂, ◌∙◌}
use mathlib.Core.Bool.{Bool, true, false}
use mathlib.Core.List.{List, [], ◌∷◌, ◌++◌}
use Prim.Native.Nat.{ℕ, zero, suc, ◌+◌, ◌*◌, ◌<◌}
use native.Mathlib.Omega.{arith}
use borrow.Author.Tests.{ltb-true, ltb-false, eqb-true, eqb-false}
use lib.Dec.{ltb, eqb}
use lib.ListN.{length, get_or, take, drop, replicate, length-append, length-take, length-drop, take-append-drop, get_or-append}
use lib.Seq.{ext_get_or, get_or-take, get_or-drop, get_or-append-add}
use Rattle.definitions.specs.Lists.{range}
use Rattle.definitions_electra_close.specs.Amounts.{Moved, twelve, rows}

-- n rows from the k-th on, where row i is put at its place
pub rows_are : (row : ℕ → List ℕ) (k n : ℕ) (xs : List ℕ) → length xs ≡ 12 * n → ((i : ℕ) → i < n → length (row (k + i)) ≡ 12) → ((i j : ℕ) → i < n → j < 12 → get_or xs (12 * i + j) 0 ≡ get_or (row (k + i)) j 0) → xs ≡ rows row (range k n)
unfolding rows range
rows_are row k zero [] l w h = refl
rows_are row k zero (x ∷ xs) l w h = absurd (omega (arith, l))
rows_are row k (suc n) xs l w h =
    sym (take-append-drop 12 xs)
    ∙ ap₂ ◌++◌ first
    (rows_are row (suc k) n (drop 12 xs) (omega (arith, l, length-drop 12 xs)) (λ i m. ap (λ (j : ℕ). length (row j)) (sym (on i)) ∙ w (suc i) (omega (arith, m)))
    (λ i j m q.
    let e : 12 + (12 * i + j) ≡ 12 * suc i + j = omega arith in
    get_or-drop 12 xs (12 * i + j) 0 ∙ ap (λ (p : ℕ). get_or xs p 0) e ∙ h (suc i) j (omega (arith, m)) q ∙ ap (λ (p : ℕ). get_or (row p) j 0) (on i)))
  where
    here : k + 0 ≡ k
    here = omega arith

    zero_row : (j : ℕ) → j ≡ 12 * 0 + j
    zero_row j = omega arith

    first : take 12 xs ≡ row k
    first =
        let t : length (take 12 xs) ≡ 12 = simp length-take (omega (arith, l)) in
        let u : length (row k) ≡ 12 = ap (λ (i : ℕ). length (row i)) (sym here) ∙ w 0 (omega arith) in
        ext_get_or 0 (take 12 xs) (row k) (t ∙ sym u) (λ j m. get_or-take 12 xs j 0 (omega (arith, m, t)) ∙ ap (λ (p : ℕ). get_or xs p 0) (zero_row j) ∙ h 0 j (omega arith) (omega (arith, m, t)) ∙ ap (λ (i : ℕ). get_or (row i) j 0) here)

    on : (i : ℕ) → k + suc i ≡ suc k + i
    on i = omega arith

-- the twelve numbers of each of n validators, column by column
pub record TwelveColumns (n : ℕ) (es : List (List ℕ)) (ts deposited : List ℕ) (m : Moved) (xs : List ℕ) : Type 0 where
  pub long : length xs ≡ 12 * n
  pub wide : (i : ℕ) → i < n → length (get_or es i (replicate 8 0)) ≡ 8
  pub eight : (i k : ℕ) → i < n → k < 8 → get_or xs (12 * i + k) 0 ≡ get_or (get_or es i (replicate 8 0)) k 0
  pub ninth : (i : ℕ) → i < n → get_or xs (12 * i + 8) 0 ≡ get_or ts i 0
  pub tenth : (i : ℕ) → i < n → get_or xs (12 * i + 9) 0 ≡ get_or deposited i 0
  pub out : (i : ℕ) → i < n → get_or xs (12 * i + 10) 0 ≡ get_or m.out i 0
  pub into : (i : ℕ) → i < n → get_or xs (12 * i + 11) 0 ≡ get_or m.into i 0

pub twelve-rows : {n : ℕ} {es : List (List ℕ)} {ts deposited : List ℕ} {m : Moved} {xs : List ℕ} → TwelveColumns n es ts deposited m xs → xs ≡ rows (twelve es ts deposited m) (range 0 n)
twelve-rows {n} {es} {ts} {deposited} {m} {xs} c = rows_are (twelve es ts deposited m) 0 n xs c.long (λ i l. ap (λ (k : ℕ). length (twelve es ts deposited m k)) (plain i) ∙ wide i l) (λ i j l q. at i j l q ∙ ap (λ (k : ℕ). get_or (twelve es ts deposited m k) j 0) (sym (plain i)))
  where
    plain : (i : ℕ) → 0 + i ≡ i
    plain i = omega arith

    four : ℕ → List ℕ
    four i = get_or ts i 0 ∷ get_or deposited i 0 ∷ get_or m.out i 0 ∷ get_or m.into i 0 ∷ []

    wide : (i : ℕ) → i < n → length (twelve es ts deposited m i) ≡ 12
    wide i l = length-append (get_or es i (replicate 8 0)) (four i) ∙ ap (λ (k : ℕ). k + 4) (c.wide i l)

    -- behind the eight
    behind : (i k : ℕ) → i < n → get_or (twelve es ts deposited m i) (8 + k) 0 ≡ get_or (four i) k 0
    behind i k l = ap (λ (w : ℕ). get_or (twelve es ts deposited m i) (w + k) 0) (sym (c.wide i l)) ∙ get_or-append-add (get_or es i (replicate 8 0)) (four i) k 0

    put : (i j k : ℕ) → i < n → j ≡ 8 + k → get_or xs (12 * i + (8 + k)) 0 ≡ get_or (four i) k 0 → get_or xs (12 * i + j) 0 ≡ get_or (twelve es ts deposited m i) j 0
    put i j k l e h = rw e (h ∙ sym (behind i k l))

    at : (i j : ℕ) → i < n → j < 12 → get_or xs (12 * i + j) 0 ≡ get_or (twelve es ts deposited m i) j 0
    at i j l q = by (ltb j 8) (eqb j 8) (eqb j 9) (eqb j 10) refl refl refl refl
      where
        by : (a b d e : Bool) → ltb j 8 ≡ a → eqb j 8 ≡ b → eqb j 9 ≡ d → eqb j 10 ≡ e → get_or xs (12 * i + j) 0 ≡ get_or (twelve es ts deposited m i) j 0
        by true b d e f g h k = let u = ltb-true j 8 f in c.eight i j l u ∙ sym (get_or-append (get_or es i (replicate 8 0)) (four i) 0 j (omega (arith, u, c.wide i l)))
        by false true d e f g h k = put i j 0 l (eqb-true j 8 g) (c.ninth i l)
        by false false true e f g h k = put i j 1 l (eqb-true j 9 h) (c.tenth i l)
        by false false false true f g h k = put i j 2 l (eqb-true j 10 k) (c.out i l)
        by false false false false f g h k =
            let u = ltb-false j 8 f in
            let v = eqb-false j 8 g in
            let w = eqb-false j 9 h in
            let x = eqb-false j 10 k in
            put i j 3 l (omega (arith, q, u, v, w, x)) (c.into i l)

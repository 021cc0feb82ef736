-- Rows of twelve in the whole list.
use mathlib.Core.Path.{◌≡◌, refl, sym, ap, ◌∙◌}
use mathlib.Core.List.{List, ◌++◌}
use Prim.Native.Nat.{ℕ, zero, suc, ◌+◌, ◌*◌, ◌<◌}
use native.Mathlib.Omega.{arith}
use lib.ListN.{length, take, drop, length-append}
use lib.Seq.{take-append_seam, drop-append_seam, drop-drop}
use Rattle.definitions.specs.Lists.{range}
use Rattle.definitions_electra_close.specs.Amounts.{rows}
use Rattle.theorems_electra_close.specs.Accounted.{row_of}

module _ (row : ℕ → List ℕ) (each : (i : ℕ) → length (row i) ≡ 12) where
  pub rows_long : (k n : ℕ) → length (rows row (range k n)) ≡ 12 * n
  unfolding rows range
  rows_long k zero = refl
  rows_long k (suc n) = omega (arith, length-append (row k) (rows row (range (suc k) n)), each k, rows_long (suc k) n)

  pub row_at : (k n i : ℕ) → i < n → row_of (rows row (range k n)) i ≡ row (k + i)
  unfolding rows range
  row_at k zero i l = absurd (omega arith)
  row_at k (suc n) zero l =
      let e : k + 0 ≡ k = omega arith in
      rw e (ap (λ (m : ℕ). take m (row k ++ rows row (range (suc k) n))) (sym (each k)) ∙ take-append_seam (row k) (rows row (range (suc k) n)))
  row_at k (suc n) (suc i) l =
      let xs = row k ++ rows row (range (suc k) n) in
      let first : drop 12 xs ≡ rows row (range (suc k) n) = ap (λ (m : ℕ). drop m xs) (sym (each k)) ∙ drop-append_seam (row k) (rows row (range (suc k) n)) in
      let e : 12 * suc i ≡ 12 + 12 * i = omega arith in
      let f : suc k + i ≡ k + suc i = omega arith in
      ap (λ (m : ℕ). take 12 (drop m xs)) e ∙ ap (take 12) (sym (drop-drop (12 * i) 12 xs)) ∙ ap (λ (ys : List ℕ). take 12 (drop (12 * i) ys)) first ∙ row_at (suc k) n i (omega arith) ∙ ap row f

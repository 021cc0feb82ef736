-- Rows of nine, spread to rows of twelve.
use mathlib.Core.Path.{◌≡◌, sym, ap, ◌∙◌}
use mathlib.Core.List.{List, ◌++◌}
use Prim.Native.Nat.{ℕ, ◌+◌, ◌-◌, ◌*◌, ◌/◌, ◌%◌, ◌≤◌, ◌<◌}
use native.Mathlib.Omega.{arith}
use borrow.Author.Tests.{lt-ltb, le-ltb}
use lib.ListN.{length, get_or, take, drop, length-append, take-append-drop}
use lib.Seq.{get_or-take, get_or-drop}
use Rattle.definitions.specs.declared.Settings.{Settings}
use Rattle.definitions.specs.Record.{Validator, decode, nobody}
use Rattle.laws_close.proofs.Amounts.Nines.{front}
use Rattle.electra_amounts.specs.Columns.{Spread}
use Rattle.write_turn.specs.declared.Plan.{Plan}
use Rattle.write_pass.specs.Filled.{nine_by, Filled}

row : (i k : ℕ) → k < 12 → (12 * i + k) / 12 ≡ i
row i k l = omega arith

column : (i k : ℕ) → k < 12 → (12 * i + k) % 12 ≡ k
column i k l = omega arith

module _ {lent xs : List ℕ} (s : Spread lent xs) where
  spread_nine : (i k : ℕ) → k < 9 → 12 * i + k < length lent → get_or xs (12 * i + k) 0 ≡ get_or lent (9 * i + k) 0
  spread_nine i k l m =
      let c = column i k (omega arith) in
      let r = row i k (omega arith) in
      s.held (12 * i + k) m ∙ rw (c, r, lt-ltb k 9 l)

  spread_rest : (i k : ℕ) → 9 ≤ k → k < 12 → 12 * i + k < length lent → get_or xs (12 * i + k) 0 ≡ 0
  spread_rest i k g l m =
      let c = column i k l in
      s.held (12 * i + k) m ∙ rw (c, le-ltb k 9 g)

-- the front of a list came back as long
pub back_long : (k : ℕ) (nine xs : List ℕ) → length nine ≡ length (take k xs) → length (nine ++ drop k xs) ≡ length xs
back_long k nine xs h = length-append nine (drop k xs) ∙ ap (λ (j : ℕ). j + length (drop k xs)) h ∙ sym (length-append (take k xs) (drop k xs)) ∙ ap length (take-append-drop k xs)

-- the nine of each row, and zeros; lent has the nine rows in front
module _ {s : Settings} {p : Plan} {opening closing nine : List ℕ} (rest : List ℕ) {lent xs : List ℕ} (h : Filled s p opening closing nine) (is : lent ≡ nine ++ rest) (sp : Spread lent xs) (long : length lent ≡ 12 * (length opening / 10)) where
  abbrev v : ℕ → Validator
  v i = get_or (decode opening) i nobody

  abbrev w : ℕ → Validator
  w i = get_or (decode closing) i nobody

  nine-long : (i : ℕ) → 9 * i + 9 - 9 * i ≡ 9
  nine-long i = omega arith

  pub row_at : (i k : ℕ) → i < length opening / 10 → k < 9 → get_or xs (12 * i + k) 0 ≡ get_or (nine_by s p (v i) (w i)) k 0
  row_at i k l m =
      spread_nine sp i k m (omega (arith, l, m, long))
      ∙ ap (λ (ys : List ℕ). get_or ys (9 * i + k) 0) is
      ∙ front nine rest (9 * i + k) (omega (arith, l, m, h.long))
      ∙ sym (get_or-drop (9 * i) nine k 0)
      ∙ sym (get_or-take 9 (drop (9 * i) nine) k 0 m)
      ∙ ap (λ (e : List ℕ). get_or e k 0) (ap (λ (j : ℕ). take j (drop (9 * i) nine)) (sym (nine-long i)) ∙ h.nine i l)

  pub row-rest : (i k : ℕ) → i < length opening / 10 → 9 ≤ k → k < 12 → get_or xs (12 * i + k) 0 ≡ 0
  row-rest i k l g m = spread_rest sp i k g m (omega (arith, l, m, long))

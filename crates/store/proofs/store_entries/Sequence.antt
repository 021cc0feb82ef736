-- A loop that looks at each entry and the one before, and stops at the first that does not follow.
use mathlib.Core.Bool.{Bool, true, false, ◌&&◌}
use mathlib.Core.List.{List, [], ◌∷◌}
use mathlib.Core.Path.{◌≡◌, refl, sym, ap, ◌∙◌}
use Prim.Native.Nat.{ℕ, suc, ◌+◌, ◌-◌, ◌*◌, ◌≤◌, ◌<◌}
use native.Mathlib.Numerals.{add-one}
use native.Mathlib.Omega.{arith}
use lib.ListN.{length, get_or, take, drop, length-drop}
use lib.Seq.{drop-cons}
use Rattle.definitions_close.specs.Store.{Entry, entry_of, entries_from, follows, in_sequence}
use Rattle.store.proofs.store_entries.Entries.{blank, part-is}

-- i is the next, behind `before`
pub record Following (es : List Entry) (i : ℕ) : Type 0 where
  pub before : ℕ
  pub next : i ≡ suc before
  pub left : in_sequence es ≡ in_sequence (drop before es)

pub following_first : (es : List Entry) → Following es 1
following_first es = record { before = 0; next = refl; left = refl }

-- one entry, or none, is in sequence
short : (es : List Entry) → length es ≤ 1 → in_sequence es ≡ true
unfolding in_sequence
short [] l = refl
short (e ∷ []) l = refl
short (e ∷ f ∷ es) l = absurd (omega arith)

pair-first : (e f : Entry) (es : List Entry) → in_sequence (e ∷ f ∷ es) ≡ (follows e f && in_sequence (f ∷ es))
unfolding in_sequence
pair-first e f es = refl

module _ {es : List Entry} {i : ℕ} (s : Following es i) where
  pub following_all : length es ≤ i → in_sequence es ≡ true
  following_all l = s.left ∙ short (drop s.before es) (simp length-drop (omega arith))

  module _ (l : i < length es) where
    entries-left : drop s.before es ≡ get_or es s.before blank ∷ get_or es i blank ∷ drop (suc i) es
    entries-left =
        drop-cons es s.before blank (omega arith)
        ∙ ap (λ (t : List Entry). get_or es s.before blank ∷ t) (ap (λ (k : ℕ). drop k es) (sym s.next) ∙ drop-cons es i blank l)

    next-two : in_sequence es ≡ (follows (get_or es s.before blank) (get_or es i blank) && in_sequence (drop i es))
    next-two = s.left ∙ rw (entries-left, drop-cons es i blank l) (pair-first _ _ _)

    pub following_more : follows (get_or es s.before blank) (get_or es i blank) ≡ true → Following es (i + 1)
    following_more t = record { before = i; next = add-one i; left = next-two ∙ rw t }

    pub following_stop : follows (get_or es s.before blank) (get_or es i blank) ≡ false → in_sequence es ≡ false
    following_stop t = next-two ∙ rw t

-- a test of the two parts lent is a test of the two entries
pub neighbours : (n : ℕ) (xs : List ℕ) {i : ℕ} (s : Following (entries_from n xs) i) → 23 * n ≤ length xs → i < n → {t : Bool} → follows (entry_of (take (23 * i - (23 * i - 23)) (drop (23 * i - 23) xs))) (entry_of (take (23 * i + 23 - 23 * i) (drop (23 * i) xs))) ≡ t → follows (get_or (entries_from n xs) s.before blank) (get_or (entries_from n xs) i blank) ≡ t
neighbours n xs {i} s long l h =
    let before = part-is n xs long s.before (23 * i - 23) (23 * i) (omega arith) (omega arith) (omega arith) in
    let next = part-is n xs long i (23 * i) (23 * i + 23) refl refl l in
    rw (← before, ← next) h

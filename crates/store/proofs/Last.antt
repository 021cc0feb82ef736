-- The last entry, and a loop that looks for the last one whose start is not above an epoch, from the end.
use mathlib.Core.Bool.{Bool, true, false, cond}
use mathlib.Core.List.{List, [], ◌∷◌, ◌++◌}
use mathlib.Core.Path.{◌≡◌, refl, sym, ap, ◌∙◌}
use Prim.Native.Nat.{ℕ, suc, ◌-◌, ◌*◌, ◌≤◌, ◌<◌}
use native.Mathlib.Omega.{arith}
use borrow.Author.Tests.{le-leb, lt-leb}
use lib.Dec.{leb}
use lib.ListN.{length, get_or, take}
use lib.Seq.{take-suc, take_all}
use Rattle.definitions.specs.Lists.{filter}
use Rattle.definitions.specs.Checked.{value}
use Rattle.definitions_close.specs.Store.{Entry, entries_from, last_of, entry_for}
use Rattle.store.proofs.store_entries.Entries.{blank, length-entries, start-at}
use Rattle.store.specs.Answers.{Finds}

pub last-append : (es : List Entry) (e : Entry) → last_of (es ++ (e ∷ [])) ≡ value e
unfolding last_of
last-append [] e = refl
last-append (f ∷ []) e = refl
last-append (f ∷ g ∷ es) e = last-append (g ∷ es) e

-- of suc k entries it is number k
pub last-at : (es : List Entry) (k : ℕ) → length es ≡ suc k → last_of es ≡ value (get_or es k blank)
last-at es k h =
    let whole : take (suc k) es ≡ es = take_all (suc k) es (omega arith) in
    ap last_of (sym whole ∙ take-suc es k blank (omega arith)) ∙ last-append (take k es) (get_or es k blank)

pub filter-append : {A : Type 0} (p : A → Bool) (us vs : List A) → filter p (us ++ vs) ≡ filter p us ++ filter p vs
unfolding filter
filter-append p [] vs = refl
filter-append p (u ∷ us) vs = go (p u) (filter-append p us vs)
  where
    go : (t : Bool) → filter p (us ++ vs) ≡ filter p us ++ filter p vs → cond t (u ∷ filter p (us ++ vs)) (filter p (us ++ vs)) ≡ cond t (u ∷ filter p us) (filter p us) ++ filter p vs
    go true h = ap (λ (ts : List _). u ∷ ts) h
    go false h = h

module _ (epoch : ℕ) where
  -- one more entry at the end
  pub entry_for-append : (es : List Entry) (e : Entry) → entry_for epoch (es ++ (e ∷ [])) ≡ cond (leb e.start epoch) (value e) (entry_for epoch es)
  unfolding entry_for filter
  entry_for-append es e = ap last_of (filter-append (λ f. leb f.start epoch) es (e ∷ [])) ∙ go (leb e.start epoch)
    where
      rest : List Entry
      rest = filter (λ f. leb f.start epoch) es

      go : (t : Bool) → last_of (rest ++ cond t (e ∷ []) []) ≡ cond t (value e) (last_of rest)
      go true = last-append rest e
      go false = ap last_of (append_nil rest)
        where
          append_nil : (es : List Entry) → es ++ [] ≡ es
          append_nil [] = refl
          append_nil (e ∷ es) = ap (λ (ts : List Entry). e ∷ ts) (append_nil es)

-- none of the entries from i on
pub record Looking (epoch : ℕ) (es : List Entry) (i : ℕ) : Type 0 where
  pub below : i ≤ length es
  pub left : entry_for epoch es ≡ entry_for epoch (take i es)

pub looking_all : (epoch : ℕ) (es : List Entry) (n : ℕ) → length es ≡ n → Looking epoch es n
looking_all epoch es n h = record { below = omega arith; left = ap (entry_for epoch) (sym (take_all n es (omega arith))) }

module _ {epoch : ℕ} {es : List Entry} {i : ℕ} (s : Looking epoch es i) where
  pub looking_none : i ≤ 0 → {n : ℕ} → length es ≡ n → Finds epoch es n
  unfolding entry_for last_of filter
  looking_none l h =
      let z : i ≡ 0 = omega arith in
      record { found = λ q. absurd (omega arith); none = λ q. s.left ∙ rw z }

  module _ (k : ℕ) (is : i ≡ suc k) where
    next : entry_for epoch es ≡ cond (leb (get_or es k blank).start epoch) (value (get_or es k blank)) (entry_for epoch (take k es))
    next =
        s.left
        ∙ ap (λ (j : ℕ). entry_for epoch (take j es)) is
        ∙ ap (entry_for epoch) (take-suc es k blank (omega (arith, s.below)))
        ∙ entry_for-append epoch (take k es) (get_or es k blank)

    pub looking_found : (get_or es k blank).start ≤ epoch → Finds epoch es k
    looking_found l =
        record { found = λ q. next ∙ rw (le-leb (get_or es k blank).start epoch l); none = λ q. absurd (omega (arith, s.below)) }

    pub looking_less : epoch < (get_or es k blank).start → Looking epoch es k
    looking_less l = record { below = omega (arith, s.below); left = next ∙ rw (lt-leb (get_or es k blank).start epoch l) }

-- The last of the first n entries
module _ (n : ℕ) (xs : List ℕ) (l : 0 < n) where
  pub last_entry : last_of (entries_from n xs) ≡ value (get_or (entries_from n xs) (n - 1) blank)
  last_entry = last-at (entries_from n xs) (n - 1) (length-entries n xs ∙ omega arith)

  pub last-start : (get_or (entries_from n xs) (n - 1) blank).start ≡ get_or xs (23 * n - 23) 0
  last-start =
      let e : 23 * (n - 1) ≡ 23 * n - 23 = omega arith in
      start-at n xs (n - 1) (omega arith) ∙ ap (λ (k : ℕ). get_or xs k 0) e

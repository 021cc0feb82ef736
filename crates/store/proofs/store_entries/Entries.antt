-- The part of a store that is lent for the entry i.
use mathlib.Core.Bool.{Bool, true, false, ◌&&◌}
use mathlib.Core.List.{List, [], ◌∷◌}
use mathlib.Core.Path.{◌≡◌, refl, sym, ap, ◌∙◌}
use Prim.Native.Nat.{ℕ, zero, suc, ◌+◌, ◌-◌, ◌*◌, ◌≤◌, ◌<◌}
use native.Mathlib.Omega.{arith}
use lib.ListN.{length, get_or, take, drop, length-take, length-drop}
use lib.Seq.{get_or-take, get_or-drop, drop-drop}
use Rattle.definitions.specs.declared.Rules.{Rules}
use Rattle.definitions.specs.Lists.{every}
use Rattle.definitions.specs.Refusals.{settings_from}
use Rattle.definitions_close.specs.Store.{Entry, entry_of, entries_from}
use Rattle.laws.proofs.Tests.{and_true}

-- three tests of the code
pub three : (a b c : Bool) → ((a && b) && c) ≡ every (a ∷ b ∷ c ∷ [])
unfolding every
three true true c = sym (and_true c)
three true false c = refl
three false b c = refl

-- what stands past the end
abbrev pub blank : Entry
blank = entry_of []

pub length-entries : (n : ℕ) (xs : List ℕ) → length (entries_from n xs) ≡ n
unfolding entries_from
length-entries zero xs = refl
length-entries (suc n) xs = ap suc (length-entries n (drop 23 xs))

pub entry-at : (n : ℕ) (xs : List ℕ) (i : ℕ) → i < n → get_or (entries_from n xs) i blank ≡ entry_of (drop (23 * i) xs)
unfolding entries_from
entry-at zero xs i l = absurd (omega arith)
entry-at (suc n) xs zero l = refl
entry-at (suc n) xs (suc i) l =
    let e : 23 * suc i ≡ 23 + 23 * i = omega arith in
    rw e (entry-at n (drop 23 xs) i (omega arith) ∙ ap entry_of (drop-drop (23 * i) 23 xs))

-- only 23 numbers are read
settings-same : (xs ys : List ℕ) → ((k : ℕ) → k < 19 → get_or xs k 0 ≡ get_or ys k 0) → settings_from xs ≡ settings_from ys
settings-same xs ys at =
    rw (
      settings_from,
      at 0 (omega arith),
      at 1 (omega arith),
      at 2 (omega arith),
      at 3 (omega arith),
      at 4 (omega arith),
      at 5 (omega arith),
      at 6 (omega arith),
      at 7 (omega arith),
      at 8 (omega arith),
      at 9 (omega arith),
      at 10 (omega arith),
      at 11 (omega arith),
      at 12 (omega arith),
      at 13 (omega arith),
      at 14 (omega arith),
      at 15 (omega arith),
      at 16 (omega arith),
      at 17 (omega arith),
      at 18 (omega arith),
    )

pub entry_of-part : (xs : List ℕ) → entry_of (take 23 xs) ≡ entry_of xs
entry_of-part xs =
    let at : (k : ℕ) → k < 23 → get_or (take 23 xs) k 0 ≡ get_or xs k 0 = λ k l. get_or-take 23 xs k 0 l in
    let same : settings_from (drop 2 (take 23 xs)) ≡ settings_from (drop 2 xs) = settings-same (drop 2 (take 23 xs)) (drop 2 xs) (λ k l. get_or-drop 2 (take 23 xs) k 0 ∙ at (2 + k) (omega arith) ∙ sym (get_or-drop 2 xs k 0)) in
    rw (same, at 0 (omega arith), at 1 (omega arith), at 21 (omega arith), at 22 (omega arith))

module _ (n : ℕ) (xs : List ℕ) (long : 23 * n ≤ length xs) (i a b : ℕ) (from : a ≡ 23 * i) (to : b ≡ a + 23) (l : i < n) where
  pub part_length : length (take (b - a) (drop a xs)) ≡ 23
  part_length = simp (length-take, length-drop) (omega arith)

  pub part-is : entry_of (take (b - a) (drop a xs)) ≡ get_or (entries_from n xs) i blank
  part-is =
      let k : b - a ≡ 23 = omega arith in
      rw (k, from) (entry_of-part (drop (23 * i) xs) ∙ sym (entry-at n xs i l))

  -- a test of the part's rules is a test of the entry's
  pub part-tested : (p : Rules → Bool) {r : Rules} {t : Bool} → r ≡ (entry_of (take (b - a) (drop a xs))).rules → p r ≡ t → p (get_or (entries_from n xs) i blank).rules ≡ t
  part-tested p e h = ap p (sym (e ∙ ap (λ (v : Entry). v.rules) part-is)) ∙ h

-- the start is the first of the 23
pub start-at : (n : ℕ) (xs : List ℕ) (i : ℕ) → i < n → (get_or (entries_from n xs) i blank).start ≡ get_or xs (23 * i) 0
start-at n xs i l =
    let e : 23 * i + 0 ≡ 23 * i = omega arith in
    ap (λ (v : Entry). v.start) (entry-at n xs i l) ∙ get_or-drop (23 * i) xs 0 0 ∙ ap (λ (k : ℕ). get_or xs k 0) e

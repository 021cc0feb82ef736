-- An accepted addition: the entries afterwards, that they pass the tests, and what is read.
use mathlib.Core.Bool.{Bool, true, cond}
use mathlib.Core.List.{List, [], ◌∷◌, ◌++◌, append_assoc}
use mathlib.Core.Path.{◌≡◌, refl, sym, ap, ◌∙◌, subst}
use Prim.Native.Nat.{ℕ, zero, suc, ◌+◌, ◌*◌, ◌%◌, ◌≤◌, ◌<◌}
use native.Mathlib.Numerals.{add-one}
use native.Mathlib.Omega.{arith}
use borrow.Author.Tests.{le-leb, lt-leb, eq-eqb}
use lib.Dec.{leb}
use lib.ListN.{length, take, drop, length-append, length-drop}
use lib.Seq.{take-add, take_at, drop_at, length-take-le}
use Rattle.definitions.specs.Lists.{all, every}
use Rattle.definitions.specs.Checked.{value, bind}
use Rattle.definitions.specs.Refusals.{in_order, after_tests}
use Rattle.definitions.specs.Rules.{rules_shaped, good_rules}
use Rattle.definitions_close.specs.Store.{Entry, Store, entry_of, numbers_of, entries_from, entries, room, last_of, store_shaped, good_entries, store_tests, entry_for, rules_at, read_rules, addition_tests, with_entry, add_entry}
use Rattle.laws.proofs.Checked.{value_same, bound}
use Rattle.laws.proofs.Loops.Tested.{all_append}
use Rattle.store.proofs.store_entries.Entries.{entry_of-part}
use Rattle.store.proofs.Last.{entry_for-append}
use Rattle.store.proofs.Passed.{StoreShape, store-shaped, AdditionPassed, addition_passed}
use Rattle.theorems.specs.Store.Laws.{Grown, Additions}
use Rattle.theorems.proofs.Store.Sequence.{follows-last, sequence-append}

-- The entries afterwards

-- 23 numbers in front are the first entry
first_entry : (xs rest : List ℕ) → 23 ≤ length xs → entry_of (take 23 xs ++ rest) ≡ entry_of xs
first_entry xs rest l =
    let h = length-take-le 23 xs l in
    sym (entry_of-part (take 23 xs ++ rest)) ∙ ap entry_of (take_at (take 23 xs) rest 23 h) ∙ entry_of-part xs

entries-put : (n : ℕ) (xs ys : List ℕ) (new : Entry) → 23 * n ≤ length xs → entries_from (suc n) (take (23 * n) xs ++ (numbers_of new ++ ys)) ≡ entries_from n xs ++ (new ∷ [])
unfolding entries_from
entries-put zero xs ys new l = refl
entries-put (suc n) xs ys new l =
    let h : 23 ≤ length xs = omega arith in
    let rest = take (23 * n) (drop 23 xs) ++ (numbers_of new ++ ys) in
    let more : take (23 * suc n) xs ++ (numbers_of new ++ ys) ≡ take 23 xs ++ rest = split n xs (numbers_of new ++ ys) in
    ap (λ (zs : List ℕ). entries_from (suc (suc n)) zs) more
    ∙ rw (first_entry xs rest h, drop_at (take 23 xs) rest 23 (length-take-le 23 xs h))
    (ap (λ (es : List Entry). entry_of xs ∷ es) (entries-put n (drop 23 xs) ys new (simp length-drop (omega arith))))
  where
    split : (n : ℕ) (xs zs : List ℕ) → take (23 * suc n) xs ++ zs ≡ take 23 xs ++ (take (23 * n) (drop 23 xs) ++ zs)
    split n xs zs =
        let e : 23 * suc n ≡ 23 + 23 * n = omega arith in
        rw (e, take-add 23 (23 * n) xs) (append_assoc (take 23 xs) (take (23 * n) (drop 23 xs)) zs)

module _ (s : Store) (new : Entry) (p : AdditionPassed s new) where
  shape : StoreShape s
  shape = store-shaped s p.shape.store

  added-entries : entries (with_entry s new) ≡ entries s ++ (new ∷ [])
  unfolding with_entry
  added-entries = rw (add-one s.count) (entries-put s.count s.numbers (drop (23 * s.count + 23) s.numbers) new shape.fits)

  same_length : length (with_entry s new).numbers ≡ length s.numbers
  unfolding with_entry
  same_length =
      let h = length-take-le (23 * s.count) s.numbers shape.fits in
      simp (length-append, length-drop) (omega (arith, p.shape.space))

  one_more : (p : Entry → Bool) → all p (entries s) ≡ true → p new ≡ true → all p (entries s ++ (new ∷ [])) ≡ true
  unfolding all
  one_more p h k = all_append p (entries s) (new ∷ []) h ∙ rw k

  in_room : (with_entry s new).count ≤ room (with_entry s new)
  unfolding with_entry
  in_room = omega (arith, same_length, p.shape.space)

  added-shaped : store_shaped (with_entry s new) ≡ true
  unfolding store_shaped every
  added-shaped =
      rw (
        eq-eqb (length (with_entry s new).numbers % 23) 0 (ap (λ (n : ℕ). n % 23) same_length ∙ shape.whole),
        le-leb (with_entry s new).count (room (with_entry s new)) in_room,
        added-entries,
        one_more (λ e. rules_shaped e.rules) shape.each p.shape.rules,
        sequence-append (entries s) new shape.sequence (follows-last new (last_of (entries s)) p.later p.shape.kept),
      )

  added-good : good_entries (entries (with_entry s new)) ≡ true
  unfolding good_entries
  added-good = rw added-entries (one_more (λ e. good_rules e.rules) p.entries-good p.rules-good)

  added-formed : store_tests (with_entry s new) ≡ value tt
  unfolding store_tests in_order every
  added-formed = rw (added-shaped, added-good)

  formed : store_tests s ≡ value tt
  unfolding store_tests in_order every
  formed = rw (p.shape.store, p.entries-good)

  -- reading
  read-passed : (s : Store) (epoch : ℕ) → store_tests s ≡ value tt → read_rules s epoch ≡ rules_at epoch (entries s)
  unfolding read_rules after_tests bind
  read-passed s epoch h = rw h

  read-entry : (epoch : ℕ) → read_rules (with_entry s new) epoch ≡ bind (cond (leb new.start epoch) (value new) (entry_for epoch (entries s))) (λ e. value e.rules)
  unfolding rules_at
  read-entry epoch = read-passed (with_entry s new) epoch added-formed ∙ rw (added-entries, entry_for-append epoch (entries s) new)

  read-before : (epoch : ℕ) → epoch < new.start → read_rules (with_entry s new) epoch ≡ read_rules s epoch
  unfolding rules_at
  read-before epoch l = read-entry epoch ∙ rw (lt-leb new.start epoch l) (sym (read-passed s epoch formed))

  read-since : (epoch : ℕ) → new.start ≤ epoch → read_rules (with_entry s new) epoch ≡ value new.rules
  unfolding bind
  read-since epoch l = read-entry epoch ∙ rw (le-leb new.start epoch l)

  pub grown : Grown s new (with_entry s new)
  grown = record { behind = added-entries; long = same_length; formed = added-formed; before = read-before; since = read-since }

pub additions : Additions
unfolding add_entry after_tests
additions s new t e =
    let b = bound (addition_tests s new) (λ _. value (with_entry s new)) e in
    subst (Grown s new) (value_same b.then) (grown s new (addition_passed s new refl b.gave))

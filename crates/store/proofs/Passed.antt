-- What the tests of a store say once passed, and how they are made.
use mathlib.Core.Bool.{Bool, true, false}
use mathlib.Core.List.{List, [], ◌∷◌}
use mathlib.Core.Path.{◌≡◌, sym, ◌∙◌}
use Prim.Native.Nat.{◌+◌, ◌*◌, ◌%◌, ◌≤◌, ◌<◌}
use native.Mathlib.Omega.{arith}
use borrow.Author.Tests.{eqb-true, leb-true, ltb-true, le-leb, lt-leb}
use lib.Dec.{ltb, eqb}
use lib.ListN.{length}
use Rattle.definitions.specs.Lists.{all, every}
use Rattle.definitions.specs.Checked.{Checked, value}
use Rattle.definitions.specs.declared.Refusal.TheVariants.{LateStart}
use Rattle.definitions.specs.Refusals.{in_order, after_tests}
use Rattle.definitions.specs.Rules.{rules_shaped, good_rules}
use Rattle.definitions_close.specs.Store.{Entry, Store, entries, room, last_of, of_last, keeps, in_sequence, store_shaped, good_entries, store_tests, addition_shaped, start_test, addition_tests}
use Rattle.laws.proofs.Checked.{bound, checked_value}
use Rattle.laws.proofs.Tests.{test, in_order-value, and_true, and_false}

-- a group of tests is tested as its tests are
pub grouped : (shaped settings recorded : List Bool) {x : Checked (Unit {0})} → x ≡ in_order shaped settings recorded → x ≡ in_order (every shaped ∷ []) settings recorded
unfolding in_order every
grouped shaped settings recorded e = rw (and_true (every shaped)) e

pub record StoreShape (s : Store) : Type 0 where
  pub whole : length s.numbers % 23 ≡ 0
  pub fits : 23 * s.count ≤ length s.numbers
  pub each : all (λ e. rules_shaped e.rules) (entries s) ≡ true
  pub sequence : in_sequence (entries s) ≡ true

pub store-shaped : (s : Store) → store_shaped s ≡ true → StoreShape s
unfolding store_shaped
store-shaped s h =
    let t = test _ h in
    let w = leb-true s.count (room s) (t 1) in
    record { whole = eqb-true (length s.numbers % 23) 0 (t 0); fits = omega arith; each = t 2; sequence = t 3 }

-- with the count over the room, and within it
module _ (s : Store) where
  pub no_room : room s < s.count → store_shaped s ≡ false
  unfolding store_shaped every
  no_room l = rw (lt-leb s.count (room s) l, and_false (eqb (length s.numbers % 23) 0))

  pub in_room : s.count ≤ room s → store_shaped s ≡ every (eqb (length s.numbers % 23) 0 ∷ all (λ e. rules_shaped e.rules) (entries s) ∷ in_sequence (entries s) ∷ [])
  unfolding store_shaped every
  in_room l = rw (le-leb s.count (room s) l)

-- tests 1 and 2 of a store
pub record StorePassed (s : Store) : Type 0 where
  pub shape : StoreShape s
  pub entries-good : good_entries (entries s) ≡ true

pub store-passed : (s : Store) {x : Checked (Unit {0})} → x ≡ store_tests s → x ≡ value tt → StorePassed s
unfolding store_tests
store-passed s e z =
    let q = in_order-value _ _ _ (sym e ∙ z) in
    record { shape = store-shaped s (q.shaped 0); entries-good = q.settings 0 }

pub record AdditionShape (s : Store) (new : Entry) : Type 0 where
  pub store : store_shaped s ≡ true
  pub space : 23 * s.count + 23 ≤ length s.numbers
  pub rules : rules_shaped new.rules ≡ true
  pub kept : of_last (λ e. keeps e.rules.settings new.rules.settings) (last_of (entries s)) ≡ true

pub addition_shaped_lem : (s : Store) (new : Entry) → addition_shaped s new ≡ true → AdditionShape s new
unfolding addition_shaped
addition_shaped_lem s new h =
    let t = test _ h in
    let w = ltb-true s.count (room s) (t 1) in
    record { store = t 0; space = omega arith; rules = t 2; kept = t 3 }

-- tests 1, 2 and 12 of an addition
pub record AdditionPassed (s : Store) (new : Entry) : Type 0 where
  pub shape : AdditionShape s new
  pub entries-good : good_entries (entries s) ≡ true
  pub rules-good : good_rules new.rules ≡ true
  pub later : of_last (λ e. ltb e.start new.start) (last_of (entries s)) ≡ true

pub addition_passed : (s : Store) (new : Entry) {x : Checked (Unit {0})} → x ≡ addition_tests s new → x ≡ value tt → AdditionPassed s new
unfolding addition_tests start_test after_tests
addition_passed s new e z =
    let b = bound _ (λ _. start_test s new) (sym e ∙ z) in
    let q = in_order-value _ _ _ b.gave in
    record { shape = addition_shaped_lem s new (q.shaped 0); entries-good = q.settings 0; rules-good = q.settings 1; later = (checked_value LateStart _ b.then).0 }

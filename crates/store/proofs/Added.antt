-- What an addition leaves, from what its tests answered.
use mathlib.Core.List.{List, ◌++◌}
use mathlib.Core.Path.{◌≡◌}
use Prim.Native.Nat.{ℕ, ◌+◌, ◌-◌, ◌*◌}
use native.Mathlib.Omega.{arith}
use lib.ListN.{take, drop}
use lib.Seq.{drop-drop}
use Rattle.definitions.specs.Checked.{Checked, value, refused, number_of}
use Rattle.definitions_close.specs.Store.{Entry, Store, numbers_of, addition_tests, with_entry, add_entry, added}
use Rattle.definitions.specs.declared.Refusal.{Refusal}
use Rattle.refusals.proofs.Answers.{after-passed, after-refused}
use Rattle.definitions_close.specs.Calls.{lent}

module _ (s : Store) (new : Entry) {x : Checked (Unit {0})} (e : x ≡ addition_tests s new) where
  pub added-refused : {p : Refusal} {k : ℕ} → x ≡ refused p → k ≡ number_of p → record { refusal = k; store = s } ≡ added s new
  unfolding added add_entry
  added-refused z n = rw (after-refused (addition_tests s new) (value (with_entry s new)) e z, n)

-- the 23 numbers stand in their place
pub added-accepted : (xs : List ℕ) (count : ℕ) (new : Entry) {x : Checked (Unit {0})} {es : List ℕ} → x ≡ addition_tests (lent xs count) new → x ≡ value tt → es ≡ numbers_of new → record { refusal = 0; store = lent (take (23 * count) xs ++ (es ++ drop (23 * count + 23 - 23 * count) (drop (23 * count) xs))) (count + 1) } ≡ added (lent xs count) new
unfolding added add_entry with_entry
added-accepted xs count new e z h =
    let s = lent xs count in
    let k : 23 * count + 23 - 23 * count ≡ 23 = omega arith in
    rw (after-passed (addition_tests s new) (value (with_entry s new)) e z, k, drop-drop 23 (23 * count) xs, h)

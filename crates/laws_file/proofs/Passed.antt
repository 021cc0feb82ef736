-- What an accepted file says: tests 6, 1, 2, 3 and 8 of reading, in numbers.
use mathlib.Core.Path.{◌≡◌, refl, sym, ap₂}
use mathlib.Core.Bool.{Bool, true, false, cond, false≢true}
use mathlib.Core.List.{List, [], ◌∷◌}
use Prim.Native.Nat.{ℕ, ◌*◌, ◌^◌, ◌≤◌}
use native.Mathlib.Omega.{arith}
use borrow.Author.Tests.{leb-true, eqb-true}
use lib.Dec.{eqb}
use lib.ListN.{length, drop, length-drop}
use lib.Seq.{length-take-le}
use Rattle.definitions.specs.Record.{decode}
use Rattle.definitions.specs.Checked.{Checked, value, refused}
use Rattle.definitions.specs.declared.Refusal.TheVariants.{BadFile}
use Rattle.definitions.specs.Refusals.{good_settings, good_finality, good_registry}
use Rattle.definitions.specs.ExitQueue.{is_queue_of, queue_test}
use Rattle.definitions_file.specs.File.{Contents, numbers_from_bytes, version_of, validators_at, queue_in, header, count_of, root_count_of, slashing_count_of, roots_at, slashings_at, file_length, contents_of, same_numbers, good_header, file_shaped, read_tests, read_file}
use Rattle.laws.proofs.Checked.{not_value, bound}
use Rattle.laws.proofs.Tests.{both, test, in_order-value}
use Rattle.laws_file.proofs.Numbers.{length_from_bytes}
use Rattle.laws_file.proofs.Tests.{Good, count_in, root_count_in, slashing_count_in, vector-length, queue-passed}

-- every test passes
pub record Passed (bytes lent_registry lent_slashings : List ℕ) : Type 0 where
  pub header : good_header bytes ≡ true
  pub shaped : file_shaped bytes lent_registry lent_slashings ≡ true
  pub settings : good_settings (contents_of bytes).settings ≡ true
  pub finality : good_finality (contents_of bytes).finality ≡ true
  pub registry : good_registry (contents_of bytes).registry ≡ true
  pub queue : is_queue_of (queue_in bytes) (decode (contents_of bytes).registry) ≡ true

header-passed : (t : Bool) (m : Checked (Unit {0})) {u : Unit {0}} → cond t m (refused BadFile) ≡ value u → (t ≡ true) × (m ≡ value u)
header-passed true m e = (refl, e)
header-passed false m e = absurd (not_value e)

pub read-passed : (bytes registry slashings : List ℕ) {c : Contents} → read_file bytes registry slashings ≡ value c → Passed bytes registry slashings
unfolding read_file read_tests
read-passed bytes registry slashings e =
    let c = contents_of bytes in
    let read = bound (read_tests bytes registry slashings) (λ _. value c) e in
    let first = header-passed (good_header bytes) _ read.gave in
    let then = bound _ (λ _. queue_test (queue_in bytes) (decode c.registry)) first.1 in
    let order = in_order-value _ _ _ then.gave in
    record { header = first.0; shaped = order.shaped 0; settings = order.settings 0; finality = order.recorded 0; registry = order.recorded 1; queue = queue-passed (queue_in bytes) (decode c.registry) then.then }

-- Test 6

pub record Header (bytes : List ℕ) : Type 0 where
  pub enough : 80 ≤ length bytes
  pub some-version : 1 ≤ version_of bytes
  pub known-version : version_of bytes ≤ 2
  pub numbers : numbers_from_bytes 10 bytes ≡ header (version_of bytes) (count_of bytes) (root_count_of bytes) (slashing_count_of bytes)
  pub long : length bytes ≡ file_length (version_of bytes) (count_of bytes) (root_count_of bytes) (slashing_count_of bytes)

same-equal : (xs ys : List ℕ) → same_numbers xs ys ≡ true → xs ≡ ys
unfolding same_numbers
same-equal [] [] e = refl
same-equal [] (y ∷ ys) e = absurd (false≢true e)
same-equal (x ∷ xs) [] e = absurd (false≢true e)
same-equal (x ∷ xs) (y ∷ ys) e =
    let t = both (eqb x y) (same_numbers xs ys) e in
    ap₂ ◌∷◌ (eqb-true x y t.0) (same-equal xs ys t.1)

pub good-header : (bytes : List ℕ) → good_header bytes ≡ true → Header bytes
unfolding good_header
good-header bytes e =
    let t = test _ e in
    record {
      enough = leb-true _ _ (t 0);
      some-version = leb-true _ _ (t 1);
      known-version = leb-true _ _ (t 2);
      numbers = same-equal _ _ (t 3);
      long = eqb-true _ _ (t 4);
    }

-- All of them

pub record Accepted (bytes : List ℕ) : Type 0 where
  pub header : Header bytes
  pub count : count_in (contents_of bytes) ≡ count_of bytes
  pub root-count : root_count_in (contents_of bytes) ≡ root_count_of bytes
  pub slashing-count : slashing_count_in (contents_of bytes) ≡ slashing_count_of bytes
  pub good : Good (contents_of bytes)
  pub queue : is_queue_of (queue_in bytes) (decode (contents_of bytes).registry) ≡ true

pub length-registry : (bytes : List ℕ) → length (contents_of bytes).registry ≡ 10 * count_of bytes
unfolding contents_of
length-registry bytes = length_from_bytes (10 * count_of bytes) (drop (validators_at (version_of bytes)) bytes)

length-roots : (bytes : List ℕ) → length bytes ≡ file_length (version_of bytes) (count_of bytes) (root_count_of bytes) (slashing_count_of bytes) → length (contents_of bytes).roots ≡ 32 * root_count_of bytes
unfolding contents_of
length-roots bytes e = length-take-le (32 * root_count_of bytes) (drop (roots_at (version_of bytes) (count_of bytes)) bytes) (omega (arith, length-drop (roots_at (version_of bytes) (count_of bytes)) bytes))

pub length-slashings : (bytes : List ℕ) → length (contents_of bytes).slashings ≡ slashing_count_of bytes
unfolding contents_of
length-slashings bytes = length_from_bytes (slashing_count_of bytes) (drop (slashings_at (version_of bytes) (count_of bytes) (root_count_of bytes)) bytes)

pub accepted : (bytes registry slashings : List ℕ) → Passed bytes registry slashings → Accepted bytes
unfolding file_shaped
accepted bytes registry slashings p =
    let n = count_of bytes in
    let S = root_count_of bytes in
    let L = slashing_count_of bytes in
    let c = contents_of bytes in
    let head = good-header bytes p.header in
    let shape = test _ p.shaped in
    let few = leb-true n (2 ^ 24) (shape 0) in
    let some-roots = vector-length S (shape 1) in
    let some-slashings = vector-length L (shape 2) in
    let like-roots = eqb-true S (root_count_in c) (shape 3) in
    let like-slashings = eqb-true L (slashing_count_in c) (shape 4) in
    let entries = length-registry bytes in
    let count : count_in c ≡ n = omega arith in
    record {
      header = head;
      count = count;
      root-count = sym like-roots;
      slashing-count = sym like-slashings;
      good =
          record {
            entries = omega arith;
            few = omega arith;
            some-roots = omega arith;
            few-roots = omega arith;
            some-slashings = omega arith;
            few-slashings = omega arith;
            roots = omega (arith, length-roots bytes head.long);
            slashings = omega (arith, length-slashings bytes);
            settings = p.settings;
            finality = p.finality;
            registry = p.registry;
          };
      queue = p.queue;
    }

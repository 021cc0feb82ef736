-- A file's numbers in a working list.
use mathlib.Core.Path.{◌≡◌, sym, ap, ◌∙◌}
use mathlib.Core.List.{List, ◌++◌}
use Prim.Native.Nat.{ℕ, ◌+◌, ◌-◌, ◌*◌, ◌≤◌}
use native.Mathlib.Omega.{arith}
use lib.ListN.{length, take, drop, length-take, length-drop}
use lib.Seq.{take_at, drop_at, length-take-le}
use Rattle.definitions_file.specs.File.{count_of, root_count_of, slashing_count_of, numbers_from_bytes, contents_of}
use Rattle.laws_file.proofs.Numbers.{length_from_bytes}
use Rattle.laws_file.proofs.Passed.{good-header}
use Rattle.shelf_file.specs.Parts.{Counts, Counted, numbers_behind, Opened}

module _ {file : List ℕ} {a b : ℕ} (p : Counts file a b) where
  pub counts-long : length file ≡ 384 + 80 * count_of file + 32 * root_count_of file + 8 * slashing_count_of file
  counts-long = omega (arith, (good-header file p.header).long, p.second)

module _ {file : List ℕ} {a b : ℕ} {numbers : List ℕ} (p : Counted file a b numbers) where
  pub front_length : length (take a numbers) ≡ a
  front_length = length-take-le a numbers (omega (arith, p.counts, p.room))

  pub behind-length : length (numbers_behind a b numbers) ≡ slashing_count_of file
  behind-length = simp (length-take, length-drop) (omega (arith, p.counts, p.room))

  -- read in front, and then behind
  pub opened : (xs ys : List ℕ) → xs ≡ numbers_from_bytes (length (take a numbers)) (drop 384 file) → ys ≡ numbers_from_bytes (length (take (b - a) (drop a (xs ++ drop a numbers)))) (drop (length file - 8 * (b - a)) file) → Opened file a b (take a (xs ++ drop a numbers) ++ (ys ++ drop (b - a) (drop a (xs ++ drop a numbers))))
  unfolding contents_of
  opened xs ys e f =
      let k = p.counts in
      let rest = drop a numbers in
      let l : length xs ≡ a = ap length e ∙ length_from_bytes (length (take a numbers)) (drop 384 file) ∙ front_length in
      let many : length (take (b - a) rest) ≡ slashing_count_of file = behind-length in
      let g : ys ≡ numbers_from_bytes (slashing_count_of file) (drop (length file - 8 * (b - a)) file) = rw (drop_at xs rest a l, many) at f in
      let size : b - a ≡ slashing_count_of file = omega (arith, k) in
      let m : length ys ≡ b - a = ap length g ∙ length_from_bytes (slashing_count_of file) (drop (length file - 8 * (b - a)) file) ∙ sym size in
      let from : length file - 8 * (b - a) ≡ 384 + 80 * count_of file + 32 * root_count_of file = omega (arith, k, counts-long k) in
      let left = drop (b - a) (drop a (xs ++ rest)) in
      record {
        registry = rw (take_at xs rest a l, take_at xs (ys ++ left) a l, k.second) (rw (front_length, k.registry) at e);
        slashings = rw (take_at xs rest a l, drop_at xs (ys ++ left) a l, take_at ys left (b - a) m, k.second) (rw from at g);
      }

-- the slashings alone are written
pub behind-put : (a b : ℕ) (numbers ys : List ℕ) → a ≤ b → b ≤ length numbers → length ys ≡ length (numbers_behind a b numbers) → numbers_behind a b (take a numbers ++ (ys ++ drop (b - a) (drop a numbers))) ≡ ys
behind-put a b numbers ys h k e =
    let front : length (take a numbers) ≡ a = length-take-le a numbers (omega arith) in
    let size : length (numbers_behind a b numbers) ≡ b - a = simp (length-take, length-drop) (omega arith) in
    rw (drop_at (take a numbers) (ys ++ drop (b - a) (drop a numbers)) a front) (take_at ys (drop (b - a) (drop a numbers)) (b - a) (e ∙ size))

-- A file's numbers in a working list: the registry in front, the slashings behind it; and what its close leaves.
use Rattle.std.specs.Prelude.{◌≡◌, true, List, ℕ, ◌+◌, ◌-◌, ◌*◌, ◌≤◌, length, take, drop}
use Rattle.definitions.specs.declared.Bellatrix.{Bellatrix}
use Rattle.definitions_file.specs.File.{version_of, count_of, slashing_count_of, contents_of, good_header}
use Rattle.definitions_file.specs.ClosedFile.{answer_for, part_for}

-- the file has a header of version 2, its registry ends at a, and its slashings behind it at b
pub record Counts (file : List ℕ) (a b : ℕ) : Type 0 where
  pub header : good_header file ≡ true
  pub second : version_of file ≡ 2
  pub registry : a ≡ 10 * count_of file
  pub slashings : b ≡ a + slashing_count_of file

-- and the list has room for them
pub record Counted (file : List ℕ) (a b : ℕ) (numbers : List ℕ) : Type 0 where
  pub counts : Counts file a b
  pub room : b ≤ length numbers

abbrev pub numbers_behind : ℕ → ℕ → List ℕ → List ℕ
numbers_behind a b numbers = take (b - a) (drop a numbers)

-- they hold what the file does
pub record Opened (file : List ℕ) (a b : ℕ) (numbers : List ℕ) : Type 0 where
  pub registry : take a numbers ≡ (contents_of file).registry
  pub slashings : numbers_behind a b numbers ≡ (contents_of file).slashings

-- the answer, and the part
pub record FileClosed (fork : ℕ) (pair : Bellatrix) (file before after : List ℕ) (answer : ℕ) : Type 0 where
  pub number : answer ≡ answer_for fork pair file
  pub part : after ≡ part_for fork pair file before

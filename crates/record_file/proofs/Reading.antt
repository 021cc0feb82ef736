-- What a read answers and leaves, by what the tests gave.
use mathlib.Core.Path.{◌≡◌, refl, sym, ◌∙◌}
use mathlib.Core.Bool.{true, false}
use mathlib.Core.List.{List}
use Prim.Native.Nat.{ℕ, ◌-◌, ◌*◌}
use native.Mathlib.Omega.{arith}
use borrow.Author.Tests.{eqb-true}
use lib.ListN.{length, drop}
use Rattle.definitions.specs.Checked.{Checked, value, refused, bind, number_of, code_of}
use Rattle.definitions_file.specs.File.{Contents, version_of, validators_at, numbers_from_bytes, slashings_at, count_of, root_count_of, slashing_count_of, file_length, contents_of, good_header, file_shaped, read_tests, read_file, nothing, read, no_header, header_read}
use Rattle.definitions.specs.declared.Refusal.{Refusal}
use Rattle.laws_file.proofs.Codes.{code-value}
use Rattle.laws.proofs.Tests.{test}
use Rattle.laws_file.proofs.Passed.{Passed, read-passed, good-header}
use Rattle.definitions_file.specs.declared.Header.{Header}

-- The header

abbrev header_of : ℕ → ℕ → ℕ → Header
header_of n S L = record { refusal = 0; validators = n; roots = S; slashings = L }

pub header_refused : (bytes : List ℕ) → good_header bytes ≡ false → no_header ≡ header_read bytes
unfolding header_read
header_refused bytes g = rw g

pub header-accepted : (bytes : List ℕ) {n S L : ℕ} → good_header bytes ≡ true → n ≡ count_of bytes → S ≡ root_count_of bytes → L ≡ slashing_count_of bytes → header_of n S L ≡ header_read bytes
unfolding header_read
header-accepted bytes g n S L = rw (g, n, S, L)

-- The whole file

code-bind : {A : Type 0} (m : Checked (Unit {0})) (a : A) → code_of (bind m (λ _. value a)) ≡ code_of m
unfolding bind
code-bind (value u) a = refl
code-bind (refused r) a = refl

pub read-code : (bytes registry slashings : List ℕ) → (read bytes registry slashings).refusal ≡ code_of (read_tests bytes registry slashings)
unfolding read read_file
read-code bytes registry slashings = code-bind (read_tests bytes registry slashings) (contents_of bytes)

-- the outcome of a read
pub record Gives (bytes registry slashings : List ℕ) (refusal : ℕ) (c : Contents) : Type 0 where
  pub number : refusal ≡ (read bytes registry slashings).refusal
  pub contents : (read bytes registry slashings).contents ≡ c

-- the file and the two lent buffers are as long as the header calls for
pub record Lengths (bytes registry slashings : List ℕ) : Type 0 where
  pub header : good_header bytes ≡ true
  pub file : length bytes ≡ file_length (version_of bytes) (count_of bytes) (root_count_of bytes) (slashing_count_of bytes)
  pub entries : length registry ≡ 10 * count_of bytes
  pub sums : length slashings ≡ slashing_count_of bytes

lengths : {bytes registry slashings : List ℕ} → Passed bytes registry slashings → Lengths bytes registry slashings
unfolding file_shaped
lengths {bytes} {registry} {slashings} p =
    let sizes = test _ p.shaped in
    record { header = p.header; file = (good-header bytes p.header).long; entries = eqb-true _ _ (sizes 5); sums = eqb-true _ _ (sizes 6) }

pub read-refused : (bytes registry slashings : List ℕ) {p : Refusal} {k : ℕ} → read_tests bytes registry slashings ≡ refused p → k ≡ number_of p → Gives bytes registry slashings k (nothing registry slashings)
unfolding read read_file bind
read-refused bytes registry slashings m n = record { number = rw (m, n); contents = rw m }

-- `x` is the number that is answered
module _ (bytes registry slashings : List ℕ) {x : ℕ} (e : x ≡ code_of (read_tests bytes registry slashings)) where
  module _ (z : x ≡ 0) where
    found : read_file bytes registry slashings ≡ value (contents_of bytes)
    unfolding read_file bind
    found = rw (code-value (read_tests bytes registry slashings) tt (sym e ∙ z))

    pub read-accepted : Gives bytes registry slashings 0 (contents_of bytes)
    unfolding read
    read-accepted = record { number = rw found; contents = rw found }

    pub read-lengths : Lengths bytes registry slashings
    read-lengths = lengths (read-passed bytes registry slashings found)

-- The file's parts by the buffers' lengths

module _ {bytes registry slashings : List ℕ} (l : Lengths bytes registry slashings) where
  pub registry-part : numbers_from_bytes (length registry) (drop (validators_at (version_of bytes)) bytes) ≡ (contents_of bytes).registry
  unfolding contents_of
  registry-part = rw l.entries

  pub slashings-part : numbers_from_bytes (length slashings) (drop (length bytes - 8 * length slashings) bytes) ≡ (contents_of bytes).slashings
  unfolding contents_of
  slashings-part =
      let from : length bytes - 8 * length slashings ≡ slashings_at (version_of bytes) (count_of bytes) (root_count_of bytes) = omega arith in
      rw (from, l.sums)

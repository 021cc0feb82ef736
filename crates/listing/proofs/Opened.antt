-- What reading gives; of the lent buffers it asks the lengths alone.
use mathlib.Core.Bool.{Bool, true, false}
use mathlib.Core.List.{List}
use mathlib.Core.Path.{◌≡◌, refl}
use Prim.Native.Nat.{ℕ, ◌*◌}
use lib.ListN.{length, length-replicate, replicate}
use Rattle.definitions_file.specs.File.{count_of, slashing_count_of, contents_of, good_header, file_shaped, read_tests, read_file, read, header_read}
use Rattle.definitions_file.specs.Listing.{opened}
use Rattle.laws_file.proofs.Codes.{code-value}
use Rattle.laws_file.proofs.Passed.{read-passed, Accepted, accepted}
use Rattle.record_file.proofs.Reading as reading

module _ (bytes registry slashings : List ℕ) (z : (read bytes registry slashings).refusal ≡ 0) where
  pub read-accepted : (read bytes registry slashings).contents ≡ contents_of bytes
  read-accepted = (reading.read-accepted bytes registry slashings (reading.read-code bytes registry slashings) z).contents

  pub read-lengths : reading.Lengths bytes registry slashings
  read-lengths = reading.read-lengths bytes registry slashings (reading.read-code bytes registry slashings) z

  pub read_record : Accepted bytes
  unfolding read
  read_record =
      accepted bytes registry slashings (read-passed bytes registry slashings (code-value (read_file bytes registry slashings) (contents_of bytes) z))

pub opened-contents : (bytes : List ℕ) → (opened bytes).refusal ≡ 0 → (opened bytes).contents ≡ contents_of bytes
opened-contents bytes z = read-accepted bytes (replicate (10 * count_of bytes) 0) (replicate (slashing_count_of bytes) 0) z

-- Buffers as long as those into which `opened` reads

pub opened-same : (bytes registry slashings : List ℕ) → length registry ≡ 10 * count_of bytes → length slashings ≡ slashing_count_of bytes → (read bytes registry slashings).refusal ≡ (opened bytes).refusal
unfolding read read_file read_tests file_shaped
opened-same bytes registry slashings l m =
    rw (l, m, length-replicate {A = ℕ} (10 * count_of bytes) 0, length-replicate {A = ℕ} (slashing_count_of bytes) 0)

by-header : (bytes registry slashings : List ℕ) (g : Bool) → good_header bytes ≡ g → length registry ≡ 10 * (header_read bytes).validators → length slashings ≡ (header_read bytes).slashings → (read bytes registry slashings).refusal ≡ (opened bytes).refusal
unfolding header_read read read_file read_tests
by-header bytes registry slashings true q l m = opened-same bytes registry slashings (rw q at l) (rw q at m)
by-header bytes registry slashings false q l m = rw q

-- without a header no buffer serves
pub header-same : (bytes registry slashings : List ℕ) → length registry ≡ 10 * (header_read bytes).validators → length slashings ≡ (header_read bytes).slashings → (read bytes registry slashings).refusal ≡ (opened bytes).refusal
header-same bytes registry slashings l m = by-header bytes registry slashings (good_header bytes) refl l m

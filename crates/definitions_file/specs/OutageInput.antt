-- What the program reads. Document 02, R-12: "a record file (ending at its header's length ..), then a number of epochs up to 4096, one 32-byte
-- root, and for each validator a first and last epoch away (..), numbers as in the file".
use Rattle.std.specs.Prelude.{Bool, ◌&&◌, List, ℕ, ◌+◌, ◌*◌, leb, take, drop}
use Rattle.definitions.specs.Refusals.{length_is}
use Rattle.definitions_file.specs.File.{number_at, numbers_from_bytes}

-- the header's second number
abbrev pub length_in_header : List ℕ → ℕ
length_in_header input = number_at 8 input

abbrev pub file_in : List ℕ → List ℕ
file_in input = take (length_in_header input) input

abbrev pub tail_in : List ℕ → List ℕ
tail_in input = drop (length_in_header input) input

-- What stands behind the file

abbrev pub epochs_in : List ℕ → ℕ
epochs_in tail = number_at 0 tail

-- what is put into each epoch: one root, and two numbers a validator, the first and the last epoch away
pub record Plan : Type 0 where
  pub root : List ℕ
  pub absences : List ℕ

abbrev pub plan_of : List ℕ → List ℕ → Plan
plan_of root absences = record { root = root; absences = absences }

abbrev pub plan_from : ℕ → List ℕ → Plan
plan_from validators tail = plan_of (take 32 (drop 8 tail)) (numbers_from_bytes (2 * validators) (drop 40 tail))

-- 1 is given for "a higher number of epochs, or a tail of the wrong length"
unfoldable pub good_tail : ℕ → List ℕ → Bool
good_tail validators tail = length_is (40 + 16 * validators) tail && leb (epochs_in tail) 4096

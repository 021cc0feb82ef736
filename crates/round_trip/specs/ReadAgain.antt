-- A part that was closed holds what is written of a record that passes the tests, and so it is read again as that record. Document 02, R-5:
-- the closing buffer "takes the closed records as files", and R-8: "of records that pass 8 too".
use Rattle.std.specs.Prelude.{◌≡◌, List, ℕ, ◌*◌, length}
use Rattle.definitions.specs.declared.Bellatrix.{Bellatrix}
use Rattle.definitions.specs.Record.{BeaconState}
use Rattle.definitions.specs.Checked.{value}
use Rattle.definitions.specs.ExitQueue.{queue_of}
use Rattle.definitions_file.specs.File.{count_of, slashing_count_of, write_tests, written, read}
use Rattle.definitions_file.specs.ClosedFile.{file_tests, work, closed_contents, part_for}
use Rattle.round_trip.specs.RoundTrip.{Typed, TypedQueue}

pub record Written (fork : ℕ) (pair : Bellatrix) (file part : List ℕ) (after : BeaconState) : Type 0 where
  pub passes : write_tests (closed_contents file after) (queue_of after.validators) file ≡ value tt
  pub is : part_for fork pair file part ≡ written (closed_contents file after) (queue_of after.validators) file

abbrev pub ClosedWritten : Type 0
ClosedWritten =
    (fork : ℕ) (pair : Bellatrix) (file part : List ℕ) (after : BeaconState) →
    file_tests fork pair file ≡ value tt →
    work fork pair file ≡ value after →
    Written fork pair file part after

-- with lent buffers as long as the file calls for; the closed record's numbers are of 64 bits and its roots bytes, as the call's lists hold them
abbrev pub ClosedRead : Type 0
ClosedRead =
    (fork : ℕ) (pair : Bellatrix) (file part registry slashings : List ℕ) (after : BeaconState) →
    file_tests fork pair file ≡ value tt →
    work fork pair file ≡ value after →
    Typed (closed_contents file after) →
    TypedQueue (queue_of after.validators) →
    length registry ≡ 10 * count_of file →
    length slashings ≡ slashing_count_of file →
    read (part_for fork pair file part) registry slashings ≡ record { refusal = 0; position = length file; contents = closed_contents file after; queue = queue_of after.validators }

-- Each premise of the round trips is needed: it follows from what they give. And so the claim without the length of the file is false.
use mathlib.Core.Path.{◌≡◌, refl, sym}
use mathlib.Core.List.{List, []}
use Prim.Native.Nat.{ℕ}
use native.Mathlib.Omega.{arith}
use lib.ListN.{length}
use Rattle.definitions.specs.declared.ExitQueue.{ExitQueue}
use Rattle.definitions.specs.Checked.{value}
use Rattle.definitions_file.specs.File.{Contents, version_of, queue_in, written, read_file}
use Rattle.round_trip.specs.RoundTrip.{Below, Typed, SameRecord, SameBytes}
use Rattle.round_trip.proofs.Written.{written_read}
use Rattle.round_trip.proofs.Accepted.{read-written}
use Rattle.round_trip.proofs.Sample.{sample-same}

-- written, then read: a record that comes back the same holds numbers of 64 bits, and roots of 32 bytes
pub types_needed : (c : Contents) (q : ExitQueue) (file registry slashings : List ℕ) → SameRecord c q file registry slashings → Typed c
types_needed c q file registry slashings h =
    (read-written (written c q file) registry slashings (written c q file) c h.bytes h.same h.second refl).typed

module _ (c : Contents) (q : ExitQueue) (bytes file : List ℕ) (h : SameBytes c q bytes file) where
  again : SameRecord c q file c.registry c.slashings
  again = written_read c q file c.registry c.slashings h.typed h.typed-pair refl refl h.passes

  -- read, then written: a file that comes back the same holds bytes, is of version 2, and is as long as the one written to
  pub bytes-needed : Below 256 bytes
  bytes-needed = rw h.same at again.bytes

  pub version-needed : version_of bytes ≡ 2
  version-needed = rw h.same at again.second

  pub length-needed : length file ≡ length bytes
  length-needed = sym (rw h.same at again.as_long)

pub not_of_any_length : ((bytes registry slashings file : List ℕ) (c : Contents) → Below 256 bytes → read_file bytes registry slashings ≡ value c → version_of bytes ≡ 2 → SameBytes c (queue_in bytes) bytes file) → ⊥
not_of_any_length wrong =
    let h = wrong _ _ _ [] _ sample-same.bytes sample-same.same sample-same.second in
    let e = length-needed _ _ _ [] h in
    let n = sample-same.as_long in
    omega arith

-- What a refused write leaves, and how long the part before the validators is.
use mathlib.Core.Path.{◌≡◌}
use mathlib.Core.List.{List, ◌++◌}
use Prim.Native.Nat.{ℕ}
use native.Mathlib.Omega.{arith}
use lib.ListN.{length, length-append}
use Rattle.definitions.specs.declared.Settings.{Settings}
use Rattle.definitions.specs.declared.Finality.{Finality}
use Rattle.definitions.specs.declared.ExitQueue.{ExitQueue}
use Rattle.definitions.specs.Checked.{refused, bind}
use Rattle.definitions.specs.declared.Refusal.{Refusal}
use Rattle.definitions.specs.Refusals.{settings_numbers}
use Rattle.definitions_file.specs.File.{Contents, header, numbers_to_bytes, finality_to_bytes, queue_to_bytes, write_tests, written}
use Rattle.laws_file.proofs.Numbers.{length_to_bytes}
use Rattle.fields.proofs.Bytes.{length-finality, length-queue}
use Rattle.record_file.specs.Sized.{head_of}

-- a refused write leaves the file
pub write_refused : (c : Contents) (q : ExitQueue) (file : List ℕ) {p : Refusal} → write_tests c q file ≡ refused p → file ≡ written c q file
unfolding written bind
write_refused c q file m = rw m

-- The part before the validators

-- the three roots are 32 bytes each
pub record Rooted (f : Finality) : Type 0 where
  pub previous : length f.previous_justified_checkpoint.root ≡ 32
  pub current : length f.current_justified_checkpoint.root ≡ 32
  pub finalized : length f.finalized_checkpoint.root ≡ 32

pub finality-long : {f : Finality} → Rooted f → length (finality_to_bytes f) ≡ 136
finality-long {f} r = length-finality f r.previous r.current r.finalized

pub head-long : (s : Settings) {f : Finality} (q : ExitQueue) (n : ℕ) → Rooted f → length (head_of s f q n) ≡ 384
unfolding head_of
head-long s {f} q n r =
    let h = header 2 n s.slots_per_historical_root s.epochs_per_slashings_vector in
    let numbers = numbers_to_bytes h ++ numbers_to_bytes (settings_numbers s) in
    omega (
      arith,
      length-append (numbers ++ finality_to_bytes f) (queue_to_bytes q),
      length-append numbers (finality_to_bytes f),
      length-append (numbers_to_bytes h) (numbers_to_bytes (settings_numbers s)),
      length_to_bytes h,
      length_to_bytes (settings_numbers s),
      finality-long r,
      length-queue q,
    )

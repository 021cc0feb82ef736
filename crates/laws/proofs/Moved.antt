-- How a close moves the three checkpoints.
use mathlib.Core.Path.{◌≡◌}
use Prim.Native.Nat.{ℕ, ◌+◌, ◌-◌, ◌≤◌}
use Rattle.definitions.specs.declared.Checkpoint.{Checkpoint}
use Rattle.definitions.specs.declared.Finality.{Finality}

-- the current justified checkpoint of a close of epoch e: kept, or of the previous or the present epoch
pub data CurrentMoved (e : ℕ) (was now : Checkpoint) : Type 0 where
  same : now ≡ was → CurrentMoved e was now
  previous_epoch : now.epoch ≡ e - 1 → CurrentMoved e was now
  present_epoch : now.epoch ≡ e → CurrentMoved e was now

-- the finalized checkpoint: kept, or one of the two justified ones that the close was handed, one to three epochs back
pub data FinalizedMoved (e : ℕ) (was : Finality) (now : Checkpoint) : Type 0 where
  same : now ≡ was.finalized_checkpoint → FinalizedMoved e was now
  from_previous : now ≡ was.previous_justified_checkpoint → was.previous_justified_checkpoint.epoch + 1 ≤ e → e ≤ was.previous_justified_checkpoint.epoch + 3 → FinalizedMoved e was now
  from_current : now ≡ was.current_justified_checkpoint → was.current_justified_checkpoint.epoch + 1 ≤ e → e ≤ was.current_justified_checkpoint.epoch + 3 → FinalizedMoved e was now

-- the three checkpoints: as they were, or else the previous justified one is the old current one
pub data Moved (e : ℕ) (was now : Finality) : Type 0 where
  kept : now.previous_justified_checkpoint ≡ was.previous_justified_checkpoint
      → now.current_justified_checkpoint ≡ was.current_justified_checkpoint
      → now.finalized_checkpoint ≡ was.finalized_checkpoint
      → Moved e was now
  weighed : now.previous_justified_checkpoint ≡ was.current_justified_checkpoint
      → CurrentMoved e was.current_justified_checkpoint now.current_justified_checkpoint
      → FinalizedMoved e was now.finalized_checkpoint
      → Moved e was now

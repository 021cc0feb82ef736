-- The test's number tells the checkpoint: what `finalized_by` gives is what that test sets.
use mathlib.Core.Path.{◌≡◌, refl}
use mathlib.Core.Bool.{Bool, true, false, cond, ◌&&◌}
use Prim.Native.Nat.{ℕ, ◌+◌}
use lib.Dec.{eqb}
use Rattle.definitions.specs.declared.Checkpoint.{Checkpoint}
use Rattle.definitions.specs.declared.Finality.{Finality}
use Rattle.definitions.specs.Document.Phase0.EpochProcessing.{bit, finalized_by}
use Rattle.definitions_close.specs.FinalizingTest.{last_test}
use Rattle.theorems.specs.Amounts.Laws.{set_by}

pub set_by-test : (epoch bits : ℕ) (old : Finality) → finalized_by epoch bits old ≡ set_by (last_test epoch bits old) old
unfolding finalized_by last_test set_by
set_by-test epoch bits old = go (bit 1 bits && bit 2 bits && bit 3 bits && eqb (previous.epoch + 3) epoch) (bit 1 bits && bit 2 bits && eqb (previous.epoch + 2) epoch) (bit 0 bits && bit 1 bits && bit 2 bits && eqb (current.epoch + 2) epoch) (bit 0 bits && bit 1 bits && eqb (current.epoch + 1) epoch)
  where
    previous : Checkpoint
    previous = old.previous_justified_checkpoint

    current : Checkpoint
    current = old.current_justified_checkpoint

    go : (a b c d : Bool) → cond d current (cond c current (cond b previous (cond a previous old.finalized_checkpoint))) ≡ set_by (cond d 4 (cond c 3 (cond b 2 (cond a 1 0)))) old
    go a b c true = refl
    go a b true false = refl
    go a true false false = refl
    go true false false false = refl
    go false false false false = refl

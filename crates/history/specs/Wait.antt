-- What altair_activation_wait answers is demand 3's own: whether the validator waits in the record, how many are ahead of it, and floor(k / m) + 1.
use Rattle.std.specs.Prelude.{◌≡◌, cond, ℕ, ◌<◌, length}
use Rattle.definitions.specs.declared.Settings.{Settings}
use Rattle.definitions.specs.Record.{BeaconState}
use Rattle.definitions_wait.specs.Wait.{waiting, no_wait, wait_of}
use Rattle.history.specs.Events.{waits, k}

abbrev pub WaitIsDemand3s : Type 0
WaitIsDemand3s =
    (s : Settings) (r : BeaconState) (i : ℕ) → i < length r.validators
    → wait_of s r.finality.finalized_checkpoint.epoch r.validators i ≡ cond (waits r i) (waiting s.min_per_epoch_churn_limit (k r i)) (no_wait 0)

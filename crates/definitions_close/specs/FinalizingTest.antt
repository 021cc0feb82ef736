-- Document 02, R-4: "which of the four tests, 1 to 4 in their order, last set the checkpoint, or 0, also on refusal".
use Rattle.std.specs.Prelude.{cond, ◌&&◌, ℕ, ◌+◌, leb, eqb}
use Rattle.definitions.specs.declared.Settings.{Settings}
use Rattle.definitions.specs.declared.Finality.{Finality}
use Rattle.definitions.specs.Record.{GENESIS_EPOCH}
use Rattle.definitions.specs.Checked.{Checked, value, refused}
use Rattle.definitions.specs.Document.Phase0.EpochProcessing.{bit}
use Rattle.definitions.specs.Rust.Phase0.Helpers.{get_current_epoch}

-- the tests of `finalized_by`, of definitions, Document/Phase0, where a later one overrides
unfoldable pub last_test : ℕ → ℕ → Finality → ℕ
last_test epoch bits old =
    let previous = old.previous_justified_checkpoint in
    let current = old.current_justified_checkpoint in
    let first : ℕ = cond (bit 1 bits && bit 2 bits && bit 3 bits && eqb (previous.epoch + 3) epoch) 1 0 in
    let second = cond (bit 1 bits && bit 2 bits && eqb (previous.epoch + 2) epoch) 2 first in
    let third = cond (bit 0 bits && bit 1 bits && bit 2 bits && eqb (current.epoch + 2) epoch) 3 second in
    cond (bit 0 bits && bit 1 bits && eqb (current.epoch + 1) epoch) 4 third

-- of justification, or of a close, that was handed `old` and gave the other: the tests read the old checkpoints and the new bits, from epoch 2 on
unfoldable pub finalizing_test : Settings → Finality → Checked Finality → ℕ
finalizing_test s old (value after) =
    let epoch = get_current_epoch s old.slot in
    cond (leb epoch (GENESIS_EPOCH + 1)) 0 (last_test epoch after.justification_bits old)
finalizing_test s old (refused r) = 0

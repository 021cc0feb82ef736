use Rattle.definitions.specs.Rust.Phase0.Helpers.{compute_start_slot_at_epoch, get_block_root}
use Rattle.arithmetic.proofs.Laws.{next, passes-on}
use Rattle.epochs.proofs.roots.epoch_root.Goals as goal

pub returns-in_err-slot : goal.returns-in_err-slot
unfolding get_block_root compute_start_slot_at_epoch
returns-in_err-slot c = passes-on _ c.mul64.ensures c.in_err-slot.was c.from_residual.ensures

pub returns : goal.returns
unfolding get_block_root compute_start_slot_at_epoch
returns c = next _ c.mul64.ensures c.in_ok-slot.was c.slot_root.ensures

use Rattle.definitions.specs.Document.Phase0.Helpers.{compute_start_slot_at_epoch, get_block_root}
use Rattle.root_parts.proofs.epoch_root.Goals as goal

pub returns : goal.returns
unfolding get_block_root compute_start_slot_at_epoch
returns c = c.slot_root.ensures

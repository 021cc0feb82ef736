use mathlib.Core.Path.{refl}
use Rattle.definitions.specs.Document.Phase0.Helpers.{get_current_epoch, compute_epoch_at_slot}
use Rattle.epochs.proofs.current_epoch.Goals as goal

pub returns : goal.returns
unfolding get_current_epoch compute_epoch_at_slot
returns c = refl

use Rattle.definitions.specs.Rust.Phase0.EpochProcessing.{get_finality_delay}
use Rattle.finality.proofs.finality_delay.Goals as goal

pub returns : goal.returns
unfolding get_finality_delay
returns c = rw (← c.previous_epoch.ensures) c.sub64.ensures

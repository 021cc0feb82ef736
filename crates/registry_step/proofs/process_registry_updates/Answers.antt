use Rattle.registry_step.proofs.Stops.{closes-whole}
use Rattle.registry_step.proofs.process_registry_updates.Goals as goal

pub returns : goal.returns
returns c = closes-whole _ _ _ _ _ _ c.process_registry_updates_to.ensures

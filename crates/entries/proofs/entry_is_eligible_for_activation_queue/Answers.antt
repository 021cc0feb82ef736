use Rattle.definitions.specs.Document.Phase0.Helpers.{is_eligible_for_activation_queue}
use Rattle.entries.proofs.entry_is_eligible_for_activation_queue.Goals as goal

pub returns : goal.returns
unfolding is_eligible_for_activation_queue
returns c = c.becomes_eligible.ensures

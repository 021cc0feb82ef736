use Rattle.definitions.specs.Document.Phase0.Helpers.{is_active_validator}
use Rattle.entries.proofs.entry_is_active.Goals as goal

pub returns : goal.returns
unfolding is_active_validator
returns c = c.is_active.ensures

use Rattle.definitions.specs.Document.Phase0.Helpers.{get_active_validator_indices}
use Rattle.totals.proofs.active_total.Goals as goal

pub returns : goal.returns
unfolding get_active_validator_indices
returns c = c.members_total.ensures

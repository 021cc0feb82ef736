use Rattle.definitions.specs.Document.Phase0.Helpers.{get_validator_churn_limit, get_active_validator_indices}
use Rattle.totals.proofs.churn_limit.Goals as goal

pub returns : goal.returns
unfolding get_validator_churn_limit get_active_validator_indices
returns c = rw (← c.current_epoch-epoch.ensures, ← c.members_count-active.ensures) c.churn_by.ensures

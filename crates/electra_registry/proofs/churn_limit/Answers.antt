use borrow.Author.Rules.{rules}
use Rattle.definitions_electra.specs.Document.Electra.Helpers.{activation_exit_churn_limit}
use Rattle.electra_registry.proofs.churn_limit.Goals as goal

pub returns : goal.returns
unfolding activation_exit_churn_limit
returns c = search rules

use mathlib.Core.Path.{sym, ◌∙◌}
use Rattle.electra_registry.proofs.limit_number.Goals as goal

pub returns-in_default : goal.returns-in_default
returns-in_default c = rw (sym c.activation_exit_churn.ensures ∙ c.in_default.is)

pub returns : goal.returns
returns c = rw (sym c.activation_exit_churn.ensures ∙ c.in-Ok.is)

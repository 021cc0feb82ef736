use native.Mathlib.Omega.{arith}
use native.Mathlib.Nat.{mod-le}
use Rattle.definitions_electra.specs.Document.Electra.Helpers.{balance_churn_limit}
use Rattle.electra_registry.proofs.balance_limit.Goals as goal

pub overflow_sub-result : goal.overflow_sub-result
overflow_sub-result c = omega (arith, mod-le c.max-churn.result c.args.r.settings.effective_balance_increment)

pub returns : goal.returns
unfolding balance_churn_limit
returns c = rw (← c.max-churn.ensures)

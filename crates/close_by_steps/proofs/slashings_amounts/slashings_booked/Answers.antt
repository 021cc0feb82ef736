use Rattle.arithmetic.proofs.Laws.{carried}
use Rattle.close_by_steps.proofs.slashings_amounts.Taken.{slashings-refused, slashings-taken}
use Rattle.close_by_steps.proofs.slashings_amounts.slashings_booked.Goals as goal

pub returns-in_err-slashings_core : goal.returns-in_err-slashings_core
returns-in_err-slashings_core c = rw (carried _ c.from_residual.ensures) (slashings-refused _ _ _ _ _ _ c.requires.registry_len.0 c.requires.registry_len.1 c.slashings_core.ensures c.in_err-slashings_core.was)

pub returns : goal.returns
returns c = slashings-taken _ _ _ _ _ _ c.requires.registry_len.0 c.requires.registry_len.1 (rw c.in_ok-slashings_core.was at c.slashings_core.ensures) c.keep_balances.ensures c.take_balances.ensures

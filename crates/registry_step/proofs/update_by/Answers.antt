use Rattle.arithmetic.proofs.Laws.{carried}
use Rattle.registry.proofs.Seen.{updates-stop, updates-end}
use Rattle.registry_step.proofs.update_by.Goals as goal

pub returns-in_err-update_all : goal.returns-in_err-update_all
returns-in_err-update_all c = record { under = λ most cut. rw (carried _ c.from_residual.ensures) (updates-stop _ _ _ _ most _ _ c.update_all.ensures c.in_err-update_all.was) }

pub returns : goal.returns
returns c = record { under = λ most cut. updates-end _ _ _ _ most _ _ c.update_all.ensures c.in_ok-update_all.was cut c.admit_below.ensures }

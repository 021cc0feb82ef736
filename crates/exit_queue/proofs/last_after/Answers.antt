use native.Mathlib.Omega.{arith}
use borrow.Author.Tests.{eq-eqb, ne_eqb}
use Rattle.exit_queue.specs.Queue.{last_after}
use Rattle.exit_queue.proofs.last_after.Goals as goal

pub returns-then-epoch-eq-FAR_FUTURE_EPOCH : goal.returns-then-epoch-eq-FAR_FUTURE_EPOCH
unfolding last_after
returns-then-epoch-eq-FAR_FUTURE_EPOCH c = rw (eq-eqb _ _ c.if-epoch-eq-FAR_FUTURE_EPOCH.true)

pub returns-then-last_epoch-epoch : goal.returns-then-last_epoch-epoch
unfolding last_after
returns-then-last_epoch-epoch c = rw (ne_eqb _ _ c.if-epoch-eq-FAR_FUTURE_EPOCH.false) (omega arith)

pub returns : goal.returns
unfolding last_after
returns c = rw (ne_eqb _ _ c.if-epoch-eq-FAR_FUTURE_EPOCH.false) (omega arith)

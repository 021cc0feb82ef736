use borrow.Author.Tests.{eq-eqb, ne_eqb, lt-ltb, le-ltb}
use Rattle.exit_queue.specs.Queue.{number_after}
use Rattle.exit_queue.proofs.number_after.Goals as goal

pub returns-then-epoch-eq-FAR_FUTURE_EPOCH : goal.returns-then-epoch-eq-FAR_FUTURE_EPOCH
unfolding number_after
returns-then-epoch-eq-FAR_FUTURE_EPOCH c = rw (eq-eqb _ _ c.if-epoch-eq-FAR_FUTURE_EPOCH.true)

pub returns-then-last_epoch-epoch : goal.returns-then-last_epoch-epoch
unfolding number_after
returns-then-last_epoch-epoch c = rw (ne_eqb _ _ c.if-epoch-eq-FAR_FUTURE_EPOCH.false, lt-ltb _ _ c.if-last_epoch-epoch.true)

pub returns-then-epoch-last_epoch : goal.returns-then-epoch-last_epoch
unfolding number_after
returns-then-epoch-last_epoch c = rw (ne_eqb _ _ c.if-epoch-eq-FAR_FUTURE_EPOCH.false, le-ltb _ _ c.if-last_epoch-epoch.false, eq-eqb _ _ c.if-epoch-last_epoch.true)

pub returns : goal.returns
unfolding number_after
returns c = rw (ne_eqb _ _ c.if-epoch-eq-FAR_FUTURE_EPOCH.false, le-ltb _ _ c.if-last_epoch-epoch.false, ne_eqb _ _ c.if-epoch-last_epoch.false)

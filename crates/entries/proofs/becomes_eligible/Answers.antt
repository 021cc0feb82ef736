use borrow.Author.Tests.{eq-eqb, ne_eqb}
use Rattle.entries.proofs.becomes_eligible.Goals as goal

pub returns-then-eligibility_epoch-ne-FAR_FUTURE_EPOCH : goal.returns-then-eligibility_epoch-ne-FAR_FUTURE_EPOCH
returns-then-eligibility_epoch-ne-FAR_FUTURE_EPOCH c = rw (ne_eqb _ _ c.if-eligibility_epoch-ne-FAR_FUTURE_EPOCH.true)

pub returns : goal.returns
returns c = rw (eq-eqb _ _ c.if-eligibility_epoch-ne-FAR_FUTURE_EPOCH.false)

use borrow.Author.Tests.{eq-eqb, ne_eqb}
use Rattle.entries.proofs.flags_at.Goals as goal

pub returns-then-epoch-current_epoch : goal.returns-then-epoch-current_epoch
returns-then-epoch-current_epoch c = rw (eq-eqb _ _ c.if-epoch-current_epoch.true)

pub returns : goal.returns
returns c = rw (ne_eqb _ _ c.if-epoch-current_epoch.false)

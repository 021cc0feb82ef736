use borrow.Author.Tests.{eq-eqb, ne_eqb}
use Rattle.leaf_refusals.proofs.is_participation_epoch.Goals as goal

pub returns-then-s-eq0 : goal.returns-then-s-eq0
returns-then-s-eq0 c = rw (eq-eqb _ _ c.if-s-eq0.true)

pub returns-then-epoch-previous_epoch : goal.returns-then-epoch-previous_epoch
returns-then-epoch-previous_epoch c = rw (ne_eqb _ _ c.if-s-eq0.false, ← c.previous_epoch.ensures, eq-eqb _ _ c.if-epoch-previous_epoch.true)

pub returns : goal.returns
returns c = rw (ne_eqb _ _ c.if-s-eq0.false, ← c.previous_epoch.ensures, ne_eqb _ _ c.if-epoch-previous_epoch.false, ← c.current_epoch.ensures)

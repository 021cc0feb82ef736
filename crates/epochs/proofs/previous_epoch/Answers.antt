use borrow.Author.Tests.{ne_eqb}
use Rattle.definitions.specs.Document.Phase0.Helpers.{get_previous_epoch}
use Rattle.epochs.proofs.previous_epoch.Goals as goal

pub returns-then-current-eq0 : goal.returns-then-current-eq0
unfolding get_previous_epoch
returns-then-current-eq0 c = rw (← c.current_epoch-current.ensures, c.if-current-eq0.true)

pub returns : goal.returns
unfolding get_previous_epoch
returns c = rw (← c.current_epoch-current.ensures, ne_eqb _ _ c.if-current-eq0.false)

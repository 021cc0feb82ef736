use borrow.Author.Tests.{le-leb, lt-leb}
use Rattle.definitions.specs.Document.Phase0.Helpers.{is_eligible_for_activation}
use Rattle.entries.proofs.entry_is_eligible_for_activation.Goals as goal

pub returns-then-finalized_epoch-entry : goal.returns-then-finalized_epoch-entry
unfolding is_eligible_for_activation
returns-then-finalized_epoch-entry c = rw (lt-leb _ _ c.if-finalized_epoch-entry.true)

pub returns : goal.returns
unfolding is_eligible_for_activation
returns c = rw (le-leb _ _ c.if-finalized_epoch-entry.false)

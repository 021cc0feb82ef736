use Rattle.definitions_close.specs.Store.{follows}
use Rattle.store.proofs.store_entries.follows.Goals as goal

pub returns : goal.returns
unfolding follows
returns c = rw (c.keeps.ensures, c.entry_rules-before.ensures, c.entry_rules-after.ensures)

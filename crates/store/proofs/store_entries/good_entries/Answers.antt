use borrow.Author.Rules.{rules}
use Rattle.definitions_close.specs.Store.{good_entries}
use Rattle.store.proofs.store_entries.good_entries.Goals as goal

pub returns : goal.returns
unfolding good_entries
returns c = search rules

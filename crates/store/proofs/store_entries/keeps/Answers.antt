use Rattle.definitions_close.specs.Store.{keeps}
use Rattle.store.proofs.store_entries.Entries.{three}
use Rattle.store.proofs.store_entries.keeps.Goals as goal

pub returns : goal.returns
unfolding keeps
returns c = three _ _ _

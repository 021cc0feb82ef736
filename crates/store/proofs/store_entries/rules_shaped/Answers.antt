use Rattle.definitions.specs.Rules.{rules_shaped}
use Rattle.store.proofs.store_entries.rules_shaped.Goals as goal

pub returns : goal.returns
unfolding rules_shaped
returns c = rw c.settings_shaped.ensures

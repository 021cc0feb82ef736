use Rattle.definitions.specs.Rules.{settings_under}
use Rattle.electra_front.proofs.under.Goals as goal

pub returns : goal.returns
unfolding settings_under
returns c = c.settings_under.ensures

use Rattle.electra_consolidations.proofs.Closing.{kept}
use Rattle.electra_consolidations.proofs.keep_rest.Goals as goal

pub returns : goal.returns
returns c = kept _ _ _ c.requires.1 c.copy.ensures

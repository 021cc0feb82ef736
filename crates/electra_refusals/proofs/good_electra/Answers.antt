use Rattle.definitions_electra.specs.Refusals.{good_electra}
use Rattle.electra_refusals.proofs.good_electra.Goals as goal

pub returns : goal.returns
unfolding good_electra
returns c = rw (c.good_settings.ensures, c.good_pair.ensures, c.all_below.ensures) at c.all_pass.ensures

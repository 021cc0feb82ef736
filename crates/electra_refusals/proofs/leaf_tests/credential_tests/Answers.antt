use Rattle.definitions_electra.specs.Refusals.{credential_tests}
use Rattle.electra_refusals.proofs.leaf_tests.credential_tests.Goals as goal

pub returns : goal.returns
unfolding credential_tests
returns c = rw (c.settings_shaped.ensures, c.good_electra.ensures) at c.in_order.ensures

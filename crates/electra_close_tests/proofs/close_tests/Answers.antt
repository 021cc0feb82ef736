use mathlib.Core.Path.{◌∙◌}
use Rattle.definitions_electra_close.specs.Close.{electra_tests}
use Rattle.electra_close_tests.proofs.Halves.{in_halves}
use Rattle.electra_close_tests.proofs.close_tests.Goals as goal

pub returns : goal.returns
unfolding electra_tests
returns c =
    let told = rw (c.closing_shaped-roomy.ensures, c.room_for-room.ensures, c.lent_shaped-shaped.ensures, c.good_electra.ensures, c.good_finality.ensures, c.good_registry.ensures, c.good_compounding.ensures, c.good_deposits.ensures) at c.in_order.ensures in
    told ∙ in_halves _ _ _ _

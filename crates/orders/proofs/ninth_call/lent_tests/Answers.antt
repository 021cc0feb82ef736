use Rattle.refusals.proofs.rules.Tests.{rules-tested}
use Rattle.orders.specs.Ninth.{lent_tests}
use Rattle.orders.proofs.ninth_call.lent_tests.Goals as goal

pub returns : goal.returns
unfolding lent_tests
returns c = rules-tested _ _ _ _ c.rules_refusal.ensures (rw (c.settings_shaped.ensures, c.registry_shaped.ensures, c.orders_shaped.ensures, c.good_settings.ensures, c.is_small.ensures, c.good_finality.ensures) at c.in_order-by_settings.ensures)

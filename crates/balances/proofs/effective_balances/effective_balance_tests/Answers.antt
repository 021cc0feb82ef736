use Rattle.definitions.specs.Refusals.{effective_balance_tests}
use Rattle.balances.proofs.effective_balances.effective_balance_tests.Goals as goal

pub returns : goal.returns
unfolding effective_balance_tests
returns c = rw (c.settings_shaped.ensures, c.registry_shaped.ensures, c.good_settings.ensures, c.good_registry.ensures) at c.in_order.ensures

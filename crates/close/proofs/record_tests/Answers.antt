use Rattle.refusals.proofs.rules.Tests.{rules-tested}
use Rattle.close.specs.Worked.{limited_record_tests}
use Rattle.close.proofs.record_tests.Goals as goal

pub returns : goal.returns
unfolding limited_record_tests
returns c =
    rules-tested _ _ _ _ c.rules_refusal.ensures
    (rw (← c.settings_shaped.ensures, ← c.registry_shaped.ensures, ← c.roots_shaped.ensures, ← c.good_settings.ensures, ← c.good_finality.ensures) c.in_order-by_settings.ensures)

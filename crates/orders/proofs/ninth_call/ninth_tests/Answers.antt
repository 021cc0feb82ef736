use mathlib.Core.Path.{sym, ◌∙◌}
use Rattle.definitions_close.specs.Calls.{ninth_called}
use Rattle.arithmetic.proofs.Laws.{carried}
use Rattle.orders.proofs.ninth_call.Tests.{lent-refuses, lent-long, pass-refuses, pair-tests}
use Rattle.orders.proofs.ninth_call.ninth_tests.Goals as goal

pub returns-in_err-lent_tests : goal.returns-in_err-lent_tests
returns-in_err-lent_tests c = carried _ c.from_residual.ensures ∙ sym (lent-refuses (ninth_called _ _ _ _ _ _) c.lent_tests.ensures c.in_err-lent_tests.was)

pub see_registry-requires : goal.see_registry-requires
see_registry-requires c =
    let a = c.args in
    lent-long (ninth_called a.rules a.period a.running a.registry.now a.orders.now a.answers.now) c.lent_tests.ensures c.in_ok-lent_tests.was

pub returns-in_err-seen : goal.returns-in_err-seen
returns-in_err-seen c = carried _ c.from_residual-in_err-seen.ensures ∙ sym (pass-refuses (ninth_called _ _ _ _ _ _) c.lent_tests.ensures c.in_ok-lent_tests.was _ c.see_registry.ensures c.in_err-seen.was)

pub returns : goal.returns
returns c = pair-tests (ninth_called _ _ _ _ _ _) c.lent_tests.ensures c.in_ok-lent_tests.was _ c.see_registry.ensures c.in_ok-seen.was c.queue_refusal.ensures

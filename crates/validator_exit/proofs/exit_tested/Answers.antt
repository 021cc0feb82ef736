use mathlib.Core.Path.{sym, ◌∙◌}
use native.Mathlib.Omega.{arith}
use Rattle.arithmetic.proofs.Laws.{carried}
use Rattle.validator_exit.proofs.Tests.{turned-away, shape-refused, pass-refused, pass-found, positive, long, seen-code, both-passed, all-passed, least-real, exit-done}
use Rattle.validator_exit.proofs.exit_tested.Goals as goal

pub returns-in_err-shape_tests : goal.returns-in_err-shape_tests
returns-in_err-shape_tests c = let a = c.args in shape-refused a.s a.state_slot a.index a.queue a.registry.now c.shape_tests.ensures c.in_err-shape_tests.was (carried _ c.from_residual.ensures)

pub current_epoch-epoch-requires : goal.current_epoch-epoch-requires
current_epoch-epoch-requires c = let a = c.args in (positive a.s a.state_slot a.index a.queue a.registry.now c.shape_tests.ensures c.in_ok-shape_tests.was).slots_per_epoch

pub see_registry-requires : goal.see_registry-requires
see_registry-requires c = let a = c.args in long a.s a.state_slot a.index a.queue a.registry.now c.shape_tests.ensures c.in_ok-shape_tests.was

pub returns-in_err-seen : goal.returns-in_err-seen
returns-in_err-seen c = let a = c.args in pass-refused a.s a.state_slot a.index a.queue a.registry.now c.shape_tests.ensures c.in_ok-shape_tests.was _ c.see_registry.ensures c.in_err-seen.was (carried _ c.from_residual-in_err-seen.ensures)

pub returns-in_err-queue_refusal : goal.returns-in_err-queue_refusal
returns-in_err-queue_refusal c =
    let a = c.args in
    let e = seen-code a.s a.state_slot a.index a.queue a.registry.now c.shape_tests.ensures c.in_ok-shape_tests.was _ c.see_registry.ensures c.in_ok-seen.was c.queue_refusal.ensures in
    turned-away a.s a.state_slot a.index a.queue a.registry.now (sym e ∙ c.in_err-queue_refusal.was) (carried _ c.from_residual-in_err-queue_refusal.ensures)

pub churn_by-limit-requires : goal.churn_by-limit-requires
churn_by-limit-requires c = let a = c.args in (positive a.s a.state_slot a.index a.queue a.registry.now c.shape_tests.ensures c.in_ok-shape_tests.was).churn_limit_quotient

pub overflow_add-least : goal.overflow_add-least
overflow_add-least c =
    let a = c.args in
    let e = seen-code a.s a.state_slot a.index a.queue a.registry.now c.shape_tests.ensures c.in_ok-shape_tests.was _ c.see_registry.ensures c.in_ok-seen.was c.queue_refusal.ensures in
    omega (arith, (all-passed a.s a.state_slot a.index a.queue a.registry.now e c.in_ok-queue_refusal.was).fits, c.current_epoch-epoch.ensures)

pub overflow_add-least-2 : goal.overflow_add-least-2
overflow_add-least-2 c =
    let a = c.args in
    let e = seen-code a.s a.state_slot a.index a.queue a.registry.now c.shape_tests.ensures c.in_ok-shape_tests.was _ c.see_registry.ensures c.in_ok-seen.was c.queue_refusal.ensures in
    omega (arith, (all-passed a.s a.state_slot a.index a.queue a.registry.now e c.in_ok-queue_refusal.was).fits, c.current_epoch-epoch.ensures)

pub exit_in_place-requires : goal.exit_in_place-requires
exit_in_place-requires c =
    let a = c.args in
    let e = seen-code a.s a.state_slot a.index a.queue a.registry.now c.shape_tests.ensures c.in_ok-shape_tests.was _ c.see_registry.ensures c.in_ok-seen.was c.queue_refusal.ensures in
    let p = all-passed a.s a.state_slot a.index a.queue a.registry.now e c.in_ok-queue_refusal.was in
    record { registry_len = (p.others.shape.long, p.known, omega (arith, least-real a.s a.state_slot a.index a.queue a.registry.now e c.in_ok-queue_refusal.was, c.current_epoch-epoch.ensures)); queue_value = (both-passed a.s a.state_slot a.index a.queue a.registry.now e c.in_ok-queue_refusal.was).queue }

pub returns : goal.returns
returns c =
    let a = c.args in
    let e = seen-code a.s a.state_slot a.index a.queue a.registry.now c.shape_tests.ensures c.in_ok-shape_tests.was _ c.see_registry.ensures c.in_ok-seen.was c.queue_refusal.ensures in
    exit-done a.s a.state_slot a.index a.queue a.registry.now e c.in_ok-queue_refusal.was c.current_epoch-epoch.ensures (pass-found _ _ c.see_registry.ensures c.in_ok-seen.was).0 c.churn_by-limit.ensures c.exit_in_place.ensures

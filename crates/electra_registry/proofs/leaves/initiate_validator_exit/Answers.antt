use Prim.Native.Nat.{◌^◌, ◌<◌}
use native.Mathlib.Omega.{arith}
use Rattle.refusals.proofs.Laws.{small}
use Rattle.registry.proofs.Epochs.{epochs}
use Rattle.electra_refusals.proofs.Passed.{ExitPassed, exit-passed}
use Rattle.electra_registry.specs.Turns.{exit_with}
use Rattle.electra_registry.proofs.Text.{exit-work}
use Rattle.electra_registry.proofs.Moves.{turn-moves, turn-left}
use Rattle.electra_registry.proofs.Closes.{churn-refused, churn-closes}
use Rattle.electra_registry.proofs.leaves.initiate_validator_exit.Goals.{In_default}
use Rattle.electra_registry.proofs.leaves.initiate_validator_exit.Goals as goal

passed : (c : In_default) → ExitPassed c.args.rules c.args.state_slot c.args.index c.args.registry.now
passed c = exit-passed _ _ _ _ c.exit_tests.ensures c.in_default.is

-- the ten numbers are inside
few : (c : In_default) → c.args.index < 2 ^ 24
few c = omega (arith, (passed c).inside, (passed c).shape.few)

pub returns-in-Err : goal.returns-in-Err
returns-in-Err c = churn-refused _ _ c.exit_tests.ensures c.in-Err.is c.exit_churn_answer.ensures

pub registry_numbers-n-requires : goal.registry_numbers-n-requires
registry_numbers-n-requires c =
    let p = passed (goal.at.registry_numbers-n-requires c).In_default in
    (p.shape.long, p.good, small _ p.settings.small)

pub slice_bounds-exit_by_balance-end : goal.slice_bounds-exit_by_balance-end
slice_bounds-exit_by_balance-end c =
    let p = passed (goal.at.slice_bounds-exit_by_balance-end c).In_default in
    omega (arith, p.inside, p.shape.long)

pub returns : goal.returns
returns c =
    let a = c.args in
    let p = passed (goal.at.returns c).In_default in
    let text = exit-work a.rules a.state_slot p.good (epochs _ _ p.settings.good (small _ p.settings.small)) a.registry.now a.churn a.index in
    let h = rw c.registry_numbers-n.ensures at c.exit_by_balance-after.ensures in
    churn-closes _ _ c.exit_tests.ensures c.in_default.is (rw text (turn-moves (exit_with _ _ _) _ _ _ p.shape.long p.inside h)) (turn-left (exit_with _ _ _) _ _ _ p.shape.long p.inside h) c.exit_churn_answer-2.ensures

pub overflow_mul-a : goal.overflow_mul-a
overflow_mul-a c = (omega (arith, few (goal.at.overflow_mul-a c).In_default))

pub overflow_add-b : goal.overflow_add-b
overflow_add-b c = (omega (arith, few (goal.at.overflow_add-b c).In_default))

pub offset_bounds-registry-a : goal.offset_bounds-registry-a
offset_bounds-registry-a c = (omega (arith, few (goal.at.offset_bounds-registry-a c).In_default))

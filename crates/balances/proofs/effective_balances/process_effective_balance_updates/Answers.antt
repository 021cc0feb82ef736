use native.Mathlib.Omega.{arith}
use Rattle.definitions.specs.Record.{encode}
use Rattle.definitions.specs.Rust.Phase0.EpochProcessing.{process_effective_balance_updates}
use Rattle.arithmetic.proofs.Laws.{carried}
use Rattle.refusals.proofs.buffers.Closes.{closes-refused, step-put_back}
use Rattle.balances.proofs.effective_balances.Passed.{effective_balance-passed}
use Rattle.balances.proofs.effective_balances.process_effective_balance_updates.Goals as goal

pub returns-in_err-effective_balance_tests : goal.returns-in_err-effective_balance_tests
returns-in_err-effective_balance_tests c = rw (carried _ c.from_residual.ensures) (closes-refused encode _ c.effective_balance_tests.ensures _ c.in_err-effective_balance_tests.was)

pub copy-requires : goal.copy-requires
copy-requires c = (effective_balance-passed _ _ _ c.effective_balance_tests.ensures c.in_ok-effective_balance_tests.was).same

pub effective_balances_core-done-requires : goal.effective_balances_core-done-requires
effective_balances_core-done-requires c =
    let p = effective_balance-passed _ _ _ c.effective_balance_tests.ensures c.in_ok-effective_balance_tests.was in
    (rw c.copy.ensures p.shape.long, p.good)

pub put_back-requires : goal.put_back-requires
put_back-requires c = omega (arith, (effective_balance-passed _ _ _ c.effective_balance_tests.ensures c.in_ok-effective_balance_tests.was).same)

pub returns : goal.returns
returns c =
    let a = c.args in
    step-put_back (process_effective_balance_updates a.s) _ c.effective_balance_tests.ensures c.in_ok-effective_balance_tests.was c.copy.ensures c.effective_balances_core-done.ensures c.put_back.ensures

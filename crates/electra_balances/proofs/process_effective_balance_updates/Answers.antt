use Rattle.arithmetic.proofs.Laws.{carried}
use native.Mathlib.Omega.{arith}
use Rattle.refusals.proofs.buffers.Closes.{closes-refused, step-put_back}
use Rattle.definitions_electra.specs.Calls.{registry_in, effective_balances_work}
use Rattle.definitions_electra.specs.Evaluated.Electra.EpochProcessing.{update_effective_balances, process_effective_balance_updates}
use Rattle.laws_electra.proofs.Registry.{closes_in}
use Rattle.electra_refusals.proofs.Passed.{good-electra, balances-passed}
use Rattle.electra_balances.proofs.Turns.{lent}
use Rattle.electra_balances.proofs.process_effective_balance_updates.Goals as goal

pub returns-in_err-effective_balance_tests : goal.returns-in_err-effective_balance_tests
returns-in_err-effective_balance_tests c = rw (carried _ c.from_residual.ensures) (closes-refused registry_in _ c.effective_balance_tests.ensures _ c.in_err-effective_balance_tests.was)

pub copy-requires : goal.copy-requires
copy-requires c = (balances-passed _ _ _ _ c.effective_balance_tests.ensures c.in_ok-effective_balance_tests.was).same

pub effective_balances_core-done-requires : goal.effective_balances_core-done-requires
effective_balances_core-done-requires c =
    let p = balances-passed _ _ _ _ c.effective_balance_tests.ensures c.in_ok-effective_balance_tests.was in
    (rw (c.copy.ensures, p.credentials) p.shape.long, (good-electra _ p.good).settings)

pub put_back-requires : goal.put_back-requires
put_back-requires c = omega (arith, (balances-passed _ _ _ _ c.effective_balance_tests.ensures c.in_ok-effective_balance_tests.was).same)

pub returns : goal.returns
unfolding effective_balances_work process_effective_balance_updates
returns c =
    let a = c.args in
    closes_in (lent a.compounding.now a.opening.now) _ _
    (step-put_back (update_effective_balances a.rules a.compounding.now) _ c.effective_balance_tests.ensures c.in_ok-effective_balance_tests.was c.copy.ensures c.effective_balances_core-done.ensures c.put_back.ensures)

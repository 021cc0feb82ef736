use native.Mathlib.Omega.{arith}
use Rattle.electra_deposits.proofs.step.Close.{close-done, close-back}
use Rattle.electra_deposits.proofs.step.deposits_core.Goals as goal

pub returns-in-Ok : goal.returns-in-Ok
returns-in-Ok c =
    let a = c.args in
    close-done a.rules a.state_slot a.finalized_epoch a.numbers a.registry.now a.compounding.now a.deposits.now c.run_deposits.ensures c.in-Ok.is

pub copy_front-requires-3 : goal.copy_front-requires-3
copy_front-requires-3 c =
    let kept = c.run_deposits.auto in
    let same = c.requires.settings_value.1 in
    omega (arith, kept, same)

pub returns : goal.returns
returns c =
    let a = c.args in
    let same = c.requires.settings_value.1 in
    let kept = c.run_deposits.auto in
    rw c.opening_answer.ensures (close-back a.rules a.state_slot a.finalized_epoch a.numbers a.registry.now a.compounding.now a.deposits.now c.run_deposits.ensures c.in-Err.is c.copy_front.ensures c.copy_front-2.ensures c.copy_front-3.ensures (omega (arith, kept, same)) same)

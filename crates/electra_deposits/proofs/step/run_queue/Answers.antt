use Rattle.arithmetic.proofs.Laws.{carried}
use Rattle.electra_deposits.proofs.step.Front.{registry-fits, lent_again}
use Rattle.electra_deposits.proofs.step.Run.{run-refused, run-within, run-over, run-done}
use Rattle.electra_deposits.proofs.step.run_queue.Goals as goal

pub run_alone-requires : goal.run_alone-requires
run_alone-requires c =
    let h = c.requires.lent in
    (h.tens, registry-fits h)

pub returns-in_err-done : goal.returns-in_err-done
returns-in_err-done c =
    let a = c.args in
    let p = c.requires in
    run-refused a.k a.q p.lent p.increment_nonzero.2 c.run_alone.ensures c.in_err-done.was (carried _ c.from_residual.ensures)

pub returns-in_err-carried : goal.returns-in_err-carried
returns-in_err-carried c =
    let a = c.args in
    let p = c.requires in
    run-over a.k a.q p.lent p.increment_nonzero.2 c.run_alone.ensures c.in_ok-done.was c.left_to_consume.ensures c.in_err-carried.was (carried _ c.from_residual-in_err-carried.ensures)

pub finish-requires : goal.finish-requires
finish-requires c =
    let a = c.args in
    let p = c.requires in
    record { lent = lent_again p.lent c.run_alone.auto.closing_registry; increment_nonzero = (p.increment_nonzero.0, p.increment_nonzero.1, run-within a.k a.q p.lent p.increment_nonzero.2 c.run_alone.ensures c.in_ok-done.was) }

pub returns : goal.returns
returns c =
    let a = c.args in
    let p = c.requires in
    let f = c.finish in
    run-done a.k a.q p.lent p.increment_nonzero.2 c.run_alone.ensures c.in_ok-done.was c.left_to_consume.ensures c.in_ok-carried.was f.ensures f.auto.closing_compounding

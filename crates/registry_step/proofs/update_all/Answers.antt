use native.Mathlib.Omega.{arith}
use Rattle.arithmetic.proofs.Laws.{carried}
use Rattle.registry.proofs.Turns.{updating_none, updating_few, updating_ten, updating_more, updating_stop, updating_all}
use Rattle.registry_step.proofs.update_all.Goals as goal

pub loop-i-init : goal.loop-i-init
loop-i-init c = updating_none _ _ _ c.requires.0 c.requires.2

pub update_entry-requires : goal.update_entry-requires
update_entry-requires c =
    let g = c.loop-i.invariant in
    (updating_ten g c.loop-i-test.true, c.requires.1, omega (arith, updating_few g))

pub returns-in_err-queue : goal.returns-in_err-queue
returns-in_err-queue c = rw (carried _ c.from_residual.ensures) (updating_stop c.loop-i.invariant c.loop-i-test.true c.update_entry.ensures c.in_err-queue.was)

pub loop-i-preserved : goal.loop-i-preserved
loop-i-preserved c = updating_more c.loop-i.invariant c.loop-i-test.true c.update_entry.ensures c.in_ok-queue.was (omega arith)

pub returns : goal.returns
returns c = updating_all c.loop-i.invariant c.loop-i-test.false

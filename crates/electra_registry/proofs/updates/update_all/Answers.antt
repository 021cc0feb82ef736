use native.Mathlib.Omega.{arith}
use Rattle.arithmetic.proofs.Laws.{carried}
use Rattle.electra_registry.proofs.Moves.{updating_none, updating_ten, updating_more, updating_stop, updating_all}
use Rattle.electra_registry.proofs.updates.update_all.Goals as goal

pub loop-i-init : goal.loop-i-init
loop-i-init c = updating_none _ _ c.requires.0

pub update_entry-requires : goal.update_entry-requires
update_entry-requires c = (updating_ten c.loop-i.invariant c.loop-i-test.true, c.requires.1)

pub returns-in_err-churn : goal.returns-in_err-churn
returns-in_err-churn c = updating_stop c.loop-i.invariant c.loop-i-test.true c.update_entry.ensures c.in_err-churn.was (carried _ c.from_residual.ensures)

pub loop-i-preserved : goal.loop-i-preserved
loop-i-preserved c = updating_more c.loop-i.invariant c.loop-i-test.true c.update_entry.ensures c.in_ok-churn.was (omega arith)

pub returns : goal.returns
returns c = updating_all c.loop-i.invariant c.loop-i-test.false

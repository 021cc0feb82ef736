use mathlib.Core.Path.{refl, sym}
use native.Mathlib.Omega.{arith}
use Rattle.laws.proofs.Loops.Summed.{added_none, added_more, added-over, added-all}
use Rattle.slashings.proofs.slashed_balance.Goals as goal

pub loop-amount-init : goal.loop-amount-init
loop-amount-init c = added_none _

pub returns-then-sum-amount : goal.returns-then-sum-amount
returns-then-sum-amount c = sym (added-over c.loop-amount.invariant c.loop-amount-test.true 0 refl (omega arith))

pub loop-amount-preserved : goal.loop-amount-preserved
loop-amount-preserved c = added_more c.loop-amount.invariant c.loop-amount-test.true 0 refl refl (omega arith)

pub returns : goal.returns
returns c = sym (added-all c.loop-amount.invariant c.loop-amount-test.false)

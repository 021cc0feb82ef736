use native.Mathlib.Omega.{arith}
use Rattle.electra_deposits.proofs.TestSteps.{test-old, test_free, test-over, test-more, test-invalid, test_low, test-high, test-new, over-one, over-two, under}
use Rattle.electra_deposits.proofs.testing.test_deposit.Goals as goal

pub returns-then-d-n : goal.returns-then-d-n
returns-then-d-n c = test-old _ _ _ _ _ _ c.if-d-n.true

pub returns-then-downward-eq0 : goal.returns-then-downward-eq0
returns-then-downward-eq0 c = test_free _ _ _ _ _ _ c.if-d-n.false c.if-place-ne0.true c.if-downward-eq0.true

pub returns-then-most-d : goal.returns-then-most-d
returns-then-most-d c = test-over _ _ _ _ _ _ c.if-d-n.false c.if-place-ne0.true c.if-downward-eq0.false (over-one _ _ _ c.if-most-d.true)

pub returns-then-most-d-2 : goal.returns-then-most-d-2
returns-then-most-d-2 c = test-over _ _ _ _ _ _ c.if-d-n.false c.if-place-ne0.true c.if-downward-eq0.false (over-two _ _ _ c.if-most-d-2.true)

pub returns-then-place-ne0 : goal.returns-then-place-ne0
returns-then-place-ne0 c = test-more _ _ _ _ _ _ c.if-d-n.false c.if-place-ne0.true c.if-downward-eq0.false (under _ _ _ (omega arith) c.if-most-d.false c.if-most-d-2.false)

pub returns-then-d-ne1 : goal.returns-then-d-ne1
returns-then-d-ne1 c = test-invalid _ _ _ _ _ _ c.if-d-n.false c.if-place-ne0.false c.if-d-ne1.true

pub returns-then-most-d-3 : goal.returns-then-most-d-3
returns-then-most-d-3 c = test_low _ _ _ _ _ _ c.if-d-n.false c.if-place-ne0.false c.if-d-ne1.false (omega arith)

pub returns-then-upward-new_effective : goal.returns-then-upward-new_effective
returns-then-upward-new_effective c = test-high _ _ _ _ _ _ c.if-d-n.false c.if-place-ne0.false c.if-d-ne1.false c.new_effective.ensures (omega arith) (omega arith)

pub returns : goal.returns
returns c = test-new _ _ _ _ _ _ c.if-d-n.false c.if-place-ne0.false c.if-d-ne1.false c.new_effective.ensures (omega arith) (omega arith) c.mark.ensures

use Rattle.definitions.specs.Document.Phase0.EpochProcessing.{weighed}
use Rattle.finality.proofs.weighed.Goals as goal

pub returns-then-current_passed : goal.returns-then-current_passed
unfolding weighed
returns-then-current_passed c = rw (c.finalized_by-finalized.ensures, c.justified_bits-bits.ensures, c.if-current_passed.true)

pub returns-then-previous_passed : goal.returns-then-previous_passed
unfolding weighed
returns-then-previous_passed c = rw (c.finalized_by-finalized.ensures, c.justified_bits-bits.ensures, c.if-current_passed.false, c.if-previous_passed.true)

pub returns-else-previous_passed : goal.returns-else-previous_passed
unfolding weighed
returns-else-previous_passed c = rw (c.finalized_by-finalized.ensures, c.justified_bits-bits.ensures, c.if-current_passed.false, c.if-previous_passed.false)

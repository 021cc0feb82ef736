use mathlib.Core.Path.{◌∙◌}
use Rattle.definitions.specs.Document.Phase0.EpochProcessing.{justified_bits}
use Rattle.finality.proofs.justified_bits.Goals as goal

pub returns : goal.returns
unfolding justified_bits
returns c = c.with_bit-2.ensures.is ∙ rw c.with_bit.ensures.is

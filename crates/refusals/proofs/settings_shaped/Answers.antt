use Rattle.definitions.specs.Refusals.{settings_shaped}
use Rattle.refusals.proofs.All.{fails, passes}
use mathlib.Core.Path.{ap}
use mathlib.Core.Bool.{not}
use Rattle.refusals.proofs.settings_shaped.Goals as goal

pub returns-then-not-is_vector_length : goal.returns-then-not-is_vector_length
unfolding settings_shaped
returns-then-not-is_vector_length c = rw (fails c.is_vector_length.ensures (ap not c.if-not-is_vector_length.true))

pub returns : goal.returns
unfolding settings_shaped
returns c = rw (passes c.is_vector_length.ensures (ap not c.if-not-is_vector_length.false)) c.is_vector_length-2.ensures

use borrow.Author.Rules.{rules}
use Rattle.definitions.specs.Document.Phase0.EpochProcessing.{queue_eligible}
use Rattle.laws.proofs.Encode.{ten}
use Rattle.refusals.proofs.All.{fails, passes}
use mathlib.Core.Path.{ap}
use mathlib.Core.Bool.{not}
use Rattle.registry.proofs.entry_queue_eligible.Goals as goal

pub entry_is_eligible_for_activation_queue-requires : goal.entry_is_eligible_for_activation_queue-requires
entry_is_eligible_for_activation_queue-requires c = search rules

pub returns-then-not-entry_is_eligible_for_activation_queue : goal.returns-then-not-entry_is_eligible_for_activation_queue
unfolding queue_eligible
returns-then-not-entry_is_eligible_for_activation_queue c = rw (fails c.entry_is_eligible_for_activation_queue.ensures (ap not c.if-not-entry_is_eligible_for_activation_queue.true)) (ten c.args.entry.now c.requires.0)

pub returns : goal.returns
unfolding queue_eligible
returns c = rw (passes c.entry_is_eligible_for_activation_queue.ensures (ap not c.if-not-entry_is_eligible_for_activation_queue.false), ten c.args.entry.now c.requires.0)

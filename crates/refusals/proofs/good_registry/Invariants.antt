use Rattle.definitions.specs.Record.{decode}
use Rattle.definitions.specs.Refusals.{good_validator}
use Rattle.refusals.proofs.All.{Passed}
use Rattle.refusals.proofs.good_registry.Given as goal

abbrev pub invariant-loop-entry : goal.invariant-loop-entry
invariant-loop-entry l = Passed good_validator (decode l.registry) l.entry-index

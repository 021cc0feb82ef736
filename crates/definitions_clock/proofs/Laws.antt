-- All that is claimed of a clock.
use Rattle.definitions_clock.specs.declared.Clock.{Clock}
use Rattle.definitions_clock.specs.Laws.{Laws}
use Rattle.definitions_clock.proofs.Numbers.{slot_laws, epoch-laws, window-laws}
use Rattle.definitions_clock.proofs.Calls.{there_and_back}

pub laws : (c : Clock) → Laws c
laws c = record { slots = slot_laws c; epochs = epoch-laws c; window = window-laws c; calls = there_and_back c }

use native.Mathlib.Omega.{arith}
use Rattle.definitions_clock.specs.Clock.{last_slot_of}
use Rattle.clock.proofs.Steps.{goes_on, stops, times}
use Rattle.clock.proofs.epoch_end.Goals as goal

pub returns-in_err-slot : goal.returns-in_err-slot
returns-in_err-slot c = let a = c.args in stops _ _ c.epoch_last_slot.ensures c.in_err-slot.was (omega (arith, times (last_slot_of a.c a.epoch) a.c.seconds_per_slot c.requires.0)) c.from_residual.ensures

pub returns : goal.returns
returns c = goes_on _ c.epoch_last_slot.ensures c.in_ok-slot.was (λ e. rw e) c.slot_end.ensures

use native.Mathlib.Omega.{arith}
use Rattle.definitions_clock.specs.Clock.{first_slot_of}
use Rattle.clock.proofs.Steps.{mul_fits, goes_on, stops, times}
use Rattle.clock.proofs.epoch_start.Goals as goal

pub returns-in_err-slot : goal.returns-in_err-slot
returns-in_err-slot c = let a = c.args in stops _ _ (mul_fits _ _ c.mul64.ensures) c.in_err-slot.was (omega (arith, times (first_slot_of a.c a.epoch) a.c.seconds_per_slot c.requires)) c.from_residual.ensures

pub returns : goal.returns
returns c = goes_on _ (mul_fits _ _ c.mul64.ensures) c.in_ok-slot.was (λ e. rw e) c.slot_start.ensures

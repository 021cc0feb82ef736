use native.Mathlib.Omega.{arith}
use Rattle.clock.proofs.Steps.{mul_fits, add_fits, goes_on, stops}
use Rattle.clock.proofs.epoch_last_slot.Goals as goal

pub returns-in_err-first : goal.returns-in_err-first
returns-in_err-first c = stops _ _ (mul_fits _ _ c.mul64.ensures) c.in_err-first.was (omega arith) c.from_residual.ensures

pub returns : goal.returns
returns c = goes_on _ (mul_fits _ _ c.mul64.ensures) c.in_ok-first.was (λ e. rw e) (add_fits _ _ c.add64.ensures)

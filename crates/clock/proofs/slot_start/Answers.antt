use native.Mathlib.Omega.{arith}
use Rattle.clock.proofs.Steps.{mul_fits, add_fits, goes_on, stops}
use Rattle.clock.proofs.slot_start.Goals as goal

pub returns-in_err-seconds : goal.returns-in_err-seconds
returns-in_err-seconds c = stops _ _ (mul_fits _ _ c.mul64.ensures) c.in_err-seconds.was (omega arith) c.from_residual.ensures

pub returns : goal.returns
returns c = goes_on _ (mul_fits _ _ c.mul64.ensures) c.in_ok-seconds.was (λ e. rw e) (add_fits _ _ c.add64.ensures)

use native.Mathlib.Omega.{arith}
use Rattle.clock.proofs.Steps.{add_fits, goes_on, stops}
use Rattle.clock.proofs.slot_end.Goals as goal

pub returns-in_err-start : goal.returns-in_err-start
returns-in_err-start c = stops _ _ c.slot_start.ensures c.in_err-start.was (omega arith) c.from_residual.ensures

pub returns : goal.returns
returns c = goes_on _ c.slot_start.ensures c.in_ok-start.was (λ e. omega (arith, e)) (add_fits _ _ c.add64.ensures)

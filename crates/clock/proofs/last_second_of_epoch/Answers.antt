use Rattle.refusals.proofs.Answers.{then-answers, refused-answers}
use Rattle.definitions_clock.specs.Calls.{last_second_of_epoch}
use Rattle.clock.proofs.Passed.{clock-went}
use Rattle.clock.proofs.last_second_of_epoch.Goals as goal

pub returns-in_err-clock_refusal : goal.returns-in_err-clock_refusal
unfolding last_second_of_epoch
returns-in_err-clock_refusal c = refused-answers _ c.clock_refusal.ensures _ c.in_err-clock_refusal.was c.from_residual.ensures

pub epoch_end-requires : goal.epoch_end-requires
epoch_end-requires c = let p = clock-went _ c.clock_refusal.ensures c.in_ok-clock_refusal.was in (p.seconds, p.slots)

pub returns : goal.returns
unfolding last_second_of_epoch
returns c = then-answers _ c.clock_refusal.ensures c.in_ok-clock_refusal.was c.epoch_end.ensures

use Rattle.refusals.proofs.Answers.{then-answers, refused-answers}
use Rattle.definitions_clock.specs.Calls.{first_second_of_epoch}
use Rattle.clock.proofs.Passed.{clock-went}
use Rattle.clock.proofs.first_second_of_epoch.Goals as goal

pub returns-in_err-clock_refusal : goal.returns-in_err-clock_refusal
unfolding first_second_of_epoch
returns-in_err-clock_refusal c = refused-answers _ c.clock_refusal.ensures _ c.in_err-clock_refusal.was c.from_residual.ensures

pub epoch_start-requires : goal.epoch_start-requires
epoch_start-requires c = (clock-went _ c.clock_refusal.ensures c.in_ok-clock_refusal.was).seconds

pub returns : goal.returns
unfolding first_second_of_epoch
returns c = then-answers _ c.clock_refusal.ensures c.in_ok-clock_refusal.was c.epoch_start.ensures

use Rattle.refusals.proofs.Answers.{then-answers, refused-answers}
use Rattle.definitions_clock.specs.Calls.{last_second_of_slot}
use Rattle.clock.proofs.Passed.{clock-went}
use Rattle.clock.proofs.last_second_of_slot.Goals as goal

pub returns-in_err-clock_refusal : goal.returns-in_err-clock_refusal
unfolding last_second_of_slot
returns-in_err-clock_refusal c = refused-answers _ c.clock_refusal.ensures _ c.in_err-clock_refusal.was c.from_residual.ensures

pub slot_end-requires : goal.slot_end-requires
slot_end-requires c = (clock-went _ c.clock_refusal.ensures c.in_ok-clock_refusal.was).seconds

pub returns : goal.returns
unfolding last_second_of_slot
returns c = then-answers _ c.clock_refusal.ensures c.in_ok-clock_refusal.was c.slot_end.ensures

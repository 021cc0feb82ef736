use Rattle.refusals.proofs.Answers.{then-answers, refused-answers}
use Rattle.finality.proofs.Passed.{finalized-passed}
use Rattle.finality.proofs.get_finality_delay.Goals as goal

pub returns-in_err-finalized_refusal : goal.returns-in_err-finalized_refusal
returns-in_err-finalized_refusal c = refused-answers _ c.finalized_refusal.ensures _ c.in_err-finalized_refusal.was c.from_residual.ensures

pub finality_delay-requires : goal.finality_delay-requires
finality_delay-requires c = (finalized-passed _ _ _ c.finalized_refusal.ensures c.in_ok-finalized_refusal.was).slot.settings.good.positive.slots_per_epoch

pub returns : goal.returns
returns c = then-answers _ c.finalized_refusal.ensures c.in_ok-finalized_refusal.was c.finality_delay.ensures

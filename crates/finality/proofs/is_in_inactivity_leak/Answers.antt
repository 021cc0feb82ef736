use Rattle.refusals.proofs.Answers.{then-answers, refused-answers}
use Rattle.finality.proofs.Passed.{finalized-passed}
use Rattle.finality.proofs.is_in_inactivity_leak.Goals as goal

pub returns-in_err-finalized_refusal : goal.returns-in_err-finalized_refusal
returns-in_err-finalized_refusal c = refused-answers _ c.finalized_refusal.ensures _ c.in_err-finalized_refusal.was c.from_residual.ensures

pub inactivity_leak-requires : goal.inactivity_leak-requires
inactivity_leak-requires c = (finalized-passed _ _ _ c.finalized_refusal.ensures c.in_ok-finalized_refusal.was).slot.settings.good.positive.slots_per_epoch

pub returns : goal.returns
returns c = then-answers _ c.finalized_refusal.ensures c.in_ok-finalized_refusal.was c.inactivity_leak.ensures

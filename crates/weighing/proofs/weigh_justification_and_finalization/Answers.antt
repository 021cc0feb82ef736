use mathlib.Core.Path.{sym, ◌∙◌}
use Rattle.refusals.proofs.Answers.{then-answers, refused-answers}
use Rattle.weighing.proofs.weigh_justification_and_finalization.Goals as goal

pub returns-in_err-weigh_refusal : goal.returns-in_err-weigh_refusal
returns-in_err-weigh_refusal c = refused-answers _ c.weigh_refusal.ensures _ c.in_err-weigh_refusal.was c.from_residual.ensures

pub weigh-requires : goal.weigh-requires
weigh-requires c = sym c.weigh_refusal.ensures ∙ c.in_ok-weigh_refusal.was

pub returns : goal.returns
returns c = then-answers _ c.weigh_refusal.ensures c.in_ok-weigh_refusal.was c.weigh.ensures

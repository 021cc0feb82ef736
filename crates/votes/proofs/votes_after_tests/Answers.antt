use mathlib.Core.Path.{sym, ◌∙◌}
use Rattle.refusals.proofs.Answers.{then-answers, refused-answers}
use Rattle.votes.proofs.votes_after_tests.Goals as goal

pub returns-in_err-votes_refusal : goal.returns-in_err-votes_refusal
returns-in_err-votes_refusal c = refused-answers _ c.votes_refusal.ensures _ c.in_err-votes_refusal.was c.from_residual.ensures

pub votes_core-requires : goal.votes_core-requires
votes_core-requires c = sym c.votes_refusal.ensures ∙ c.in_ok-votes_refusal.was

pub returns : goal.returns
returns c = then-answers _ c.votes_refusal.ensures c.in_ok-votes_refusal.was c.votes_core.ensures

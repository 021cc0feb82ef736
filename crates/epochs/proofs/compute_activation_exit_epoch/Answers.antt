use Rattle.refusals.proofs.Answers.{then-answers, refused-answers}
use Rattle.epochs.proofs.compute_activation_exit_epoch.Goals as goal

pub returns-in_err-settings_refusal : goal.returns-in_err-settings_refusal
returns-in_err-settings_refusal c = refused-answers _ c.settings_refusal.ensures _ c.in_err-settings_refusal.was c.from_residual.ensures

pub returns : goal.returns
returns c = then-answers _ c.settings_refusal.ensures c.in_ok-settings_refusal.was c.activation_exit_epoch.ensures

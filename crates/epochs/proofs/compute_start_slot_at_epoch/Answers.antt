use Rattle.definitions.specs.Rust.Phase0.Helpers.{compute_start_slot_at_epoch}
use Rattle.refusals.proofs.Answers.{then-answers, refused-answers}
use Rattle.epochs.proofs.compute_start_slot_at_epoch.Goals as goal

pub returns-in_err-settings_refusal : goal.returns-in_err-settings_refusal
returns-in_err-settings_refusal c = refused-answers _ c.settings_refusal.ensures _ c.in_err-settings_refusal.was c.from_residual.ensures

pub returns : goal.returns
unfolding compute_start_slot_at_epoch
returns c = then-answers _ c.settings_refusal.ensures c.in_ok-settings_refusal.was c.mul64.ensures

use mathlib.Core.Path.{ap}
use Rattle.definitions.specs.Checked.{value}
use Rattle.definitions.specs.Rust.Phase0.Helpers.{get_current_epoch}
use Rattle.refusals.proofs.Answers.{then-answers, refused-answers}
use Rattle.epochs.proofs.Passed.{settings-passed}
use Rattle.epochs.proofs.compute_epoch_at_slot.Goals as goal

pub returns-in_err-settings_refusal : goal.returns-in_err-settings_refusal
returns-in_err-settings_refusal c = refused-answers _ c.settings_refusal.ensures _ c.in_err-settings_refusal.was c.from_residual.ensures

pub current_epoch-requires : goal.current_epoch-requires
current_epoch-requires c = (settings-passed _ c.settings_refusal.ensures c.in_ok-settings_refusal.was).good.positive.slots_per_epoch

pub returns : goal.returns
unfolding get_current_epoch
returns c = then-answers _ c.settings_refusal.ensures c.in_ok-settings_refusal.was (ap value c.current_epoch.ensures)

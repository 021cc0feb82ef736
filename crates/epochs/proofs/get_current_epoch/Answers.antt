use mathlib.Core.Path.{ap}
use Rattle.definitions.specs.Checked.{value}
use Rattle.refusals.proofs.Answers.{then-answers, refused-answers}
use Rattle.epochs.proofs.Passed.{slot-passed}
use Rattle.epochs.proofs.get_current_epoch.Goals as goal

pub returns-in_err-slot_refusal : goal.returns-in_err-slot_refusal
returns-in_err-slot_refusal c = refused-answers _ c.slot_refusal.ensures _ c.in_err-slot_refusal.was c.from_residual.ensures

pub current_epoch-requires : goal.current_epoch-requires
current_epoch-requires c = (slot-passed _ _ c.slot_refusal.ensures c.in_ok-slot_refusal.was).settings.good.positive.slots_per_epoch

pub returns : goal.returns
returns c = then-answers _ c.slot_refusal.ensures c.in_ok-slot_refusal.was (ap value c.current_epoch.ensures)

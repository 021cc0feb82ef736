use Rattle.refusals.proofs.Answers.{then-answers, refused-answers}
use Rattle.epochs.proofs.roots.Passed.{root-passed}
use Rattle.epochs.proofs.roots.get_block_root_at_slot.Goals as goal

pub returns-in_err-root_refusal : goal.returns-in_err-root_refusal
returns-in_err-root_refusal c = refused-answers _ c.root_refusal.ensures _ c.in_err-root_refusal.was c.from_residual.ensures

pub slot_root-requires : goal.slot_root-requires
slot_root-requires c =
    let p = root-passed _ _ _ c.root_refusal.ensures c.in_ok-root_refusal.was in
    record { roots_len = p.long; slots_per_historical_root_nonzero = p.slot.settings.shape.roots.least }

pub returns : goal.returns
returns c = then-answers _ c.root_refusal.ensures c.in_ok-root_refusal.was c.slot_root.ensures

use Rattle.arithmetic.proofs.Laws.{carried}
use Rattle.refusals.proofs.buffers.Closes.{closes-refused, closes-plain}
use Rattle.slashings.proofs.Passed.{reset-passed}
use Rattle.slashings.proofs.process_slashings_reset.Goals as goal

pub returns-in_err-slashings_reset_tests : goal.returns-in_err-slashings_reset_tests
returns-in_err-slashings_reset_tests c = rw (carried _ c.from_residual.ensures) (closes-refused _ _ c.slashings_reset_tests.ensures _ c.in_err-slashings_reset_tests.was)

pub copy-requires : goal.copy-requires
copy-requires c = (reset-passed _ _ _ _ c.slashings_reset_tests.ensures c.in_ok-slashings_reset_tests.was).same

pub slashings_reset_core-requires : goal.slashings_reset_core-requires
slashings_reset_core-requires c =
    let p = reset-passed _ _ _ _ c.slashings_reset_tests.ensures c.in_ok-slashings_reset_tests.was in
    (rw c.copy.ensures p.long, p.settings)

pub returns : goal.returns
returns c = closes-plain _ _ c.slashings_reset_tests.ensures _ c.in_ok-slashings_reset_tests.was (rw c.copy.ensures at c.slashings_reset_core.ensures)

use mathlib.Core.Path.{ap}
use lib.ListN.{length}
use Rattle.refusals.proofs.Laws.{good-finality}
use Rattle.close_by_steps.proofs.close_steps.Done.{later-refused, later-goes}
use native.Mathlib.Omega.{arith}
use Rattle.close_by_steps.proofs.close_steps.later_tested.Goals as goal

pub later_step-requires : goal.later_step-requires
later_step-requires c = let a = c.requires in let o = a.ready.opening in let g = good-finality _ o.finality in record { le_done = (a.le_done.0, a.le_done.1, o.settings.good); passed = (o.settings, g.slot, g.finalized); registry_len = (o.registry, a.ready.amounts, o.slashings) }

pub shape_of-closing_slashings-in-Err : goal.shape_of-closing_slashings-in-Err
shape_of-closing_slashings-in-Err c = let a = c.requires.ready in omega (arith, ap length c.copy-in-Err.ensures, a.slashings_same)

pub returns-in-Err : goal.returns-in-Err
returns-in-Err c = later-refused _ _ _ _ _ _ _ _ _ _ _ _ c.later_step.ensures c.in-Err.is c.copy.ensures c.copy-in-Err.ensures (c.fill.ensures.after (λ y e. e)) (omega arith) c.number.ensures c.ended_by.ensures

pub returns : goal.returns
returns c = later-goes _ _ _ _ _ _ _ _ _ _ _ _ c.later_step.ensures c.in_default.is c.queue_of-after.ensures

use mathlib.Core.Path.{sym}
use Rattle.store_steps.proofs.Steps.{late, timely}
use Rattle.store_steps.proofs.in_turn.Goals as goal

pub returns-then-done-gt7 : goal.returns-then-done-gt7
returns-then-done-gt7 c = sym (late _ _ c.if-done-gt7.true)

pub returns : goal.returns
returns c = timely _ _ c.if-done-gt7.false

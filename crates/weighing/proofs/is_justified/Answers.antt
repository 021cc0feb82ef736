use Rattle.arithmetic.proofs.Laws.{next, passes-on}
use mathlib.Core.Path.{refl}
use Rattle.definitions.specs.Rust.Phase0.EpochProcessing.{is_justified}
use Rattle.weighing.proofs.is_justified.Goals as goal

pub returns-in_err-left : goal.returns-in_err-left
unfolding is_justified
returns-in_err-left c = passes-on _ c.mul64.ensures c.in_err-left.was c.from_residual.ensures

pub returns-in_err-right : goal.returns-in_err-right
unfolding is_justified
returns-in_err-right c = next _ c.mul64.ensures c.in_ok-left.was (passes-on _ c.mul64-2.ensures c.in_err-right.was c.from_residual-in_err-right.ensures)

pub returns : goal.returns
unfolding is_justified
returns c = next _ c.mul64.ensures c.in_ok-left.was (next _ c.mul64-2.ensures c.in_ok-right.was refl)

use Rattle.definitions.specs.Rust.Altair.EpochProcessing.{slashing_penalty}
use Rattle.arithmetic.proofs.Laws.{next, passes-on}
use Rattle.slashings.proofs.slashing_penalty.Goals as goal

pub returns-in_err-numerator : goal.returns-in_err-numerator
unfolding slashing_penalty
returns-in_err-numerator c = passes-on _ c.mul64.ensures c.in_err-numerator.was c.from_residual.ensures

pub returns : goal.returns
unfolding slashing_penalty
returns c = next _ c.mul64.ensures c.in_ok-numerator.was c.mul64-2.ensures

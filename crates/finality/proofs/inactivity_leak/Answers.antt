use mathlib.Core.Path.{refl}
use Rattle.arithmetic.proofs.Laws.{next, passes-on}
use Rattle.definitions.specs.Rust.Phase0.EpochProcessing.{is_in_inactivity_leak}
use Rattle.finality.proofs.inactivity_leak.Goals as goal

pub returns-in_err-delay : goal.returns-in_err-delay
unfolding is_in_inactivity_leak
returns-in_err-delay c = passes-on _ c.finality_delay.ensures c.in_err-delay.was c.from_residual.ensures

pub returns : goal.returns
unfolding is_in_inactivity_leak
returns c = next _ c.finality_delay.ensures c.in_ok-delay.was refl

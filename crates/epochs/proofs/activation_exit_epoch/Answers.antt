use Rattle.definitions.specs.Rust.Phase0.Helpers.{compute_activation_exit_epoch}
use Rattle.arithmetic.proofs.Laws.{next, passes-on}
use Rattle.epochs.proofs.activation_exit_epoch.Goals as goal

pub returns-in_err-next : goal.returns-in_err-next
unfolding compute_activation_exit_epoch
returns-in_err-next c = passes-on _ c.add64.ensures c.in_err-next.was c.from_residual.ensures

pub returns : goal.returns
unfolding compute_activation_exit_epoch
returns c = next _ c.add64.ensures c.in_ok-next.was c.add64-2.ensures

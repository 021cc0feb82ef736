use mathlib.Core.Path.{◌∙◌}
use Rattle.activation_wait.proofs.Waits.{wait-refused, wait-lent, wait-passed}
use Rattle.activation_wait.proofs.activation_wait.Goals as goal

pub returns-in-Err : goal.returns-in-Err
returns-in-Err c = c.no_wait.ensures ∙ wait-refused _ _ _ _ c.wait_tests.ensures c.in-Err.is c.number.ensures

pub wait_core-requires : goal.wait_core-requires
wait_core-requires c = wait-lent _ _ _ _ c.wait_tests.ensures c.in_default.is

pub returns : goal.returns
returns c = c.wait_core.ensures ∙ wait-passed _ _ _ _ c.wait_tests.ensures c.in_default.is

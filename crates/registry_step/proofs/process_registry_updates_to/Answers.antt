use mathlib.Core.Path.{sym, ◌∙◌}
use native.Mathlib.Omega.{arith}
use Rattle.definitions.specs.declared.ActivationLimit.TheVariants.{Churn}
use Rattle.selection.proofs.Picking.{blank-length, blank_part}
use Rattle.registry_step.proofs.Tests.{step-refused}
use Rattle.registry_step.proofs.process_registry_updates_to.Goals as goal

pub returns-in-Err : goal.returns-in-Err
returns-in-Err c = let a = c.args in step-refused Churn a.stop a.s a.state_slot a.finalized_epoch a.queue a.opening.now a.closing.now c.step_tests.ensures c.in-Err.is c.number.ensures

pub step_surveyed-requires : goal.step_surveyed-requires
step_surveyed-requires c = record { closing_value = sym c.step_tests.ensures ∙ c.in_default.is; kept_len = (blank-length 64 64 (omega arith), blank_part 64 64 (omega arith) (omega arith)) }

use mathlib.Core.Path.{sym}
use Rattle.definitions.specs.Rust.Phase0.Helpers.{compute_start_slot_at_epoch}
use Rattle.refusals.proofs.Laws.{good-settings}
use Rattle.laws.proofs.Checked.{bind-bind}
use Rattle.arithmetic.proofs.Laws.{next, passes-on}
use Rattle.laws_electra.proofs.Cases.{bind-given}
use Rattle.definitions_electra.specs.Evaluated.Electra.EpochProcessing.{queueing}
use Rattle.electra_deposits.proofs.step.queue_numbers.Goals as goal

pub current_epoch-requires : goal.current_epoch-requires
current_epoch-requires c = (good-settings c.args.rules.settings c.requires.1).positive.slots_per_epoch

pub returns-in_err-next_epoch : goal.returns-in_err-next_epoch
unfolding queueing compute_start_slot_at_epoch
returns-in_err-next_epoch c = simp (bind-bind, ← c.current_epoch.ensures) (passes-on _ c.add64.ensures c.in_err-next_epoch.was c.from_residual.ensures)

pub returns-in_err-limit : goal.returns-in_err-limit
unfolding queueing compute_start_slot_at_epoch
returns-in_err-limit c = simp (bind-bind, ← c.current_epoch.ensures) (next _ c.add64.ensures c.in_ok-next_epoch.was (passes-on _ c.activation_exit_churn.ensures c.in_err-limit.was c.from_residual-in_err-limit.ensures))

pub returns-in_err-available : goal.returns-in_err-available
unfolding queueing compute_start_slot_at_epoch
returns-in_err-available c = simp (bind-bind, ← c.current_epoch.ensures) (next _ c.add64.ensures c.in_ok-next_epoch.was (next _ c.activation_exit_churn.ensures c.in_ok-limit.was (passes-on _ c.add64-2.ensures c.in_err-available.was c.from_residual-in_err-available.ensures)))

pub returns-in_err-finalized_slot : goal.returns-in_err-finalized_slot
unfolding queueing compute_start_slot_at_epoch
returns-in_err-finalized_slot c = simp (bind-bind, ← c.current_epoch.ensures) (next _ c.add64.ensures c.in_ok-next_epoch.was (next _ c.activation_exit_churn.ensures c.in_ok-limit.was (next _ c.add64-2.ensures c.in_ok-available.was (passes-on _ c.mul64.ensures c.in_err-finalized_slot.was c.from_residual-in_err-finalized_slot.ensures))))

pub returns : goal.returns
unfolding queueing compute_start_slot_at_epoch
returns c = simp (bind-bind, ← c.current_epoch.ensures) (next _ c.add64.ensures c.in_ok-next_epoch.was (next _ c.activation_exit_churn.ensures c.in_ok-limit.was (next _ c.add64-2.ensures c.in_ok-available.was (next _ c.mul64.ensures c.in_ok-finalized_slot.was (sym (bind-given _ _))))))

use Rattle.refusals.proofs.Laws.{good-settings}
use Rattle.arithmetic.proofs.Laws.{next, passes-on}
use Rattle.rewards_step.proofs.flag_rewards.Totals.{flag-index}
use Rattle.rewards_step.proofs.flag_rewards.tested_flag_deltas.Goals as goal

pub current_epoch-current-requires : goal.current_epoch-current-requires
current_epoch-current-requires c = (good-settings _ c.requires.s_value).positive.slots_per_epoch

pub previous_epoch-previous-requires : goal.previous_epoch-previous-requires
previous_epoch-previous-requires c = (good-settings _ c.requires.s_value).positive.slots_per_epoch

pub returns-in_err-participating : goal.returns-in_err-participating
returns-in_err-participating c = flag-index _ _ _ _ _ c.current_epoch-current.ensures c.previous_epoch-previous.ensures _ (passes-on _ c.total_participating.ensures c.in_err-participating.was c.from_residual.ensures)

pub returns : goal.returns
returns c = flag-index _ _ _ _ _ c.current_epoch-current.ensures c.previous_epoch-previous.ensures _ (next _ c.total_participating.ensures c.in_ok-participating.was c.flag_deltas_from.ensures)

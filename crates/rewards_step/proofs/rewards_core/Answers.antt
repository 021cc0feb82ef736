use mathlib.Core.Path.{sym, ◌∙◌}
use Rattle.laws.proofs.Encode.{encode-decode}
use Rattle.refusals.proofs.Laws.{good-settings}
use Rattle.arithmetic.proofs.Laws.{carried}
use Rattle.rewards_step.proofs.Step.{totals-least, rewards-genesis, rewards-refused, rewards-by}
use Rattle.rewards_step.proofs.rewards_core.Goals as goal

pub current_epoch-current-requires : goal.current_epoch-current-requires
current_epoch-current-requires c = (good-settings _ c.requires.s_value).positive.slots_per_epoch

pub returns-then-current-eq0 : goal.returns-then-current-eq0
returns-then-current-eq0 c = rewards-genesis _ _ _ _ _ c.current_epoch-current.ensures c.if-current-eq0.true (sym (encode-decode _ _ c.requires.registry_len))

pub previous_epoch-previous-requires : goal.previous_epoch-previous-requires
previous_epoch-previous-requires c = (good-settings _ c.requires.s_value).positive.slots_per_epoch

pub returns-in_err-totals : goal.returns-in_err-totals
returns-in_err-totals c = rw (carried _ c.from_residual.ensures) (rewards-refused _ _ _ _ c.current_epoch-current.ensures c.previous_epoch-previous.ensures _ c.if-current-eq0.false (sym c.step_totals.ensures ∙ c.in_err-totals.was))

pub reward_registry-requires : goal.reward_registry-requires
reward_registry-requires c =
    let p = (good-settings _ c.requires.s_value).positive in
    let least = totals-least _ _ _ _ _ _ (sym c.step_totals.ensures ∙ c.in_ok-totals.was) in
    record { effective_balance_increment_nonzero = (p.effective_balance_increment, least); inactivity_score_bias_nonzero = (p.inactivity_score_bias, c.requires.quotient_nonzero); registry_len = c.requires.registry_len }

pub returns : goal.returns
returns c = rewards-by _ _ _ _ c.current_epoch-current.ensures c.previous_epoch-previous.ensures _ c.if-current-eq0.false (sym c.step_totals.ensures ∙ c.in_ok-totals.was) c.reward_registry.ensures

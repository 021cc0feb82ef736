use mathlib.Core.Path.{sym, ◌∙◌}
use Rattle.definitions.specs.Record.{nobody}
use Rattle.refusals.proofs.Laws.{good-settings}
use Rattle.refusals.proofs.Part.{part_length, part-decoded}
use Rattle.arithmetic.proofs.Laws.{next, passes-on}
use Rattle.rewards_step.proofs.flag_rewards.Totals.{total-least}
use Rattle.rewards_step.proofs.flag_rewards.flag_deltas_from.Goals as goal

pub returns-in_err-total : goal.returns-in_err-total
returns-in_err-total c = passes-on _ c.total_active.ensures c.in_err-total.was c.from_residual.ensures

pub inactivity_leak-requires : goal.inactivity_leak-requires
inactivity_leak-requires c = (good-settings _ c.requires.s_value).positive.slots_per_epoch

pub returns-in_err-leaking : goal.returns-in_err-leaking
returns-in_err-leaking c = next _ c.total_active.ensures c.in_ok-total.was (passes-on _ c.inactivity_leak.ensures c.in_err-leaking.was c.from_residual-in_err-leaking.ensures)

pub entry_flag_deltas-requires : goal.entry_flag_deltas-requires
entry_flag_deltas-requires c =
    let a = c.requires in
    let least = total-least _ _ (sym c.total_active.ensures ∙ c.in_ok-total.was) in
    record { effective_balance_increment_nonzero = (good-settings _ a.s_value).positive.effective_balance_increment; effective_balance_increment_bound = least; flag_index_bound = a.flag_index_bound.0; len = part_length _ _ a.flag_index_bound.1 }

pub returns : goal.returns
returns c = rw (← part-decoded c.args.registry.now c.args.index nobody c.requires.flag_index_bound.1) (next _ c.total_active.ensures c.in_ok-total.was (next _ c.inactivity_leak.ensures c.in_ok-leaking.was c.entry_flag_deltas.ensures))

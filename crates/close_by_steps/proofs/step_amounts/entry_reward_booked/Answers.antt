use mathlib.Core.Path.{sym, ◌∙◌}
use Rattle.arithmetic.proofs.Laws.{carried}
use Rattle.close_by_steps.proofs.step_amounts.Rewards.{four-refused, balance-refused, entry-booked, fits-left}
use native.Mathlib.Omega.{arith}
use Rattle.close_by_steps.proofs.step_amounts.entry_reward_booked.Goals as goal

pub returns-in_err-pairs : goal.returns-in_err-pairs
returns-in_err-pairs c = rw (carried _ c.from_residual.ensures) (four-refused _ _ _ _ _ _ _ _ c.requires.len.0 (sym c.four_pairs.ensures ∙ c.in_err-pairs.was))

pub returns-in_err-balance : goal.returns-in_err-balance
returns-in_err-balance c = rw (carried _ c.from_residual-in_err-balance.ensures) (balance-refused _ _ _ _ _ _ _ _ c.requires.len.0 (sym c.four_pairs.ensures ∙ c.in_ok-pairs.was) (sym c.all_applied.ensures ∙ c.in_err-balance.was))

pub put_amounts-requires : goal.put_amounts-requires
put_amounts-requires c =
    let k = fits-left _ c.in_ok-pairs.pairs (sym c.all_applied.ensures ∙ c.in_ok-balance.was) in
    record { nine_len = c.requires.len.1; fits = (k.0, k.1) }

pub bounds-entry-6-2 : goal.bounds-entry-6-2
bounds-entry-6-2 c = omega (arith, c.requires.len.0)

pub returns : goal.returns
returns c = entry-booked _ _ _ _ _ _ _ _ c.requires.len.0 (sym c.four_pairs.ensures ∙ c.in_ok-pairs.was) (sym c.all_applied.ensures ∙ c.in_ok-balance.was) c.put_amounts.ensures

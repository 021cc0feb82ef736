use mathlib.Core.Path.{sym}
use Rattle.rates.proofs.reward_balances.entry_reward.Goals as goal

pub returns : goal.returns
returns c = c.pay.ensures.of _ _ _ _ _ _ _ (sym c.four_pairs-answer.ensures)

use mathlib.Core.Path.{sym, ◌∙◌}
use Rattle.arithmetic.proofs.Laws.{carried}
use Rattle.laws.proofs.Loops.Checking.{settles-value, settles-refused}
use Rattle.rates.proofs.reward_balances.Paired.{pairs-refused, not_paid, paid}
use Rattle.rates.proofs.reward_balances.Rewarded.{put-balance}
use Rattle.rates.proofs.reward_balances.pay.Goals as goal

pub returns-in_err-pairs : goal.returns-in_err-pairs
returns-in_err-pairs c = record { of = λ s q x y a b d h. rw (carried _ c.from_residual.ensures) (settles-refused _ c.requires (pairs-refused s q x y a b d _ (h ∙ c.in_err-pairs.was))) }

pub returns-in_err-balance : goal.returns-in_err-balance
returns-in_err-balance c =
    record { of = λ s q x y a b d h. rw (carried _ c.from_residual-in_err-balance.ensures) (settles-refused _ c.requires (not_paid s q x y a b d _ (h ∙ c.in_ok-pairs.was) (sym c.all_applied.ensures ∙ c.in_err-balance.was))) }

pub returns : goal.returns
returns c = record { of = λ s q x y a b d h. settles-value _ (paid s q x y a b d _ (h ∙ c.in_ok-pairs.was) (sym c.all_applied.ensures ∙ c.in_ok-balance.was)) (put-balance c.args.entry.now _ c.requires) }

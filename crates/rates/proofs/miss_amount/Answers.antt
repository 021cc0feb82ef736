use mathlib.Core.Path.{sym, ◌∙◌}
use Rattle.rates.proofs.reward_balances.Only.{only_miss}
use Rattle.rates.specs.Rated.{penalty_of}
use Rattle.rates.proofs.Rated.{told-past, told-fits, no-base, not_fits, miss_penalty}
use Rattle.rates.proofs.miss_amount.Goals as goal

pub returns-in_default : goal.returns-in_default
returns-in_default c = record { of = λ o. told-past _ _ _ (no-base _ _ penalty_of o c.in_default.is) }

pub returns-in_default-miss_deltas : goal.returns-in_default-miss_deltas
returns-in_default-miss_deltas c = record { of = λ o. told-past _ _ _ (not_fits _ _ penalty_of (only_miss _ _ _).why c.in-Ok.is (sym c.miss_deltas.ensures ∙ c.in_default-miss_deltas.is)) }

pub returns : goal.returns
returns c = record { of = λ o. told-fits _ _ penalty_of c.in-Ok.is (miss_penalty _ _ _ (sym c.miss_deltas.ensures ∙ c.in-Ok-miss_deltas.is)) }

use mathlib.Core.Path.{sym, ◌∙◌}
use Rattle.rates.proofs.reward_balances.Only.{only_hit}
use Rattle.rates.specs.Rated.{reward_of}
use Rattle.rates.proofs.Rated.{told-past, told-fits, no-base, not_fits, hit_reward}
use Rattle.rates.proofs.hit_amount.Goals as goal

pub returns-in_default : goal.returns-in_default
returns-in_default c = record { of = λ o. told-past _ _ _ (no-base _ _ reward_of o c.in_default.is) }

pub returns-in_default-hit_deltas : goal.returns-in_default-hit_deltas
returns-in_default-hit_deltas c = record { of = λ o. told-past _ _ _ (not_fits _ _ reward_of (only_hit _ _ _ _).why c.in-Ok.is (sym c.hit_deltas.ensures ∙ c.in_default-hit_deltas.is)) }

pub returns : goal.returns
returns c = record { of = λ o. told-fits _ _ reward_of c.in-Ok.is (hit_reward _ _ _ _ (sym c.hit_deltas.ensures ∙ c.in-Ok-hit_deltas.is)) }

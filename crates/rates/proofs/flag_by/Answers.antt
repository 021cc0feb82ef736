use Rattle.rates.proofs.Rated.{not_eligible, was_hit, was-missed}
use mathlib.Core.Path.{sym, ap}
use mathlib.Core.Bool.{not}
use Rattle.rates.proofs.flag_by.Goals as goal

pub returns-then-not-eligible : goal.returns-then-not-eligible
returns-then-not-eligible c = record { of = λ x y a b. not_eligible _ _ x y (ap not c.if-not-eligible.true) }

pub returns-then-reward-ne0 : goal.returns-then-reward-ne0
returns-then-reward-ne0 c = record { of = λ x y a b. was_hit _ _ x y (ap not c.if-not-eligible.false) c.if-hit.true (sym (a.past c.if-reward-ne0.true)) }

pub returns-then-hit : goal.returns-then-hit
returns-then-hit c = record { of = λ x y a b. was_hit _ _ x y (ap not c.if-not-eligible.false) c.if-hit.true (sym (a.fits c.if-reward-ne0.false)) }

pub returns-then-penalty-ne0 : goal.returns-then-penalty-ne0
returns-then-penalty-ne0 c = record { of = λ x y a b. was-missed _ _ x y (ap not c.if-not-eligible.false) c.if-hit.false (sym (b.past c.if-penalty-ne0.true)) }

pub returns : goal.returns
returns c = record { of = λ x y a b. was-missed _ _ x y (ap not c.if-not-eligible.false) c.if-hit.false (sym (b.fits c.if-penalty-ne0.false)) }

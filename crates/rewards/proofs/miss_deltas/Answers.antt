use mathlib.Core.Path.{refl}
use Rattle.arithmetic.proofs.Laws.{next, passes-on}
use Rattle.rewards.proofs.Flags.{miss_head, miss_other}
use Rattle.rewards.proofs.miss_deltas.Goals as goal

pub returns-then-flag_index-eq2 : goal.returns-then-flag_index-eq2
returns-then-flag_index-eq2 c = miss_head _ _ _ c.if-flag_index-eq2.true

pub returns-in_err-weighted : goal.returns-in_err-weighted
returns-in_err-weighted c = miss_other _ _ _ c.if-flag_index-eq2.false (passes-on _ c.mul64.ensures c.in_err-weighted.was c.from_residual.ensures)

pub returns : goal.returns
returns c = miss_other _ _ _ c.if-flag_index-eq2.false (next _ c.mul64.ensures c.in_ok-weighted.was refl)

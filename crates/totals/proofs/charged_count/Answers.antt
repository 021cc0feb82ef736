use native.Mathlib.Omega.{arith}
use Rattle.totals.proofs.Genesis.{charged-none, charged-some}
use Rattle.totals.proofs.charged_count.Goals as goal

pub returns-then-current-eq0 : goal.returns-then-current-eq0
returns-then-current-eq0 c = charged-none _ _ _ c.current_epoch-current.ensures (omega arith)

pub returns : goal.returns
returns c = charged-some _ _ _ c.current_epoch-current.ensures (λ e. omega arith) c.previous_epoch-previous.ensures c.members_count.ensures

use native.Mathlib.Nat.{mod-le}
use Rattle.balances.proofs.effective_balances.rounded.Goals as goal

pub overflow_sub-balance : goal.overflow_sub-balance
overflow_sub-balance c = mod-le _ _

use Prim.Native.Nat.{◌-◌}
use Rattle.close_by_steps.specs.Taken.{balance_in}
use Rattle.close_by_steps.proofs.slashings_amounts.Taken.{Putting}
use Rattle.close_by_steps.proofs.slashings_amounts.keep_balances.Given as goal

abbrev pub invariant-loop-i : goal.invariant-loop-i
invariant-loop-i l =
    Putting (balance_in l.registry) l.n l.initial.amounts l.i l.amounts

abbrev pub decreases-loop-i : goal.decreases-loop-i
decreases-loop-i l =
    l.n - l.i

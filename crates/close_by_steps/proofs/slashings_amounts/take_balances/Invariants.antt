use Prim.Native.Nat.{◌-◌}
use lib.ListN.{get_or}
use Rattle.write_pass.specs.Filled.{nine_at}
use Rattle.close_by_steps.specs.Taken.{balance_in}
use Rattle.close_by_steps.proofs.slashings_amounts.Taken.{Putting}
use Rattle.close_by_steps.proofs.slashings_amounts.take_balances.Given as goal

abbrev pub invariant-loop-i : goal.invariant-loop-i
invariant-loop-i l =
    Putting (λ j. get_or (nine_at l.initial.amounts j) 8 0 - balance_in l.registry j) l.n l.initial.amounts l.i l.amounts

abbrev pub decreases-loop-i : goal.decreases-loop-i
decreases-loop-i l =
    l.n - l.i

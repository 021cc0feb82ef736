use mathlib.Core.Path.{◌≡◌}
use Prim.Native.Nat.{◌-◌, ◌/◌, ◌≤◌}
use lib.ListN.{length}
use Rattle.electra_sixth.specs.Named.{Naming}
use Rattle.electra_sixth.proofs.book_named.Given as goal

abbrev pub invariant-loop-k : goal.invariant-loop-k
invariant-loop-k l =
    (l.total ≡ length l.deposits / 5) × (length l.amounts ≡ length l.initial.amounts) × (l.k ≤ l.total) × Naming l.op l.deposits l.registry l.initial.amounts l.k l.amounts

abbrev pub decreases-loop-k : goal.decreases-loop-k
decreases-loop-k l = l.total - l.k

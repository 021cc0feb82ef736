use mathlib.Core.Path.{◌≡◌}
use Prim.Native.Nat.{◌+◌, ◌≤◌}
use lib.ListN.{length, drop}
use Rattle.definitions.specs.Lists.{sum}
use Rattle.shelf.proofs.sums_to.Given as goal

abbrev pub invariant-loop-n : goal.invariant-loop-n
invariant-loop-n l = (l.n-index ≤ length l.lengths) × (sum l.lengths + l.left ≡ l.total + sum (drop l.n-index l.lengths))

use mathlib.Core.Path.{◌≡◌}
use Prim.Native.Nat.{◌+◌, ◌*◌, ◌-◌, ◌≤◌}
use Rattle.file_refusals.proofs.Registry.{Allowed, Passing}
use Rattle.file_refusals.proofs.first_bad.Given as goal

abbrev pub invariant-loop-k : goal.invariant-loop-k
invariant-loop-k l = (l.position ≡ l.from + 80 * l.i + 8 * l.k) × (l.k ≤ 10) × Allowed l.bytes (l.from + 80 * l.i) l.k

abbrev pub decreases-loop-k : goal.decreases-loop-k
decreases-loop-k l = 10 - l.k

abbrev pub invariant-validators : goal.invariant-validators
invariant-validators l = (l.position ≡ l.from + 80 * l.i) × Passing l.bytes l.from l.validators l.i

abbrev pub decreases-validators : goal.decreases-validators
decreases-validators l = l.validators - l.i

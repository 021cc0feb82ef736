use Prim.Native.Nat.{◌-◌}
use Rattle.write_pass.proofs.Loop.{Passing}
use Rattle.write_pass.proofs.write_by.Given as goal

abbrev pub invariant-loop-i : goal.invariant-loop-i
invariant-loop-i l = Passing l.later l.s l.p l.t l.e l.n l.opening l.initial.carry l.initial.amounts l.i l.closing l.amounts l.carry l.pair l.table

abbrev pub decreases-loop-i : goal.decreases-loop-i
decreases-loop-i l = l.n - l.i

use mathlib.Core.Bool.{Bool, not}
use Prim.Native.Nat.{ℕ}
use lib.Dec.{ltb, eqb}
use Rattle.refusals.proofs.All.{Passed}
use Rattle.refusals.proofs.all_pass.Given as goal

abbrev pub invariant-loop-test : goal.invariant-loop-test
invariant-loop-test l = Passed (λ (t : Bool). t) l.tests l.test-index

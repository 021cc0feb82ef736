use Prim.Native.Nat.{◌-◌}
use Rattle.definitions_electra.specs.Record.{decode_consolidations}
use Rattle.laws_electra.specs.Consolidations.{within}
use Rattle.refusals.proofs.All.{Passed}
use Rattle.electra_refusals.proofs.indices_shaped.Given as goal

abbrev pub invariant-loop-i : goal.invariant-loop-i
invariant-loop-i l = Passed (within l.n) (decode_consolidations l.consolidations) l.i

abbrev pub decreases-loop-i : goal.decreases-loop-i
decreases-loop-i l = l.m - l.i

use Prim.Native.Nat.{◌-◌}
use Rattle.definitions_electra.specs.Record.{decode_deposits}
use Rattle.definitions_electra.specs.Refusals.{good_deposit}
use Rattle.refusals.proofs.All.{Passed}
use Rattle.electra_refusals.proofs.good_deposits.Given as goal

abbrev pub invariant-loop-i : goal.invariant-loop-i
invariant-loop-i l = Passed good_deposit (decode_deposits l.deposits) l.i

abbrev pub decreases-loop-i : goal.decreases-loop-i
decreases-loop-i l = l.d - l.i

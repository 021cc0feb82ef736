use Prim.Native.Nat.{◌+◌, ◌-◌}
use lib.Dec.{ltb}
use Rattle.definitions_electra.specs.Record.{decode_deposits}
use Rattle.definitions_electra.specs.Refusals.{count_of, deposits_of}
use Rattle.refusals.proofs.All.{Passed}
use Rattle.electra_refusals.proofs.keys_shaped.Given as goal

abbrev pub invariant-loop-i : goal.invariant-loop-i
invariant-loop-i l = Passed (λ x. ltb x.pubkey (count_of l.registry + deposits_of l.deposits)) (decode_deposits l.deposits) l.i

abbrev pub decreases-loop-i : goal.decreases-loop-i
decreases-loop-i l = l.d - l.i

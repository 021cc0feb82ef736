use Prim.Native.Nat.{◌*◌, ◌-◌}
use lib.ListN.{drop}
use Rattle.definitions_file.specs.File.{numbers_from_bytes}
use Rattle.exit_queue.proofs.QueueOf.{Tracking}
use Rattle.file_refusals.proofs.queue_at.Given as goal

abbrev pub invariant-loop-i : goal.invariant-loop-i
invariant-loop-i l = Tracking l.validators (numbers_from_bytes (10 * l.validators) (drop l.from l.bytes)) l.i l.queue

abbrev pub decreases-loop-i : goal.decreases-loop-i
decreases-loop-i l = l.validators - l.i

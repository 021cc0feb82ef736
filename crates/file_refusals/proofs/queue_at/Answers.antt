use mathlib.Core.Path.{◌≡◌}
use Prim.Native.Nat.{◌+◌, ◌*◌}
use native.Mathlib.Omega.{arith}
use Rattle.exit_queue.proofs.QueueOf.{tracking_none, tracking_few, tracking_more, tracking_all}
use Rattle.file_refusals.proofs.Registry.{numbers-long, exit-number}
use Rattle.file_refusals.proofs.queue_at.Goals as goal

pub loop-i-init : goal.loop-i-init
loop-i-init c = let a = c.args in tracking_none (numbers-long a.bytes.now a.from a.validators)

pub loop-i-preserved : goal.loop-i-preserved
loop-i-preserved c =
    let a = c.args in
    let i = c.loop-i.i in
    let l = c.loop-i-test.true in
    let next = c.read_number-next in
    let behind : next.result.position ≡ a.from + 8 * (10 * i + 4) + 8 = omega arith in
    tracking_more c.loop-i.invariant l (rw (exit-number a.bytes.now a.from a.validators i l _ next.ensures behind) at c.exited-queue.ensures)

pub returns : goal.returns
returns c = tracking_all c.loop-i.invariant c.loop-i-test.false

pub exited-queue-requires : goal.exited-queue-requires
exited-queue-requires c = omega (arith, tracking_few c.loop-i.invariant)

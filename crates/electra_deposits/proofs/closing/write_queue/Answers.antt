use native.Mathlib.Omega.{arith}
use Rattle.electra_deposits.proofs.closing.Written.{postponing-few, written}
use Rattle.electra_deposits.proofs.closing.write_queue.Goals as goal

pub overflow_add-result : goal.overflow_add-result
overflow_add-result c = omega (arith, postponing-few c.write_postponed-postponed.ensures)

pub returns : goal.returns
returns c =
    let p = c.requires in
    written _ _ _ _ p.registry_len.1 p.index_in_bounds.0 c.copy_front.ensures c.write_postponed-postponed.ensures.queued

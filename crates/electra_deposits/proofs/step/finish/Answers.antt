use mathlib.Core.Path.{◌∙◌}
use native.Mathlib.Omega.{arith}
use Rattle.electra_deposits.proofs.step.Front.{compounding-fits, long-compounding, cleared, finished}
use Rattle.electra_deposits.proofs.step.finish.Goals as goal

pub copy_front-requires : goal.copy_front-requires
copy_front-requires c = compounding-fits c.requires.lent

pub add_deposits-count-requires : goal.add_deposits-count-requires
add_deposits-count-requires c =
    let h = c.requires.lent in
    let x = long-compounding h c.copy_front.ensures in
    record { registry_len = (omega (arith, x, h.room), x ∙ h.room_too, c.requires.increment_nonzero.0); places_value = (cleared h (c.fill.ensures.after (λ y e. e)), h.keys, c.requires.increment_nonzero.2) }

pub write_queue-left-requires : goal.write_queue-left-requires
write_queue-left-requires c =
    let p = c.requires in
    record { registry_len = (p.lent.tens, p.lent.fives); index_in_bounds = (p.increment_nonzero.2, p.increment_nonzero.1) }

pub returns : goal.returns
returns c =
    let a = c.args in
    rw c.answer_of.ensures (finished a.next_epoch a.k a.registry.now a.deposits.now a.index a.carried c.copy_front.ensures c.add_deposits-count.ensures.added c.write_queue-left.ensures)

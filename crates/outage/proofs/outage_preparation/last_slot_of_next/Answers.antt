use native.Mathlib.Nat.{div-le_self}
use native.Mathlib.Omega.{arith}
use Rattle.definitions.specs.Document.Phase0.Helpers.{compute_epoch_at_slot, compute_start_slot_at_epoch, get_current_epoch}
use Rattle.definitions_file.specs.OutagePreparation.{last_slot_of_next}
use Rattle.outage.proofs.outage_preparation.Slots.{next}
use Rattle.outage.proofs.outage_preparation.last_slot_of_next.Goals as goal

pub overflow_add-result : goal.overflow_add-result
unfolding get_current_epoch compute_epoch_at_slot
overflow_add-result c =
    let a = c.args in
    omega (arith, c.current_epoch-epoch.ensures, div-le_self a.slot a.s.slots_per_epoch)

pub overflow_mul-result : goal.overflow_mul-result
unfolding get_current_epoch compute_epoch_at_slot
overflow_mul-result c =
    let a = c.args in
    rw c.current_epoch-epoch.ensures (omega (arith, (next a.s.slots_per_epoch a.slot c.requires.0).below))

pub overflow_sub-result : goal.overflow_sub-result
unfolding get_current_epoch compute_epoch_at_slot
overflow_sub-result c =
    let a = c.args in
    rw c.current_epoch-epoch.ensures (omega (arith, (next a.s.slots_per_epoch a.slot c.requires.0).above))

pub returns : goal.returns
unfolding last_slot_of_next compute_start_slot_at_epoch get_current_epoch compute_epoch_at_slot
returns c =
    let a = c.args in
    let n = next a.s.slots_per_epoch a.slot c.requires.0 in
    rw c.current_epoch-epoch.ensures (omega arith, omega (arith, n.above), omega (arith, n.below))

use native.Mathlib.Omega.{arith}
use Rattle.definitions_file.specs.OutageInput.{plan_of}
use Rattle.outage.proofs.outage_preparation.Prepared.{prepares}
use Rattle.outage.proofs.outage_preparation.prepare.Goals as goal

pub last_slot_of_next-new-requires : goal.last_slot_of_next-new-requires
last_slot_of_next-new-requires c = let r = c.requires in (r.positive, r.short, r.small)

pub put_roots-requires : goal.put_roots-requires
put_roots-requires c = let r = c.requires in record { places_nonzero = (r.some-roots, r.few-roots, r.small); roots_len = (r.places, r.bytes) }

pub current_epoch-requires : goal.current_epoch-requires
current_epoch-requires c = c.requires.positive

pub set_flags-requires : goal.set_flags-requires
set_flags-requires c = let r = c.requires in record { registry_len = r.entries; absences_len = r.pairs }

pub returns : goal.returns
returns c =
    let a = c.args in
    prepares a.s (plan_of a.root.now a.absences.now) a.finality a.registry.now a.roots.now c.last_slot_of_next-new.ensures.0 c.with_slot.ensures c.current_epoch.ensures c.set_flags.ensures c.put_roots.ensures

pub overflow_sub-new : goal.overflow_sub-new
overflow_sub-new c = omega (arith, c.last_slot_of_next-new.ensures)

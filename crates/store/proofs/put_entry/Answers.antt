use native.Mathlib.Omega.{arith}
use lib.ListN.{length-append, length-take, length-drop, length-set}
use Rattle.store.proofs.Put.{entry-put}
use Rattle.store.proofs.put_entry.Goals as goal

pub shape_of-entry : goal.shape_of-entry
shape_of-entry c = simp (length-append, length-take, length-drop, length-set) (omega (arith, c.requires, c.copy_from_slice.auto.self))

pub returns : goal.returns
returns c =
    let a = c.args in
    let pair = a.rules.bellatrix in
    rw (c.copy_from_slice.ensures.after, c.settings_numbers-numbers.ensures)
    (entry-put a.entry.now a.rules.settings a.start a.rules.fork pair.inactivity_penalty_quotient_bellatrix pair.proportional_slashing_multiplier_bellatrix c.requires)

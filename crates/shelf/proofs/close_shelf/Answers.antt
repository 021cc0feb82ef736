use mathlib.Core.Path.{refl}
use Rattle.definitions_file.specs.Shelf.{shelf_refusal, answers_after, closing_after}
use Rattle.refusals.proofs.All.{fails, passes}
use mathlib.Core.Path.{ap}
use mathlib.Core.Bool.{not}
use Rattle.shelf.proofs.close_shelf.Goals as goal

pub returns-then-not-shelf_shaped : goal.returns-then-not-shelf_shaped
unfolding shelf_refusal answers_after closing_after
returns-then-not-shelf_shaped c = let f = fails c.shelf_shaped.ensures (ap not c.if-not-shelf_shaped.true) in record { value = rw f; answers_after = rw f; closing_after = rw f; working = record { long = refl; unwritten = λ _. refl }; working_2 = record { long = refl; unwritten = λ _. refl } }

pub close_files-requires : goal.close_files-requires
close_files-requires c = passes c.shelf_shaped.ensures (ap not c.if-not-shelf_shaped.false)

pub returns : goal.returns
unfolding shelf_refusal answers_after closing_after
returns c =
    let t = passes c.shelf_shaped.ensures (ap not c.if-not-shelf_shaped.false) in
    let f = c.close_files in
    let e = f.ensures in
    record { value = rw t; answers_after = rw t e.answers_after; closing_after = rw t e.closing_after; working = record { long = f.auto.opening_numbers; unwritten = λ n. absurd (n refl) }; working_2 = record { long = f.auto.closing_numbers; unwritten = λ n. absurd (n refl) } }

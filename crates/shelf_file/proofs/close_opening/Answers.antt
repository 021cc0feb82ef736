use native.Mathlib.Omega.{arith}
use lib.ListN.{length-take}
use Rattle.shelf_file.proofs.close_opening.Goals as goal

pub slice_bounds-close_registry-end : goal.slice_bounds-close_registry-end
slice_bounds-close_registry-end c = omega (arith, length-take c.args.a c.args.numbers.now)

pub close_registry-requires : goal.close_registry-requires
close_registry-requires c = record { tested = c.requires.tested; closing_registry_len = omega (arith, c.requires.a_le_b, length-take c.args.a c.args.numbers.now) }

pub returns : goal.returns
returns c = c.close_registry.ensures

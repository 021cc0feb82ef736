use native.Mathlib.Omega.{arith}
use lib.ListN.{length-take}
use Rattle.shelf_file.proofs.Parts.{counts-long, front_length, opened}
use Rattle.shelf_file.proofs.read_opening.Goals as goal

pub overflow_mul-slashings_at : goal.overflow_mul-slashings_at
overflow_mul-slashings_at c = omega (arith, c.requires.counts, counts-long c.requires.counts, c.well_formed)

pub overflow_sub-slashings_at-2 : goal.overflow_sub-slashings_at-2
overflow_sub-slashings_at-2 c = omega (arith, c.requires.counts, counts-long c.requires.counts)

pub slice_bounds-read_numbers-end-2 : goal.slice_bounds-read_numbers-end-2
slice_bounds-read_numbers-end-2 c = omega (arith, length-take c.args.a c.args.numbers.now)

pub read_numbers-requires : goal.read_numbers-requires
read_numbers-requires c = let p = c.requires in omega (arith, p.counts, counts-long p.counts, front_length p)

pub read_numbers-requires-2 : goal.read_numbers-requires-2
read_numbers-requires-2 c = let p = c.requires in simp length-take (omega (arith, p.counts, counts-long p.counts))

pub returns : goal.returns
returns c = opened c.requires c.read_numbers.new.numbers c.read_numbers-2.new.numbers c.read_numbers.ensures c.read_numbers-2.ensures

use lib.ListN.{length-set}
use native.Mathlib.Omega.{arith}
use Rattle.laws.proofs.Encode.{ten}
use Rattle.exit_queue.proofs.exits.write_exit.Goals as goal

pub bounds-entry-5 : goal.bounds-entry-5
bounds-entry-5 c = simp length-set (omega arith)

pub shape_of-entry : goal.shape_of-entry
shape_of-entry c = simp length-set

pub returns : goal.returns
returns c = rw (ten c.args.entry.now c.requires)

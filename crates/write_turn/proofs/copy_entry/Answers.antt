use lib.ListN.{length-set}
use Rattle.write_turn.proofs.Copied.{ten_copied}
use native.Mathlib.Omega.{arith}
use Rattle.write_turn.proofs.copy_entry.Goals as goal

pub bounds-to-4 : goal.bounds-to-4
bounds-to-4 c = simp length-set (omega arith)

pub bounds-to-5 : goal.bounds-to-5
bounds-to-5 c = simp length-set (omega arith)

pub bounds-to-6 : goal.bounds-to-6
bounds-to-6 c = simp length-set (omega arith)

pub bounds-to-7 : goal.bounds-to-7
bounds-to-7 c = simp length-set (omega arith)

pub bounds-to-8 : goal.bounds-to-8
bounds-to-8 c = simp length-set (omega arith)

pub bounds-to-9 : goal.bounds-to-9
bounds-to-9 c = simp length-set (omega arith)

pub shape_of-to : goal.shape_of-to
shape_of-to c = simp length-set (omega arith)

pub returns : goal.returns
returns c = ten_copied c.args.from.now c.args.to.now c.requires.0 c.requires.1

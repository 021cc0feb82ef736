use lib.ListN.{length-set}
use Rattle.write_pass.proofs.Nine.{nine-put}
use native.Mathlib.Omega.{arith}
use Rattle.write_pass.proofs.put_nine.Goals as goal

pub bounds-nine-4 : goal.bounds-nine-4
bounds-nine-4 c = simp length-set (omega arith)

pub bounds-nine-5 : goal.bounds-nine-5
bounds-nine-5 c = simp length-set (omega arith)

pub bounds-nine-6 : goal.bounds-nine-6
bounds-nine-6 c = simp length-set (omega arith)

pub bounds-nine-7 : goal.bounds-nine-7
bounds-nine-7 c = simp length-set (omega arith)

pub bounds-nine-8 : goal.bounds-nine-8
bounds-nine-8 c = simp length-set (omega arith)

pub shape_of-nine : goal.shape_of-nine
shape_of-nine c = simp length-set (omega arith)

pub returns : goal.returns
returns c = nine-put _ _ _ _ _ _ _ _ _ c.args.nine.now c.requires

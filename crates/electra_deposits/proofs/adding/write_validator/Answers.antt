use Rattle.electra_deposits.proofs.Steps.{written}
use lib.ListN.{length-set}
use native.Mathlib.Omega.{arith}
use Rattle.electra_deposits.proofs.adding.write_validator.Goals as goal

pub bounds-entry-4 : goal.bounds-entry-4
bounds-entry-4 c = simp length-set (omega arith)

pub bounds-entry-5 : goal.bounds-entry-5
bounds-entry-5 c = simp length-set (omega arith)

pub bounds-entry-6 : goal.bounds-entry-6
bounds-entry-6 c = simp length-set (omega arith)

pub bounds-entry-7 : goal.bounds-entry-7
bounds-entry-7 c = simp length-set (omega arith)

pub bounds-entry-8 : goal.bounds-entry-8
bounds-entry-8 c = simp length-set (omega arith)

pub bounds-entry-9 : goal.bounds-entry-9
bounds-entry-9 c = simp length-set (omega arith)

pub returns : goal.returns
returns c = written c.args.entry.now c.args.effective c.args.amount c.requires

use native.Mathlib.Omega.{arith}
use lib.ListN.{length-set}
use Rattle.electra_deposits.proofs.closing.Written.{five}
use Rattle.electra_deposits.proofs.closing.write_deposit.Goals as goal

pub returns : goal.returns
returns c = five c.args.part.now c.args.d c.requires

pub bounds-part-4 : goal.bounds-part-4
bounds-part-4 c = simp length-set (omega arith)

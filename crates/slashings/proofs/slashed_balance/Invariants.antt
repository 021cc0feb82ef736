use Rattle.laws.proofs.Loops.Summed.{Added}
use Rattle.slashings.proofs.slashed_balance.Given as goal

abbrev pub invariant-loop-amount : goal.invariant-loop-amount
invariant-loop-amount l = Added l.slashings l.amount-index l.sum

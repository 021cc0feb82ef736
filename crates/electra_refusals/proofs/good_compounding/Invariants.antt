use lib.Dec.{leb}
use Rattle.refusals.proofs.All.{Passed}
use Rattle.electra_refusals.proofs.good_compounding.Given as goal

abbrev pub invariant-loop-credential : goal.invariant-loop-credential
invariant-loop-credential l = Passed (λ c. leb c 1) l.compounding l.credential-index

use mathlib.Core.Path.{sym}
use native.Mathlib.Omega.{arith}
use Rattle.laws.proofs.Fits.{add64-leaves, add64-fits}
use Rattle.arithmetic.proofs.add64.Goals as goal

pub returns-then-a-b : goal.returns-then-a-b
returns-then-a-b c = sym (add64-leaves _ _ (omega arith))

pub returns : goal.returns
returns c = sym (add64-fits _ _ (omega arith))

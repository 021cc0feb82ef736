use mathlib.Core.Path.{ap}
use Prim.Native.Nat.{ℕ}
use borrow.Author.Tests.{eq-eqb, ne_eqb}
use lib.Dec.{leb}
use Rattle.definitions_file.specs.OutageInput.{good_tail}
use Rattle.outage.proofs.good_tail.Goals as goal

pub returns-then-tail-validators : goal.returns-then-tail-validators
unfolding good_tail
returns-then-tail-validators c = rw (ne_eqb _ _ c.if-tail-validators.true)

pub returns : goal.returns
unfolding good_tail
returns c = rw (eq-eqb _ _ c.if-tail-validators.false) (ap (λ (n : ℕ). leb n 4096) c.read_number-epochs.ensures.0)

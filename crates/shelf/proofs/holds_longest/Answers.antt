use mathlib.Core.Path.{refl, sym, ◌∙◌}
use Prim.Native.Nat.{◌*◌}
use native.Mathlib.Omega.{arith}
use borrow.Author.Tests.{le-leb}
use lib.ListN.{length}
use Rattle.shelf.proofs.Lengths.{within_more, beyond, longest-none}
use Rattle.shelf.proofs.holds_longest.Goals as goal

pub loop-n-init : goal.loop-n-init
loop-n-init c = (omega arith, refl)

pub returns-then-numbers-needed : goal.returns-then-numbers-needed
returns-then-numbers-needed c = let a = c.args in let l = c.loop-n in sym (l.invariant.1 ∙ beyond a.lengths.now l.n-index (8 * length a.numbers.now) c.loop-n-test.true (omega arith))

pub loop-n-preserved : goal.loop-n-preserved
loop-n-preserved c = let a = c.args in let l = c.loop-n in (omega arith, l.invariant.1 ∙ within_more a.lengths.now l.n-index (8 * length a.numbers.now) c.loop-n-test.true (omega arith))

pub returns : goal.returns
returns c = let a = c.args in sym (c.loop-n.invariant.1 ∙ rw (longest-none a.lengths.now c.loop-n.n-index c.loop-n-test.false) (le-leb 0 (8 * length a.numbers.now) (omega arith)))

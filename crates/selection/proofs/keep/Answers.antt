use native.Mathlib.Omega.{arith}
use lib.ListN.{length-set}
use Rattle.selection.proofs.Kept.{kept_same, kept_set}
use Rattle.selection.proofs.keep.Goals as goal

pub returns-then-kept-p : goal.returns-then-kept-p
returns-then-kept-p c = kept_same _ c.requires c.if-kept-p.true

pub highest-requires : goal.highest-requires
highest-requires c = simp length-set (omega (arith, c.requires.inside))

pub returns : goal.returns
returns c = kept_set c.requires c.if-kept-p.false c.highest.ensures

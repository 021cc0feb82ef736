use native.Mathlib.Omega.{arith}
use borrow.Author.Tests.{le-leb, lt-leb}
use Rattle.totals.specs.Flags.{raised_of}
use Rattle.totals.proofs.raising.raised_of.Goals as goal

pub returns-then-current_epoch-le1 : goal.returns-then-current_epoch-le1
unfolding raised_of
returns-then-current_epoch-le1 c = rw (le-leb c.args.current_epoch 1 (omega (arith, c.if-current_epoch-le1.true))) c.none_raised.ensures

pub returns : goal.returns
unfolding raised_of
returns c = rw (lt-leb c.args.current_epoch 1 (omega (arith, c.if-current_epoch-le1.false)), c.flag_of.ensures, c.flag_of-2.ensures, c.flag_of-3.ensures)

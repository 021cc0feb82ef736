use borrow.Author.Tests.{eq-eqb, ne_eqb, not-true, not-false}
use Rattle.definitions.specs.Document.Altair.Helpers.{has_flag}
use Rattle.entries.proofs.Flags.{slashed-never, unslashed-by_flag}
use mathlib.Core.Path.{ap}
use mathlib.Core.Bool.{not}
use Rattle.entries.proofs.participates.Goals as goal

pub returns-then-not-active : goal.returns-then-not-active
returns-then-not-active c = rw (not-true c.args.active (ap not c.if-not-active.true))

pub returns-then-slashed-eq1 : goal.returns-then-slashed-eq1
returns-then-slashed-eq1 c = let a = c.args in rw (eq-eqb _ _ c.if-slashed-eq1.true) (slashed-never a.active (has_flag a.flags a.flag_index))

pub returns : goal.returns
returns c = rw (not-false c.args.active (ap not c.if-not-active.false), ne_eqb _ _ c.if-slashed-eq1.false) (unslashed-by_flag c.flag_is_set.ensures)

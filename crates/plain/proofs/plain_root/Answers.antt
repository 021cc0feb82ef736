use borrow.Author.Tests.{eq-eqb, ne_eqb}
use Rattle.root_parts.specs.Root.{root_given}
use Rattle.plain.proofs.plain_root.Goals as goal

pub returns-then-part-ne32 : goal.returns-then-part-ne32
unfolding root_given
returns-then-part-ne32 c = rw (ne_eqb _ _ c.if-part-ne32.true)

pub returns : goal.returns
unfolding root_given
returns c = rw (eq-eqb _ _ c.if-part-ne32.false, c.root_copy-root.ensures)

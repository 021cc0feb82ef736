use mathlib.Core.Path.{ap}
use borrow.Author.Tests.{le-leb, lt-leb}
use Rattle.definitions.specs.Lists.{every}
use Rattle.definitions.specs.Checked.{value, bind}
use Rattle.definitions.specs.LeafRefusals.{flag_tests}
use Rattle.definitions.specs.Refusals.{after_tests, in_order}
use Rattle.entries.proofs.has_flag.Goals as goal

pub returns-then-flag_index-gt7 : goal.returns-then-flag_index-gt7
unfolding after_tests bind flag_tests in_order every
returns-then-flag_index-gt7 c = rw (lt-leb _ _ c.if-flag_index-gt7.true)

pub returns : goal.returns
unfolding after_tests bind flag_tests in_order every
returns c = rw (le-leb _ _ c.if-flag_index-gt7.false) (ap value c.flag_is_set-set.ensures)

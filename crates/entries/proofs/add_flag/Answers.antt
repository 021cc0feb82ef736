use mathlib.Core.Path.{sym, ◌∙◌}
use native.Mathlib.Omega.{arith}
use borrow.Author.Tests.{le-leb, lt-leb}
use Rattle.definitions.specs.Lists.{every}
use Rattle.definitions.specs.Checked.{bind}
use Rattle.definitions.specs.Document.Altair.Helpers.{has_flag, add_flag}
use Rattle.definitions.specs.LeafRefusals.{flag_tests}
use Rattle.definitions.specs.Refusals.{after_tests, in_order}
use Rattle.entries.proofs.Numbers.{flag_small, flag_power}
use Rattle.entries.proofs.add_flag.Goals as goal

pub returns-then-flag_index-gt7 : goal.returns-then-flag_index-gt7
unfolding after_tests bind flag_tests in_order every
returns-then-flag_index-gt7 c = rw (lt-leb _ _ c.if-flag_index-gt7.true)

pub returns-then-flag_is_set : goal.returns-then-flag_is_set
unfolding after_tests bind flag_tests in_order has_flag add_flag every
returns-then-flag_is_set c = rw (le-leb _ _ c.if-flag_index-gt7.false, sym c.flag_is_set.ensures ∙ c.if-flag_is_set.true)

pub overflow_add-after : goal.overflow_add-after
overflow_add-after c =
    let l = c.if-flag_index-gt7.false in
    omega (arith, flag_power _ l, flag_small l)

pub returns : goal.returns
unfolding after_tests bind flag_tests in_order has_flag add_flag every
returns c =
    let l = c.if-flag_index-gt7.false in
    rw (le-leb _ _ l, sym c.flag_is_set.ensures ∙ c.if-flag_is_set.false, flag_power _ l)

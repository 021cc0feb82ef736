use mathlib.Core.Path.{ap, ◌∙◌}
use native.Mathlib.Omega.{arith}
use mir.Syntax.{w64}
use mir.Facts.{to_z_pos}
use Rattle.definitions.specs.Checked.{value}
use Rattle.arithmetic.proofs.signed.Change.{lost-fits, lost-told, gain, gain-wide, loses, loses-wide}
use Rattle.arithmetic.proofs.signed.net_change.Goals as goal

pub returns-then-gain-lt9223372036854775808 : goal.returns-then-gain-lt9223372036854775808
returns-then-gain-lt9223372036854775808 c = ap value (to_z_pos w64 c.if-gain-lt9223372036854775808.true) ∙ gain _ _ c.if-opening-closing.true c.if-gain-lt9223372036854775808.true

pub returns-then-opening-closing : goal.returns-then-opening-closing
returns-then-opening-closing c = gain-wide _ _ c.if-opening-closing.true c.if-gain-lt9223372036854775808.false

pub overflow_sub-result : goal.overflow_sub-result
overflow_sub-result c = lost-fits _ c.if-loss-lt9223372036854775808.true

pub returns-then-loss-lt9223372036854775808 : goal.returns-then-loss-lt9223372036854775808
returns-then-loss-lt9223372036854775808 c = ap value (lost-told _ c.if-loss-lt9223372036854775808.true) ∙ loses _ _ (omega arith) c.if-opening-closing.false c.if-loss-lt9223372036854775808.true

pub returns : goal.returns
returns c = loses-wide _ _ (omega arith) c.if-opening-closing.false c.if-loss-lt9223372036854775808.false

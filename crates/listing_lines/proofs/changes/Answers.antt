use mathlib.Core.Path.{sym, ◌∙◌}
use Rattle.arithmetic.proofs.Laws.{carried}
use Rattle.listing_lines.proofs.Fitting.{fitting_none, fitting_more, fitting_wide, fitting_all}
use Rattle.listing_lines.proofs.changes.Goals as goal

pub loop-i-init : goal.loop-i-init
loop-i-init c = fitting_none _ _ c.requires.0 c.requires.1

pub returns-in_err-net_change : goal.returns-in_err-net_change
returns-in_err-net_change c =
    carried _ c.from_residual.ensures
    ∙ sym (fitting_wide _ _ c.requires.0 c.requires.1 c.loop-i.invariant c.loop-i-test.true (sym c.net_change.ensures ∙ c.in_err-net_change.was))

pub loop-i-preserved : goal.loop-i-preserved
loop-i-preserved c = fitting_more _ _ c.requires.0 c.requires.1 c.loop-i.invariant c.loop-i-test.true (sym c.net_change.ensures ∙ c.in_ok-net_change.was)

pub returns : goal.returns
returns c = sym (fitting_all _ _ c.requires.0 c.requires.1 c.loop-i.invariant c.loop-i-test.false)

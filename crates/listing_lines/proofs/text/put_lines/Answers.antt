use mathlib.Core.Path.{sym, ◌∙◌}
use Rattle.laws.proofs.Checked.{not_value}
use native.Mathlib.Omega.{arith}
use Rattle.refusals.proofs.Laws.{registry-shaped}
use Rattle.arithmetic.proofs.signed.Change.{signed, difference}
use Rattle.listing_lines.proofs.Fitting.{fitting_none, fitting_more, fitting_wide}
use Rattle.listing_lines.proofs.Lines.{lining_none, lining_more, lining_all}
use Rattle.listing_lines.proofs.text.put_lines.Goals as goal

pub loop-i-init : goal.loop-i-init
loop-i-init c =
    let shaped = c.requires.opening_value.0 in
    (lining_none _ _ shaped c.requires.opening_value.1 _ _ c.requires.opening_in_bounds, fitting_none _ _ (registry-shaped _ shaped).long c.requires.opening_value.1)

-- the tests have passed: no net change is refused
pub returns-in_default : goal.returns-in_default
returns-in_default c =
    let shaped = (registry-shaped _ c.requires.opening_value.0).long in
    let over = fitting_wide _ _ shaped c.requires.opening_value.1 c.loop-i.invariant.1 c.loop-i-test.true (sym c.net_change.ensures ∙ c.in_default.is) in
    absurd (not_value (sym over ∙ c.requires.closing_value))

pub put_line-end-requires : goal.put_line-end-requires
put_line-end-requires c =
    let v = c.loop-i.invariant.0 in
    let change = sym c.net_change.ensures ∙ c.in-Ok.is in
    (omega (arith, v.room, c.loop-i-test.true), signed _ _ change ∙ difference _ _ change)

pub loop-i-preserved : goal.loop-i-preserved
loop-i-preserved c =
    let shaped = c.requires.opening_value.0 in
    let alike = c.requires.opening_value.1 in
    let p = c.put_line-end.ensures in
    let change = sym c.net_change.ensures ∙ c.in-Ok.is in (
      lining_more _ _ shaped alike c.loop-i.invariant.0 c.loop-i-test.true p.put p.upper_bound,
      fitting_more _ _ (registry-shaped _ shaped).long alike c.loop-i.invariant.1 c.loop-i-test.true change,
    )

pub returns : goal.returns
returns c =
    let v = c.loop-i.invariant.0 in
    record { put = lining_all _ _ c.requires.opening_value.0 c.requires.opening_value.1 v c.loop-i-test.false; upper_bound = omega (arith, v.room, v.long) }

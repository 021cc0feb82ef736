use native.Mathlib.Omega.{arith}
use borrow.Author.Rules.{rules}
use mir.Syntax.{w64}
use mir.Val.{SFits}
use Rattle.fields.proofs.decimals.Signed.{Loss, Gain, loss, gain}
use Rattle.fields.proofs.decimals.put_change.Goals.{Else-change-lt0, Then-change-lt0}
use Rattle.fields.proofs.decimals.put_change.Goals as goal

lost : (c : Then-change-lt0) → Loss c.args.change
lost c = let fits : SFits w64 c.args.change = search rules in loss _ fits c.if-change-lt0.true

gained : (c : Else-change-lt0) → Gain c.args.change
gained c = let fits : SFits w64 c.args.change = search rules in gain _ fits c.if-change-lt0.false

pub returns-then-change-lt0 : goal.returns-then-change-lt0
returns-then-change-lt0 c =
    let p = c.put_labelled.ensures in
    record { put = rw (← (lost (goal.at.returns-then-change-lt0 c).Then-change-lt0).text) p.put; upper_bound = omega (arith, p.upper_bound) }

pub returns : goal.returns
returns c =
    let p = c.put_labelled-2.ensures in
    record { put = rw (← (gained (goal.at.returns c).Else-change-lt0).text) p.put; upper_bound = omega (arith, p.upper_bound) }

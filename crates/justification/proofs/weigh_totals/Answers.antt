use native.Mathlib.Omega.{arith}
use mathlib.Core.Path.{sym}
use Prim.Native.Nat.{◌<◌}
use Rattle.definitions.specs.Rust.Phase0.Helpers.{get_current_epoch}
use Rattle.arithmetic.proofs.Laws.{next, passes-on}
use Rattle.weighing.proofs.Passed.{weigh-passed}
use Rattle.justification.proofs.Totals.{first-epochs, later-epochs}
use Rattle.justification.proofs.weigh_totals.Goals.{Else-current-le1}
use Rattle.justification.proofs.weigh_totals.Goals as goal

-- epoch 2 or later
late : (c : Else-current-le1) → 1 < get_current_epoch c.args.s c.args.old.slot
late c = omega (arith, c.current_epoch-current.ensures, c.if-current-le1.false)

pub current_epoch-current-requires : goal.current_epoch-current-requires
current_epoch-current-requires c = (weigh-passed _ _ _ c.requires).settings.good.positive.slots_per_epoch

pub returns-then-current-le1 : goal.returns-then-current-le1
returns-then-current-le1 c =
    let a = c.args in
    record { of = λ vs p. sym (first-epochs a.s a.roots.now a.old vs (omega (arith, c.current_epoch-current.ensures, c.if-current-le1.true))) }

pub returns-in_err-active : goal.returns-in_err-active
returns-in_err-active c =
    let a = c.args in
    record { of = λ vs g. later-epochs a.s a.roots.now a.old vs (late (goal.at.returns-in_err-active c).Else-current-le1) (passes-on _ g.active c.in_err-active.was c.from_residual.ensures) }

pub returns-in_err-before : goal.returns-in_err-before
returns-in_err-before c =
    let a = c.args in
    record { of = λ vs g. later-epochs a.s a.roots.now a.old vs (late (goal.at.returns-in_err-before c).Else-current-le1) (next _ g.active c.in_ok-active.was (passes-on _ g.previous c.in_err-before.was c.from_residual-in_err-before.ensures)) }

pub returns-in_err-now : goal.returns-in_err-now
returns-in_err-now c =
    let a = c.args in
    record { of = λ vs g. later-epochs a.s a.roots.now a.old vs (late (goal.at.returns-in_err-now c).Else-current-le1) (next _ g.active c.in_ok-active.was (next _ g.previous c.in_ok-before.was (passes-on _ g.current c.in_err-now.was c.from_residual-in_err-now.ensures))) }

pub returns : goal.returns
returns c =
    let a = c.args in
    record { of = λ vs g. later-epochs a.s a.roots.now a.old vs (late (goal.at.returns c).Else-current-le1) (next _ g.active c.in_ok-active.was (next _ g.previous c.in_ok-before.was (next _ g.current c.in_ok-now.was c.weigh.ensures))) }

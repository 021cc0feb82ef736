use mathlib.Core.Path.{◌≡◌, refl, ◌∙◌}
use native.Mathlib.Omega.{arith}
use Rattle.electra_deposits.proofs.closing.Written.{postponing-none, postponing-few, postponing-more}
use Rattle.electra_deposits.proofs.closing.write_postponed.Goals as goal

pub loop-i-init : goal.loop-i-init
loop-i-init c =
    let p = c.requires in
    (p.0, p.1, p.2, omega arith, refl, postponing-none _ _ _ _)

pub is_postponed-on-requires : goal.is_postponed-on-requires
is_postponed-on-requires c = c.loop-i.invariant.0

pub add_if-count-requires : goal.add_if-count-requires
add_if-count-requires c =
    let inv = c.loop-i.invariant in
    omega (arith, c.loop-i-test.true, inv.2, postponing-few inv.5)

pub loop-i-preserved : goal.loop-i-preserved
loop-i-preserved c =
    let inv = c.loop-i.invariant in
    let l = c.loop-i-test.true in
    let kept = c.add_if-count.auto.queue in
    let more = postponing-more inv.5 (omega (arith, l, inv.1)) c.deposit_at-d.ensures c.is_postponed-on.ensures c.add_if-count.ensures in
    (inv.0, inv.1, omega (arith, kept, inv.2), omega (arith, l), kept ∙ inv.4, more)

pub returns : goal.returns
returns c =
    let inv = c.loop-i.invariant in
    let e : c.loop-i.i ≡ c.args.index = omega (arith, inv.3, c.loop-i-test.false) in
    rw e at inv.5

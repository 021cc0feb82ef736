use native.Mathlib.Omega.{arith}
use mathlib.Core.Path.{refl, ◌∙◌}
use Rattle.electra_deposits.proofs.Table.{adding_none, adding_within, adding_all, adding_stop, adding_more, room-left, table-long, place-below, key_here}
use Rattle.electra_deposits.proofs.adding.add_deposits.Goals as goal

pub loop-i-init : goal.loop-i-init
loop-i-init c =
    let p = c.requires in
    (p.places_value.2, p.places_value.1, p.registry_len.2, refl, refl, refl, adding_none _ _ _ _ _ _ _ p.registry_len.0 p.registry_len.1 p.places_value.0)

pub deposit_at-d-requires : goal.deposit_at-d-requires
deposit_at-d-requires c = omega (arith, c.loop-i.invariant.0)

pub join-requires : goal.join-requires
join-requires c =
    let inv = c.loop-i.invariant in
    let l = c.loop-i-test.true in
    let key = key_here _ _ inv.0 l c.deposit_at-d.ensures _ inv.1 in
    record { registry_len = (inv.6.long, room-left inv.6 inv.0 l, inv.2); pubkey_bound = (omega (arith, key, table-long inv.6 inv.0 l), place-below inv.6 inv.0 l _ key) }

pub returns-in_default : goal.returns-in_default
returns-in_default c =
    let inv = c.loop-i.invariant in
    record { added = adding_stop inv.6 inv.0 c.loop-i-test.true c.deposit_at-d.ensures inv.1 c.join.ensures c.in_default.is; lower_bound = adding_within inv.6 inv.0 }

pub loop-i-preserved : goal.loop-i-preserved
loop-i-preserved c =
    let inv = c.loop-i.invariant in
    let kept = c.join.auto in
    (inv.0, inv.1, inv.2, kept.registry ∙ inv.3, kept.compounding ∙ inv.4, kept.places ∙ inv.5, adding_more inv.6 inv.0 c.loop-i-test.true c.deposit_at-d.ensures inv.1 c.join.ensures c.in-Ok.is kept.registry kept.compounding)

pub returns : goal.returns
returns c =
    let inv = c.loop-i.invariant in
    record { added = adding_all inv.6 inv.0 c.loop-i-test.false; lower_bound = adding_within inv.6 inv.0 }

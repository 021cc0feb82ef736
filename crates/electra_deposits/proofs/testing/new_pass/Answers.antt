use native.Mathlib.Omega.{arith}
use mathlib.Core.Path.{refl, ◌∙◌}
use borrow.Author.Tests.{not-true, not-false}
use Rattle.electra_deposits.proofs.Tests.{testing_none, testing_all, testing_more, testing_stop, added-few}
use Rattle.electra_deposits.proofs.Table.{key_here}
use Rattle.electra_deposits.proofs.testing.new_pass.Goals as goal

pub loop-i-init : goal.loop-i-init
loop-i-init c =
    let p = c.requires in
    (p.places_value.2, p.places_value.1, p.increment_nonzero, refl, testing_none _ _ _ _ _ _ _ p.places_value.0)

pub deposit_at-d-requires : goal.deposit_at-d-requires
deposit_at-d-requires c = omega (arith, c.loop-i.invariant.0)

pub test_deposit-tested-requires : goal.test_deposit-tested-requires
test_deposit-tested-requires c =
    let inv = c.loop-i.invariant in
    let key = key_here _ _ inv.0 c.loop-i-test.true c.deposit_at-d.ensures _ inv.1 in
    (omega (arith, key, inv.4.long), inv.2)

pub returns-then-not-tested : goal.returns-then-not-tested
returns-then-not-tested c =
    let inv = c.loop-i.invariant in
    testing_stop inv.4 inv.0 c.loop-i-test.true c.deposit_at-d.ensures inv.1 c.test_deposit-tested.ensures (not-true _ c.if-not-tested.true)

pub overflow_add-added : goal.overflow_add-added
overflow_add-added c =
    let inv = c.loop-i.invariant in
    let most = added-few inv.4 inv.0 c.loop-i-test.true c.deposit_at-d.ensures inv.1 c.test_deposit-tested.ensures in
    omega (arith, most, inv.4.few, c.loop-i-test.true)

pub loop-i-preserved : goal.loop-i-preserved
loop-i-preserved c =
    let inv = c.loop-i.invariant in
    let kept = c.test_deposit-tested.auto.places in
    (inv.0, inv.1, inv.2, kept ∙ inv.3, testing_more inv.4 inv.0 c.loop-i-test.true c.deposit_at-d.ensures inv.1 c.test_deposit-tested.ensures (not-false _ c.if-not-tested.false) kept)

pub returns : goal.returns
returns c =
    let inv = c.loop-i.invariant in
    testing_all inv.4 inv.0 c.loop-i-test.false

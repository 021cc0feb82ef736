use mathlib.Core.Path.{refl}
use native.Mathlib.Omega.{arith}
use Rattle.arithmetic.proofs.Laws.{carried}
use Rattle.electra_close_tests.proofs.Passed.{in_place-good}
use Rattle.electra_front.proofs.Eights.{first-refused, none_yet, later-refused, goes}
use Rattle.electra_front.proofs.eight_steps.Goals as goal

pub first_five-requires : goal.first_five-requires
first_five-requires c =
    let l = c.requires in
    let t = l.later.tens in
    let w = l.later.twelves in
    let g = in_place-good _ l.good in
    rw c.under-s.ensures
    (record { rules_value = (l.good, g, refl, l.finality); registry_value = l.justification; registry_len = (omega (arith, l.tens), omega (arith, l.tens, t), omega (arith, l.tens, w)) })

pub returns-in_err-first : goal.returns-in_err-first
returns-in_err-first c =
    let a = c.args in
    let h = c.first_five.ensures in
    let k = c.first_five.auto.closing in
    first-refused a.rules a.finality a.churn a.numbers a.registry.now a.compounding.now a.slashings.now a.roots.now a.deposits.now a.pairs.now c.requires (omega (arith, k, c.requires.later.tens)) (omega (arith, k, c.requires.later.twelves)) (rw c.under-s.ensures at h) c.in_err-first.was (carried _ c.from_residual.ensures)

pub later_three-requires : goal.later_three-requires
later_three-requires c =
    let l = c.requires in
    let a = c.args in
    let k = c.first_five.auto.closing in
    record { rules_value = l.good; later_lent = record { tens = omega (arith, k, l.later.tens); twelves = omega (arith, k, l.later.twelves); fives = l.later.fives; keys = l.later.keys; twos = l.later.twos; within = l.later.within; table = l.later.table }; none_yet = none_yet a.rules a.finality a.churn a.numbers a.registry.now a.compounding.now a.slashings.now a.roots.now a.deposits.now a.pairs.now l (omega (arith, k, l.later.tens)) (omega (arith, k, l.later.twelves)) (rw c.under-s.ensures at c.first_five.ensures) c.in_ok-first.was }

pub returns-in_err-later : goal.returns-in_err-later
returns-in_err-later c =
    let a = c.args in
    let h = c.first_five.ensures in
    let k = c.first_five.auto.closing in
    later-refused a.rules a.finality a.churn a.numbers a.registry.now a.compounding.now a.slashings.now a.roots.now a.deposits.now a.pairs.now c.requires (omega (arith, k, c.requires.later.tens)) (omega (arith, k, c.requires.later.twelves)) (rw c.under-s.ensures at h) c.in_ok-first.was c.later_three.ensures c.in_err-later.was (carried _ c.from_residual-in_err-later.ensures)

pub returns : goal.returns
returns c =
    let a = c.args in
    let h = c.first_five.ensures in
    let k = c.first_five.auto.closing in
    goes a.rules a.finality a.churn a.numbers a.registry.now a.compounding.now a.slashings.now a.roots.now a.deposits.now a.pairs.now c.requires (omega (arith, k, c.requires.later.tens)) (omega (arith, k, c.requires.later.twelves)) (rw c.under-s.ensures at h) c.in_ok-first.was c.later_three.ensures c.in_ok-later.was

use mathlib.Core.Path.{◌≡◌, ◌∙◌}
use native.Mathlib.Omega.{arith}
use borrow.Author.Tests.{eq-eqb, ne_eqb}
use Rattle.definitions_close.specs.Orders.{carry_out}
use Rattle.definitions_close.specs.Calls.{ninth_called}
use Rattle.orders.proofs.ninth_call.Tests.{ready}
use Rattle.orders.proofs.ninth_call.Carried.{not_carried, carries-out}
use Rattle.orders.proofs.ninth_call.carry_out.Goals as goal

pub returns-then-done-eq9 : goal.returns-then-done-eq9
unfolding carry_out
returns-then-done-eq9 c = rw (eq-eqb c.args.running.done 9 (omega (arith, c.if-done-eq9.true)))

pub returns-then-done-ne8 : goal.returns-then-done-ne8
unfolding carry_out
returns-then-done-ne8 c =
    let done = c.args.running.done in
    rw (ne_eqb done 9 (λ e. omega (arith, e, c.if-done-eq9.false)), ne_eqb done 8 (λ e. omega (arith, e, c.if-done-ne8.true)), c.turned_away.ensures)

pub returns-in-Err : goal.returns-in-Err
returns-in-Err c =
    let eighth : c.args.running.done ≡ 8 = omega (arith, c.if-done-ne8.false) in
    rw c.turned_away-in-Err.ensures (not_carried (ninth_called _ _ _ _ _ _) c.ninth_tests.ensures eighth c.in-Err.is)

pub carry_tested-requires : goal.carry_tested-requires
carry_tested-requires c = rw c.settings_under-s.ensures (ready (ninth_called _ _ _ _ _ _) c.ninth_tests.ensures c.in_default.is)

pub returns : goal.returns
returns c =
    let eighth : c.args.running.done ≡ 8 = omega (arith, c.if-done-ne8.false) in
    c.carry_tested.ensures ∙ rw c.settings_under-s.ensures (carries-out (ninth_called _ _ _ _ _ _) c.ninth_tests.ensures eighth c.in_default.is)

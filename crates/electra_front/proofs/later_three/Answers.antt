use native.Mathlib.Omega.{arith}
use Rattle.arithmetic.proofs.Laws.{carried}
use Rattle.electra_refusals.proofs.Passed.{good-electra}
use Rattle.electra_front.proofs.Threes.{six-refused, move_refused, new-refused, goes, few-done}
use Rattle.electra_front.proofs.later_three.Goals as goal

pub deposits_in_front-requires : goal.deposits_in_front-requires
deposits_in_front-requires c =
    let l = c.requires.later_lent in
    let n = c.requires.none_yet in
    record { rules_value = c.requires.rules_value; registry_len = (omega (arith, l.tens), omega (arith, l.tens, l.twelves)); none_yet = record { tenth = λ i m. n.tenth i (omega (arith, m, l.tens)); eleventh = λ i m. n.eleventh i (omega (arith, m, l.tens)) } }

pub returns-in_err-six : goal.returns-in_err-six
returns-in_err-six c =
    let a = c.args in
    let l = c.requires.later_lent in
    six-refused a.rules a.state_slot a.finalized_epoch a.numbers a.compounding.now a.deposits.now a.pairs.now a.registry.now l.tens l.twelves c.deposits_in_front.ensures c.in_err-six.was (carried _ c.from_residual.ensures)

pub moves_and_balances-requires : goal.moves_and_balances-requires
moves_and_balances-requires c =
    let l = c.requires.later_lent in
    record { registry_len = (omega (arith, c.deposits_in_front.auto.registry, l.tens), l.twos); pairs_value = l.within; settings_value = (good-electra _ c.requires.rules_value).settings }

pub returns-in_err-done : goal.returns-in_err-done
returns-in_err-done c =
    let a = c.args in
    let l = c.requires.later_lent in
    move_refused a.rules a.state_slot a.finalized_epoch a.numbers a.compounding.now a.deposits.now a.pairs.now a.registry.now l.tens l.twelves c.deposits_in_front.ensures c.in_ok-six.was c.moves_and_balances.ensures c.in_err-done.was (carried _ c.from_residual-in_err-done.ensures)

pub new_refusal-requires : goal.new_refusal-requires
new_refusal-requires c =
    let a = c.args in
    let l = c.requires.later_lent in
    record { rules_value = (c.requires.rules_value, l.keys); index_in_bounds = (few-done a.rules a.state_slot a.finalized_epoch a.numbers a.compounding.now a.deposits.now a.pairs.now a.registry.now l.tens l.twelves c.deposits_in_front.ensures c.in_ok-six.was, l.table) }

pub returns-in_err-new_refusal : goal.returns-in_err-new_refusal
returns-in_err-new_refusal c =
    let a = c.args in
    let l = c.requires.later_lent in
    new-refused a.rules a.state_slot a.finalized_epoch a.numbers a.compounding.now a.deposits.now a.pairs.now a.registry.now l.tens l.twelves c.deposits_in_front.ensures c.in_ok-six.was c.moves_and_balances.ensures c.in_ok-done.was c.new_refusal.ensures c.in_err-new_refusal.was (carried _ c.from_residual-in_err-new_refusal.ensures)

pub returns : goal.returns
returns c =
    let a = c.args in
    let l = c.requires.later_lent in
    goes a.rules a.state_slot a.finalized_epoch a.numbers a.compounding.now a.deposits.now a.pairs.now a.registry.now l.tens l.twelves c.deposits_in_front.ensures c.in_ok-six.was c.moves_and_balances.ensures c.in_ok-done.was c.new_refusal.ensures c.in_ok-new_refusal.was

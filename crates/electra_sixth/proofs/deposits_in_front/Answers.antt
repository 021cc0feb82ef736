-- the places on the way
use native.Mathlib.Omega.{arith}
use Rattle.arithmetic.proofs.Laws.{carried}
use Rattle.electra_refusals.proofs.Passed.{good-electra}
use Rattle.electra_sixth.proofs.InFront.{queue-refused, loop-refused, left-refused, deposits-held}
use Rattle.electra_sixth.proofs.deposits_in_front.Goals as goal

pub queue_numbers-requires : goal.queue_numbers-requires
queue_numbers-requires c =
    (c.requires.registry_len.0, (good-electra _ c.requires.rules_value).settings)

pub returns-in_err-q : goal.returns-in_err-q
returns-in_err-q c =
    record { ran = λ st l. queue-refused c.args.rules l c.requires.registry_len.0 c.queue_numbers.ensures c.in_err-q.was (carried _ c.from_residual.ensures) }

pub book_named-requires : goal.book_named-requires
book_named-requires c = c.requires.registry_len

pub apply_deposits-requires : goal.apply_deposits-requires
apply_deposits-requires c = c.requires.registry_len.0

pub returns-in_err-done : goal.returns-in_err-done
returns-in_err-done c =
    record { ran = λ st l. loop-refused c.args.rules l c.requires.registry_len.0 c.queue_numbers.ensures c.in_ok-q.was c.apply_deposits.ensures c.in_err-done.was (carried _ c.from_residual-in_err-done.ensures) }

pub returns-in_err-left : goal.returns-in_err-left
returns-in_err-left c =
    record { ran = λ st l. left-refused c.args.rules l c.requires.registry_len.0 c.queue_numbers.ensures c.in_ok-q.was c.apply_deposits.ensures c.in_ok-done.was c.left_to_consume.ensures c.in_err-left.was (carried _ c.from_residual-in_err-left.ensures) }

pub book_named-requires-2 : goal.book_named-requires-2
book_named-requires-2 c =
    let k = c.apply_deposits.auto.registry in
    let j = c.book_named.auto.amounts in
    let a = c.requires.registry_len in
    (omega (arith, k, a.0), omega (arith, k, j, a.1))

pub book_named-requires-3 : goal.book_named-requires-3
book_named-requires-3 c =
    let k = c.apply_deposits.auto.registry in
    let j = c.book_named.auto.amounts in
    let i = c.book_named-2.auto.amounts in
    let a = c.requires.registry_len in
    (omega (arith, k, a.0), omega (arith, k, j, i, a.1))

pub returns : goal.returns
returns c =
    record { ran = λ st l. deposits-held c.args.rules l c.requires.registry_len.0 c.queue_numbers.ensures c.in_ok-q.was c.apply_deposits.ensures c.in_ok-done.was c.left_to_consume.ensures c.in_ok-left.was c.book_named.ensures c.book_named-2.ensures c.book_named-3.ensures c.apply_deposits.auto.registry c.requires.none_yet }

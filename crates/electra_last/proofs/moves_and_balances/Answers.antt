use native.Mathlib.Omega.{arith}
use Rattle.arithmetic.proofs.Laws.{carried}
use Rattle.electra_last.proofs.Moving.{moves-refused, balances-refused, moves-balanced}
use Rattle.electra_last.proofs.moves_and_balances.Goals as goal

pub consolidate_all-requires : goal.consolidate_all-requires
consolidate_all-requires c = record { registry_len = c.requires.registry_len; pairs_value = c.requires.pairs_value }

pub returns-in_err-count : goal.returns-in_err-count
returns-in_err-count c =
    let a = c.args in
    rw (carried _ c.from_residual.ensures) (moves-refused a.rules a.next_epoch _ a.compounding.now a.registry.now a.pairs.now c.consolidate_all.ensures.consolidates c.consolidate_all.ensures.moves_booked c.in_err-count.was)

pub effective_balances_core-requires : goal.effective_balances_core-requires
effective_balances_core-requires c = (omega (arith, c.consolidate_all.auto.registry, c.requires.registry_len.0), c.requires.settings_value)

pub returns-in_err-effective_balances_core : goal.returns-in_err-effective_balances_core
returns-in_err-effective_balances_core c =
    let a = c.args in
    rw (carried _ c.from_residual-in_err-effective_balances_core.ensures) (balances-refused a.rules a.next_epoch _ a.compounding.now a.registry.now a.pairs.now c.consolidate_all.ensures.consolidates c.consolidate_all.ensures.moves_booked c.in_ok-count.was c.effective_balances_core.ensures c.in_err-effective_balances_core.was)

pub returns : goal.returns
returns c =
    let a = c.args in
    moves-balanced a.rules a.next_epoch _ a.compounding.now a.registry.now a.pairs.now c.consolidate_all.ensures.consolidates c.consolidate_all.ensures.moves_booked c.in_ok-count.was c.effective_balances_core.ensures c.in_ok-effective_balances_core.was

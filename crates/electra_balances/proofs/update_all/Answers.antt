use Rattle.arithmetic.proofs.Laws.{carried}
use Rattle.electra_balances.proofs.Turns.{none_yet, next-ten, all-updated, one-updated, one-refused}
use Rattle.electra_balances.proofs.update_all.Goals as goal

pub loop-i-init : goal.loop-i-init
loop-i-init c = none_yet _ c.requires.registry_len.0

pub entry_update_own-requires : goal.entry_update_own-requires
entry_update_own-requires c = record { len = (next-ten c.loop-i.invariant c.loop-i-test.true, c.requires.registry_len.1); settings_value = c.requires.settings_value }

pub returns-in_err-entry_update_own : goal.returns-in_err-entry_update_own
returns-in_err-entry_update_own c = rw (carried _ c.from_residual.ensures) (one-refused c.loop-i.invariant c.loop-i-test.true c.entry_update_own.ensures c.in_err-entry_update_own.was)

pub loop-i-preserved : goal.loop-i-preserved
loop-i-preserved c = one-updated c.loop-i.invariant c.loop-i-test.true c.entry_update_own.ensures c.in_ok-entry_update_own.was

pub returns : goal.returns
returns c = all-updated c.loop-i.invariant c.loop-i-test.false

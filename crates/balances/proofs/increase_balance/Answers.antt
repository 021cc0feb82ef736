use Rattle.definitions.specs.Record.{encode_one}
use Rattle.arithmetic.proofs.Laws.{carried}
use Rattle.leaf_refusals.proofs.Passed.{entry-passed}
use Rattle.refusals.proofs.buffers.Closes.{closes-refused, entry_closes}
use Rattle.balances.proofs.increase_balance.Goals as goal

pub returns-in_err-entry_tests : goal.returns-in_err-entry_tests
returns-in_err-entry_tests c = rw (carried _ c.from_residual.ensures) (closes-refused encode_one _ c.entry_tests.ensures _ c.in_err-entry_tests.was)

pub entry_increase_balance-requires : goal.entry_increase_balance-requires
entry_increase_balance-requires c = (entry-passed _ c.entry_tests.ensures c.in_ok-entry_tests.was).long

pub returns : goal.returns
returns c = entry_closes _ _ c.entry_tests.ensures c.in_ok-entry_tests.was (entry-passed _ c.entry_tests.ensures c.in_ok-entry_tests.was).long c.entry_increase_balance.ensures

use Rattle.definitions.specs.Record.{encode_one}
use Rattle.arithmetic.proofs.Laws.{carried}
use Rattle.leaf_refusals.proofs.Passed.{entry-passed}
use Rattle.refusals.proofs.buffers.Closes.{closes-refused, closes-plain}
use Rattle.balances.proofs.decrease_balance.Goals as goal

pub returns-in_err-entry_tests : goal.returns-in_err-entry_tests
returns-in_err-entry_tests c = rw (carried _ c.from_residual.ensures) (closes-refused encode_one _ c.entry_tests.ensures _ c.in_err-entry_tests.was)

pub entry_decrease_balance-requires : goal.entry_decrease_balance-requires
entry_decrease_balance-requires c = (entry-passed _ c.entry_tests.ensures c.in_ok-entry_tests.was).long

pub returns : goal.returns
returns c = closes-plain encode_one _ c.entry_tests.ensures _ c.in_ok-entry_tests.was c.entry_decrease_balance.ensures

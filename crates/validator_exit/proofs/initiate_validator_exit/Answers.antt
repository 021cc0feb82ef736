use Rattle.validator_exit.proofs.queue_tests.Closes.{pair-given, pair-refused}
use Rattle.validator_exit.proofs.initiate_validator_exit.Goals as goal

pub returns-in-Ok : goal.returns-in-Ok
returns-in-Ok c = pair-given _ _ c.exit_tested.ensures c.in-Ok.is

pub returns-in-Err : goal.returns-in-Err
returns-in-Err c = pair-refused _ _ c.exit_tested.ensures c.in-Err.is c.number.ensures

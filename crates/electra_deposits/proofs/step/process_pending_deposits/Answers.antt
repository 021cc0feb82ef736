use Rattle.electra_refusals.proofs.Passed.{good-electra, deposits-passed}
use Rattle.electra_deposits.proofs.step.Close.{lent, tests-refused, tests-passed}
use Rattle.electra_deposits.proofs.step.process_pending_deposits.Goals as goal

pub returns-in-Err : goal.returns-in-Err
returns-in-Err c = rw c.opening_answer.ensures (tests-refused _ _ _ _ _ _ c.deposits_tests.ensures c.in-Err.is _ _ _)

pub deposits_core-requires : goal.deposits_core-requires
deposits_core-requires c =
    let p = deposits-passed _ _ _ _ _ _ _ _ _ _ c.deposits_tests.ensures c.in_default.is in
    record { lent = lent p; settings_value = ((good-electra _ p.good).settings, p.same) }

pub returns : goal.returns
returns c = tests-passed _ _ _ _ _ _ c.deposits_tests.ensures c.in_default.is c.deposits_core.ensures

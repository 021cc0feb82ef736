use mathlib.Core.Path.{sym, ◌∙◌}
use Rattle.definitions_electra_close.specs.Close.{ElectraCall}
use Rattle.definitions_electra_close.specs.Calls.{electra_called}
use Rattle.electra_close.proofs.Accepting.{untouched}
use Rattle.electra_close.proofs.electra_close.Goals.{Start}
use Rattle.electra_close.proofs.electra_close.Goals as goal

abbrev called : Start → ElectraCall
called s =
    let a = s.args in
    electra_called a.rules a.finality a.churn a.numbers a.registry.now a.compounding.now a.slashings.now a.roots.now a.deposits.now a.consolidations.now a.closing_registry.now a.closing_compounding.now a.closing_slashings.now a.closing_deposits.now a.closing_consolidations.now a.amounts.now a.places.now

pub returns-in-Err : goal.returns-in-Err
returns-in-Err c = untouched (called (goal.at.returns-in-Err c).Start) c.opening_answer.ensures c.close_tests.ensures c.in-Err.is

pub closed-requires : goal.closed-requires
closed-requires c = sym c.close_tests.ensures ∙ c.in_default.is

pub returns : goal.returns
returns c = c.closed.ensures

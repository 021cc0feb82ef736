use Rattle.full_close.specs.Called.{full_called}
use Rattle.close_by_steps.proofs.Stepped.{ready, first_ends, first-called}
use Rattle.close_by_steps.proofs.first_call.Goals as goal

pub returns-in-Err : goal.returns-in-Err
returns-in-Err c = let a = c.args in first_ends (full_called a.rules a.finality a.queue a.registry.now a.slashings.now a.roots.now a.closing_registry.now a.closing_slashings.now a.amounts.now) c.whole_tests.ensures c.in-Err.is c.number.ensures c.ended_by.ensures

pub first_tested-requires : goal.first_tested-requires
first_tested-requires c = let a = c.args in rw c.settings_under-s.ensures (ready (full_called a.rules a.finality a.queue a.registry.now a.slashings.now a.roots.now a.closing_registry.now a.closing_slashings.now a.amounts.now) c.whole_tests.ensures c.in_default.is)

pub returns : goal.returns
returns c = let a = c.args in first-called (full_called a.rules a.finality a.queue a.registry.now a.slashings.now a.roots.now a.closing_registry.now a.closing_slashings.now a.amounts.now) c.whole_tests.ensures c.in_default.is c.settings_under-s.ensures c.first_tested.ensures

use Rattle.full_close.specs.Called.{full_called}
use native.Mathlib.Omega.{arith}
use Rattle.definitions_close.specs.CloseBySteps.{so_far}
use Rattle.close_by_steps.proofs.Stepped.{ready, later-away, later-called}
use Rattle.close_by_steps.proofs.later_call.Goals as goal

pub returns-in-Err : goal.returns-in-Err
returns-in-Err c = let a = c.args in later-away (full_called a.rules a.finality a.queue a.registry.now a.slashings.now a.roots.now a.closing_registry.now a.closing_slashings.now a.amounts.now) a.running (λ e. omega (arith, e, c.requires.0)) c.whole_tests.ensures c.in-Err.is c.turned_away.ensures

pub later_tested-requires : goal.later_tested-requires
later_tested-requires c = let a = c.args in record { le_done = c.requires; ready = rw c.settings_under-s.ensures (ready (so_far a.running (full_called a.rules a.finality a.queue a.registry.now a.slashings.now a.roots.now a.closing_registry.now a.closing_slashings.now a.amounts.now)) c.whole_tests.ensures c.in_default.is) }

pub returns : goal.returns
returns c = let a = c.args in later-called (full_called a.rules a.finality a.queue a.registry.now a.slashings.now a.roots.now a.closing_registry.now a.closing_slashings.now a.amounts.now) a.running (λ e. omega (arith, e, c.requires.0)) c.whole_tests.ensures c.in_default.is c.settings_under-s.ensures c.later_tested.ensures

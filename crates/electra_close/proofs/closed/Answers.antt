use mathlib.Core.Path.{refl, ap}
use native.Mathlib.Omega.{arith}
use Rattle.definitions_electra_close.specs.Close.{ElectraCall}
use Rattle.definitions_electra_close.specs.Calls.{electra_called}
use Rattle.electra_close_tests.proofs.Passed.{ElectraPassed, electra-passed}
use Rattle.electra_close.proofs.Accepting.{put_back, accepted}
use Rattle.electra_close.proofs.Requires.{steps-lent, finish-lent}
use Rattle.electra_close.proofs.closed.Goals.{Start}
use Rattle.electra_close.proofs.closed.Goals as goal

abbrev called : Start → ElectraCall
called s =
    let a = s.args in
    electra_called a.rules a.finality a.churn a.numbers a.registry.now a.compounding.now a.slashings.now a.roots.now a.deposits.now a.consolidations.now a.closing_registry.now a.closing_compounding.now a.closing_slashings.now a.closing_deposits.now a.closing_consolidations.now a.amounts.now a.places.now

passed : (s : Start) → ElectraPassed (called s)
passed s = electra-passed (called s) refl s.requires

pub steps_in_front-ran-requires : goal.steps_in_front-ran-requires
steps_in_front-ran-requires c =
    steps-lent (called (goal.at.steps_in_front-ran-requires c).Start) (passed (goal.at.steps_in_front-ran-requires c).Start)

pub open_registry-requires : goal.open_registry-requires
open_registry-requires c =
    let p = passed (goal.at.open_registry-requires c).Start in
    let k = c.steps_in_front-ran.auto.closing_registry in
    (omega (arith, k, p.roomy_registry, p.shape.long), omega (arith, p.roomy_compounding, p.credentials), omega (arith, k, p.roomy_amounts))

pub open_queues-requires : goal.open_queues-requires
open_queues-requires c =
    let p = passed (goal.at.open_queues-requires c).Start in
    (p.same_slashings, p.same_deposits, p.same_consolidations)

pub returns-in-Err : goal.returns-in-Err
returns-in-Err c =
    let s = (goal.at.returns-in-Err c).Start in
    let o = c.open_registry.ensures in
    let q = c.open_queues.ensures in
    put_back (called s) c.requires (passed s) c.steps_in_front-ran.ensures c.in-Err.is c.opening_answer.ensures o.closing_registry_after o.closing_compounding_after q.closing_slashings_after q.closing_deposits_after q.closing_consolidations_after o.amounts_after

pub finish-counts-requires : goal.finish-counts-requires
finish-counts-requires c =
    let s = (goal.at.finish-counts-requires c).Start in
    let k = c.steps_in_front-ran.auto.closing_registry in
    finish-lent (called s) (passed s) c.steps_in_front-ran.ensures c.in-Ok.is (omega (arith, k)) (omega (arith, k)) (omega (arith, k))

pub returns-in-Ok : goal.returns-in-Ok
returns-in-Ok c =
    let s = (goal.at.returns-in-Ok c).Start in
    accepted (called s) c.requires (passed s) c.steps_in_front-ran.ensures c.in-Ok.is c.finish-counts.ensures c.closed_answer.ensures

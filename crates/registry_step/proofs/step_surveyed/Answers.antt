-- the first tests had passed
use mathlib.Core.Path.{refl, sym, ◌∙◌}
use native.Mathlib.Omega.{arith}
use Rattle.registry.proofs.Epochs.{epochs}
use Rattle.registry_step.proofs.Tests.{StepPassed, turned-away, step-passed, found-tests, true_pair, step-ran}
use Rattle.registry_step.proofs.step_surveyed.Goals.{Start}
use Rattle.registry_step.proofs.step_surveyed.Goals as goal

abbrev tested : (c : Start) → StepPassed c.args.stop c.args.s c.args.state_slot c.args.finalized_epoch c.args.opening.now c.args.closing.now
tested c = let a = c.args in step-passed a.limit a.stop a.s a.state_slot a.finalized_epoch a.queue a.opening.now a.closing.now refl c.requires.closing_value

pub current_epoch-epoch-requires : goal.current_epoch-epoch-requires
current_epoch-epoch-requires c = (tested (goal.at.current_epoch-epoch-requires c).Start).positive.slots_per_epoch

pub previous_epoch-previous-requires : goal.previous_epoch-previous-requires
previous_epoch-previous-requires c = (tested (goal.at.previous_epoch-previous-requires c).Start).positive.slots_per_epoch

pub survey_registry-found-requires : goal.survey_registry-found-requires
survey_registry-found-requires c =
    let p = tested (goal.at.survey_registry-found-requires c).Start in
    record { registry_len = p.long; current_epoch_bound = omega (arith, (epochs _ _ p.good p.slot).small, c.current_epoch-epoch.ensures); kept_len = c.requires.kept_len }

pub returns-in-Err : goal.returns-in-Err
returns-in-Err c =
    let a = c.args in
    let e = found-tests a.limit a.stop a.s a.state_slot a.finalized_epoch a.queue a.opening.now a.closing.now refl c.requires.closing_value c.survey_registry-found.ensures c.found_refusal.ensures in
    turned-away a.limit a.stop a.s a.state_slot a.finalized_epoch a.queue a.opening.now a.closing.now (sym e ∙ c.in-Err.is) c.number.ensures

pub run_step-requires : goal.run_step-requires
run_step-requires c =
    let a = c.args in
    let e = found-tests a.limit a.stop a.s a.state_slot a.finalized_epoch a.queue a.opening.now a.closing.now refl c.requires.closing_value c.survey_registry-found.ensures c.found_refusal.ensures in
    let p = tested (goal.at.run_step-requires c).Start in
    record { s_value = p.good; state_slot_bound = (p.slot, p.finalized); opening_len = (p.long, p.same); stop_in_bounds = p.stops; queue_value = true_pair a.limit a.stop a.s a.state_slot a.finalized_epoch a.queue a.opening.now a.closing.now e c.in_default.is; finds = rw (← c.current_epoch-epoch.ensures, ← c.previous_epoch-previous.ensures) c.survey_registry-found.ensures }

pub returns : goal.returns
returns c =
    let a = c.args in
    let e = found-tests a.limit a.stop a.s a.state_slot a.finalized_epoch a.queue a.opening.now a.closing.now refl c.requires.closing_value c.survey_registry-found.ensures c.found_refusal.ensures in
    step-ran a.limit a.stop a.s a.state_slot a.finalized_epoch a.queue a.opening.now a.closing.now e c.in_default.is c.run_step.ensures

-- what the tests gave
use mathlib.Core.Path.{sym, ◌∙◌}
use native.Mathlib.Omega.{arith}
use Rattle.definitions.specs.Record.{decode}
use Rattle.totals.proofs.raising.Three.{three-totals}
use Rattle.totals.proofs.raising.Answered.{close_refused_first, close_then_works}
use Rattle.justification.proofs.Passed.{JustificationPassed, justification-passed}
use Rattle.justification.proofs.process_justification_and_finalization.Goals.{In_default}
use Rattle.justification.proofs.process_justification_and_finalization.Goals as goal

tested : (c : In_default) → JustificationPassed c.args.s c.args.roots.now c.args.finality c.args.registry.now
tested c = justification-passed _ _ _ _ (sym c.justification_refusal.ensures ∙ c.in_default.is)

pub returns-in-Err : goal.returns-in-Err
returns-in-Err c = close_refused_first _ _ _ _ c.justification_refusal.ensures c.in-Err.is c.number.ensures c.none_raised.ensures

pub current_epoch-current-requires : goal.current_epoch-current-requires
current_epoch-current-requires c = (tested (goal.at.current_epoch-current-requires c).In_default).epoch

pub previous_epoch-previous-requires : goal.previous_epoch-previous-requires
previous_epoch-previous-requires c = (tested (goal.at.previous_epoch-previous-requires c).In_default).epoch

pub active_total-total-requires : goal.active_total-total-requires
active_total-total-requires c = (tested (goal.at.active_total-total-requires c).In_default).shape.long

pub participating_total-previous_target-requires : goal.participating_total-previous_target-requires
participating_total-previous_target-requires c = record { registry_len = (tested (goal.at.participating_total-previous_target-requires c).In_default).shape.long; flag_index_bound = omega arith }

pub participating_total-current_target-requires : goal.participating_total-current_target-requires
participating_total-current_target-requires c = record { registry_len = (tested (goal.at.participating_total-current_target-requires c).In_default).shape.long; flag_index_bound = omega arith }

pub justification_core-requires : goal.justification_core-requires
justification_core-requires c =
    (tested (goal.at.justification_core-requires c).In_default).weighs

pub returns : goal.returns
returns c =
    let a = c.args in
    let now = c.current_epoch-current.ensures in
    let was = c.previous_epoch-previous.ensures in
    close_then_works _ _ _ _ c.justification_refusal.ensures c.in_default.is
    (c.justification_core.ensures.of (decode a.registry.now) (three-totals a.s a.finality.slot _ now was c.active_total-total.ensures c.participating_total-previous_target.ensures c.participating_total-current_target.ensures))

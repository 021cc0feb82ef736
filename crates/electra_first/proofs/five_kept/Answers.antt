use native.Mathlib.Omega.{arith}
use Rattle.refusals.proofs.Laws.{good-settings, good-finality}
use Rattle.registry.proofs.Epochs.{Epochs, epochs}
use Rattle.electra_first.proofs.five_kept.Goals.{Start}
use Rattle.electra_first.proofs.five_kept.Goals as goal

ep : (c : Start) → Epochs c.args.s c.args.finality.slot
ep c = epochs _ _ c.requires.rules_value.1 (good-finality _ c.requires.rules_value.3).slot

pub current_epoch-current-requires : goal.current_epoch-current-requires
current_epoch-current-requires c = (good-settings _ c.requires.rules_value.1).positive.slots_per_epoch

pub previous_epoch-previous-requires : goal.previous_epoch-previous-requires
previous_epoch-previous-requires c = (good-settings _ c.requires.rules_value.1).positive.slots_per_epoch

pub survey_registry-found-requires : goal.survey_registry-found-requires
survey_registry-found-requires c =
    record { registry_len = c.requires.registry_len.0; current_epoch_bound = omega (arith, c.current_epoch-current.ensures, (ep (goal.at.survey_registry-found-requires c).Start).small); kept_len = c.requires.kept_len }

pub five_surveyed-requires : goal.five_surveyed-requires
five_surveyed-requires c =
    let a = c.requires in
    record { rules_value = a.rules_value; finality_value = a.finality_value; registry_len = a.registry_len; finds = rw (← c.current_epoch-current.ensures, ← c.previous_epoch-previous.ensures) c.survey_registry-found.ensures }

pub returns : goal.returns
returns c = c.five_surveyed.ensures

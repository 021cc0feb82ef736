use native.Mathlib.Omega.{arith}
use Rattle.refusals.proofs.Laws.{small, good-settings}
use Rattle.registry.proofs.Epochs.{Epochs, epochs}
use Rattle.registry_close.proofs.close_kept.Goals.{Start}
use Rattle.registry_close.proofs.close_kept.Goals as goal

ep : (c : Start) → Epochs c.args.s c.args.finality.slot
ep c = let p = c.requires.tested.settings in epochs c.args.s c.args.finality.slot p.good (small _ p.small)

pub current_epoch-current-requires : goal.current_epoch-current-requires
current_epoch-current-requires c =
    (good-settings _ c.requires.tested.settings.good).positive.slots_per_epoch

pub previous_epoch-previous-requires : goal.previous_epoch-previous-requires
previous_epoch-previous-requires c =
    (good-settings _ c.requires.tested.settings.good).positive.slots_per_epoch

pub survey_registry-found-requires : goal.survey_registry-found-requires
survey_registry-found-requires c =
    record { registry_len = c.requires.tested.registry; current_epoch_bound = omega (arith, c.current_epoch-current.ensures, (ep (goal.at.survey_registry-found-requires c).Start).small); kept_len = c.requires.kept_len }

pub run_steps-stepped-requires : goal.run_steps-stepped-requires
run_steps-stepped-requires c =
    record { tested = c.requires.tested; closing_registry_len = c.requires.closing_registry_len; finds = rw (← c.current_epoch-current.ensures, ← c.previous_epoch-previous.ensures) c.survey_registry-found.ensures }

pub returns : goal.returns
returns c = c.run_steps-stepped.ensures.limited_worked

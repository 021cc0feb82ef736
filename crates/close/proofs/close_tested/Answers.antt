-- the call under these rules
use mathlib.Core.Path.{◌≡◌, refl, sym, ◌∙◌}
use native.Mathlib.Omega.{arith}
use Rattle.definitions.specs.declared.Rules.{Rules}
use Rattle.definitions.specs.declared.ActivationLimit.TheVariants.{Churn}
use Rattle.definitions.specs.Close.{Call, close_tests}
use Rattle.definitions.specs.Checked.{value}
use Rattle.refusals.proofs.Laws.{small, good-settings}
use Rattle.registry.proofs.Epochs.{Epochs, epochs}
use Rattle.close.specs.Called.{called}
use Rattle.close.specs.Worked.{record_tests}
use Rattle.close.proofs.Lent.{entries-tested}
use Rattle.close.proofs.Outcome.{tests-refused, steps-closed}
use Rattle.definitions.specs.declared.Finality.{Finality}
use Prim.Native.Nat.{ℕ}
use mathlib.Core.List.{List}
use Rattle.close.proofs.close_tested.Goals.{After-survey_registry-found, Start}
use Rattle.close.proofs.close_tested.Goals as goal

abbrev call : Rules → Finality → List ℕ → List ℕ → List ℕ → List ℕ → List ℕ → Call
call r finality registry slashings roots closing_registry closing_slashings = called r finality registry slashings roots closing_registry closing_slashings

ep : (c : Start) → Epochs c.args.s c.args.finality.slot
ep c = let p = c.requires.tested.settings in epochs c.args.s c.args.finality.slot p.good (small _ p.small)

tested : (r : Rules) (c : After-survey_registry-found) → record_tests (call r c.args.finality c.args.registry.now c.args.slashings.now c.args.roots.now c.args.closing_registry.now c.args.closing_slashings.now) ≡ value tt → c.survey_registry-found.result.tested ≡ close_tests (call r c.args.finality c.args.registry.now c.args.slashings.now c.args.roots.now c.args.closing_registry.now c.args.closing_slashings.now)
tested r c z = entries-tested Churn (call r c.args.finality c.args.registry.now c.args.slashings.now c.args.roots.now c.args.closing_registry.now c.args.closing_slashings.now) (sym z) refl c.survey_registry-found.ensures.tested

pub current_epoch-current-requires : goal.current_epoch-current-requires
current_epoch-current-requires c =
    (good-settings _ c.requires.tested.settings.good).positive.slots_per_epoch

pub previous_epoch-previous-requires : goal.previous_epoch-previous-requires
previous_epoch-previous-requires c =
    (good-settings _ c.requires.tested.settings.good).positive.slots_per_epoch

pub survey_registry-found-requires : goal.survey_registry-found-requires
survey_registry-found-requires c =
    record { registry_len = c.requires.tested.registry; current_epoch_bound = omega (arith, c.current_epoch-current.ensures, (ep (goal.at.survey_registry-found-requires c).Start).small); kept_len = c.requires.kept_len }

pub returns-in-Err : goal.returns-in-Err
returns-in-Err c =
    record { under = λ r u z. tests-refused (call r c.args.finality c.args.registry.now c.args.slashings.now c.args.roots.now c.args.closing_registry.now c.args.closing_slashings.now) (sym (tested r (goal.at.returns-in-Err c).After-survey_registry-found z) ∙ c.in-Err.is) c.number.ensures c.none_raised.ensures }

pub close_surveyed-closed-requires : goal.close_surveyed-closed-requires
close_surveyed-closed-requires c =
    record { tested = c.requires.tested; closing_registry_len = c.requires.closing_registry_len; finds = rw (← c.current_epoch-current.ensures, ← c.previous_epoch-previous.ensures) c.survey_registry-found.ensures }

pub returns : goal.returns
returns c =
    record { under = λ r u z. steps-closed (call r c.args.finality c.args.registry.now c.args.slashings.now c.args.roots.now c.args.closing_registry.now c.args.closing_slashings.now) (sym (tested r (goal.at.returns c).After-survey_registry-found z) ∙ c.in_default.is) u c.close_surveyed-closed.ensures.steps_closed }

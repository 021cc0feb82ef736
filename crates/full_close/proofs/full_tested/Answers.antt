-- the call under these rules
use mathlib.Core.Path.{◌≡◌, refl, sym, ◌∙◌}
use native.Mathlib.Omega.{arith}
use Rattle.definitions.specs.declared.Rules.{Rules}
use Rattle.definitions.specs.Checked.{value}
use Rattle.definitions_close.specs.FullClose.{FullCall, limited_full_tests}
use Rattle.refusals.proofs.Laws.{small, good-settings}
use Rattle.registry.proofs.Epochs.{Epochs, epochs}
use Rattle.exit_queue.proofs.QueueOf.{tracks-is}
use Rattle.close.specs.Worked.{limited_record_tests}
use Rattle.close.proofs.Lent.{entries-tested}
use Rattle.full_close.specs.Called.{full_called}
use Rattle.full_close.proofs.Tests.{queue-tested}
use Rattle.full_close.proofs.Outcome.{full_tests-refused, full_steps_closed}
use Rattle.definitions.specs.declared.ExitQueue.{ExitQueue}
use Rattle.definitions.specs.declared.Finality.{Finality}
use Prim.Native.Nat.{ℕ}
use mathlib.Core.List.{List}
use Rattle.full_close.proofs.full_tested.Goals.{After-first_refusal, Start}
use Rattle.full_close.proofs.full_tested.Goals as goal

abbrev call : Rules → Finality → ExitQueue → List ℕ → List ℕ → List ℕ → List ℕ → List ℕ → List ℕ → FullCall
call r finality queue registry slashings roots closing_registry closing_slashings amounts = full_called r finality queue registry slashings roots closing_registry closing_slashings amounts

ep : (c : Start) → Epochs c.args.s c.args.finality.slot
ep c = let p = c.requires.tested.settings in epochs c.args.s c.args.finality.slot p.good (small _ p.small)

tested : (r : Rules) (c : After-first_refusal) → limited_record_tests c.args.limit (call r c.args.finality c.args.queue c.args.registry.now c.args.slashings.now c.args.roots.now c.args.closing_registry.now c.args.closing_slashings.now c.args.amounts.now).call ≡ value tt → c.first_refusal.result ≡ limited_full_tests c.args.limit (call r c.args.finality c.args.queue c.args.registry.now c.args.slashings.now c.args.roots.now c.args.closing_registry.now c.args.closing_slashings.now c.args.amounts.now)
tested r c z =
    let found = c.survey_registry-found.ensures in
    let k = call r c.args.finality c.args.queue c.args.registry.now c.args.slashings.now c.args.roots.now c.args.closing_registry.now c.args.closing_slashings.now c.args.amounts.now in
    queue-tested c.args.limit k c.requires.closing_registry_len.2 (entries-tested c.args.limit k.call (sym z) refl found.tested) (tracks-is found.queue) c.queue_refusal-wrong.ensures c.first_refusal.ensures

pub current_epoch-current-requires : goal.current_epoch-current-requires
current_epoch-current-requires c =
    (good-settings _ c.requires.tested.settings.good).positive.slots_per_epoch

pub previous_epoch-previous-requires : goal.previous_epoch-previous-requires
previous_epoch-previous-requires c =
    (good-settings _ c.requires.tested.settings.good).positive.slots_per_epoch

pub survey_registry-found-requires : goal.survey_registry-found-requires
survey_registry-found-requires c =
    record { registry_len = c.requires.tested.registry; current_epoch_bound = omega (arith, c.current_epoch-current.ensures, (ep (goal.at.survey_registry-found-requires c).Start).small); kept_len = c.requires.kept_len }

pub returns-in-Err : goal.returns-in-Err
returns-in-Err c =
    record { under = λ r u z. full_tests-refused _ (call r c.args.finality c.args.queue c.args.registry.now c.args.slashings.now c.args.roots.now c.args.closing_registry.now c.args.closing_slashings.now c.args.amounts.now) (sym (tested r (goal.at.returns-in-Err c).After-first_refusal z) ∙ c.in-Err.is) c.unclosed.ensures }

pub full_surveyed-requires : goal.full_surveyed-requires
full_surveyed-requires c =
    record { tested = c.requires.tested; closing_registry_len = c.requires.closing_registry_len; finds = rw (← c.current_epoch-current.ensures, ← c.previous_epoch-previous.ensures) c.survey_registry-found.ensures }

pub returns : goal.returns
returns c =
    record { under = λ r u z. full_steps_closed _ (call r c.args.finality c.args.queue c.args.registry.now c.args.slashings.now c.args.roots.now c.args.closing_registry.now c.args.closing_slashings.now c.args.amounts.now) (sym (tested r (goal.at.returns c).After-first_refusal z) ∙ c.in_default.is) u c.full_surveyed.ensures }

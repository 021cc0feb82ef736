use mathlib.Core.Path.{refl}
use Rattle.definitions.specs.declared.ActivationLimit.TheVariants.{Churn}
use Rattle.refusals.proofs.Laws.{good-settings}
use Rattle.exit_queue.proofs.Tracks.{tracks-start}
use Rattle.registry.proofs.Epochs.{epochs}
use Rattle.registry.proofs.Step.{counted-limit, step_by_lem}
use Rattle.close_by_steps.proofs.later_steps.Later.{ran-whole}
use native.Mathlib.Omega.{arith}
use Rattle.close_by_steps.proofs.later_steps.registry_core.Goals as goal

pub current_epoch-epoch-requires : goal.current_epoch-epoch-requires
current_epoch-epoch-requires c = (good-settings _ c.requires.s_value).positive.slots_per_epoch

pub previous_epoch-previous-requires : goal.previous_epoch-previous-requires
previous_epoch-previous-requires c = (good-settings _ c.requires.s_value).positive.slots_per_epoch

pub survey_registry-found-requires : goal.survey_registry-found-requires
survey_registry-found-requires c = let p = epochs _ _ c.requires.s_value c.requires.state_slot_bound.0 in record { registry_len = c.requires.registry_len; current_epoch_bound = omega (arith, p.small, c.current_epoch-epoch.ensures); kept_len = c.requires.kept_len }

pub churn_by-limit-requires : goal.churn_by-limit-requires
churn_by-limit-requires c = (good-settings _ c.requires.s_value).positive.churn_limit_quotient

pub cut_queue-cut-requires : goal.cut_queue-cut-requires
cut_queue-cut-requires c = let p = epochs _ _ c.requires.s_value c.requires.state_slot_bound.0 in record { registry_len = c.requires.registry_len; epoch_bound = (omega (arith, p.small, c.current_epoch-epoch.ensures), omega (arith, c.requires.state_slot_bound.1)); smallest = c.survey_registry-found.ensures.waiting }

pub overflow_add-least : goal.overflow_add-least
overflow_add-least c =
    let p = epochs _ _ c.requires.s_value c.requires.state_slot_bound.0 in
    omega (arith, p.fits, c.current_epoch-epoch.ensures)

pub overflow_add-least-2 : goal.overflow_add-least-2
overflow_add-least-2 c =
    let p = epochs _ _ c.requires.s_value c.requires.state_slot_bound.0 in
    omega (arith, p.fits, c.current_epoch-epoch.ensures)

pub update_by-requires : goal.update_by-requires
update_by-requires c = let p = epochs _ _ c.requires.s_value c.requires.state_slot_bound.0 in let q = (good-settings _ c.requires.s_value).small.max_seed_lookahead in record { registry_len = (c.requires.registry_len, omega (arith, p.small, c.current_epoch-epoch.ensures), q); stop_in_bounds = omega arith; tracks = rw c.start_pair-queue.ensures (tracks-start (omega (arith, p.fits, c.current_epoch-epoch.ensures)) c.survey_registry-found.ensures.queue) }

pub returns : goal.returns
returns c = let limit = counted-limit _ _ _ c.current_epoch-epoch.ensures c.survey_registry-found.ensures.number c.churn_by-limit.ensures in ran-whole _ _ _ _ c.requires.registry_len (rw (step_by_lem Churn _ _ _ _ _ (epochs _ _ c.requires.s_value c.requires.state_slot_bound.0) c.current_epoch-epoch.ensures limit refl) (c.update_by.ensures.under _ c.cut_queue-cut.ensures))

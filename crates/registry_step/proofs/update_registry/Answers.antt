use mathlib.Core.Path.{sym, ap, ◌∙◌}
use Prim.Native.Nat.{ℕ}
use native.Mathlib.Omega.{arith}
use lib.ListN.{length}
use Rattle.definitions.specs.Record.{decode}
use Rattle.definitions.specs.Rust.Phase0.Helpers.{get_active_validator_indices}
use Rattle.refusals.proofs.Laws.{good-settings}
use Rattle.exit_queue.proofs.Tracks.{tracks-start}
use Rattle.exit_queue.proofs.QueueOf.{tracks-queue}
use Rattle.registry.proofs.Epochs.{epochs}
use Rattle.registry.proofs.Step.{counted-limit, step_by_lem}
use Rattle.registry_step.proofs.update_registry.Goals as goal

pub current_epoch-epoch-requires : goal.current_epoch-epoch-requires
current_epoch-epoch-requires c = (good-settings _ c.requires.s_value).positive.slots_per_epoch

pub churn_by-churn-requires : goal.churn_by-churn-requires
churn_by-churn-requires c = (good-settings _ c.requires.s_value).positive.churn_limit_quotient

pub cut_queue-cut-requires : goal.cut_queue-cut-requires
cut_queue-cut-requires c =
    let e = c.current_epoch-epoch.ensures in
    record { registry_len = c.requires.opening_len.0; epoch_bound = (omega (arith, (epochs _ _ c.requires.s_value c.requires.state_slot_bound.0).small, e), omega (arith, c.requires.state_slot_bound.1)); smallest = rw e c.requires.finds.waiting }

pub overflow_add-least : goal.overflow_add-least
overflow_add-least c = omega (arith, (epochs _ _ c.requires.s_value c.requires.state_slot_bound.0).fits, c.current_epoch-epoch.ensures)

pub overflow_add-least-2 : goal.overflow_add-least-2
overflow_add-least-2 c = omega (arith, (epochs _ _ c.requires.s_value c.requires.state_slot_bound.0).fits, c.current_epoch-epoch.ensures)

pub update_by-requires : goal.update_by-requires
update_by-requires c =
    let e = c.current_epoch-epoch.ensures in
    let p = epochs _ _ c.requires.s_value c.requires.state_slot_bound.0 in
    rw c.requires.opening_len.1
    record {
      registry_len = (c.requires.opening_len.0, omega (arith, p.small, e), (good-settings _ c.requires.s_value).small.max_seed_lookahead);
      stop_in_bounds = c.requires.stop_in_bounds;
      tracks = rw c.start_pair-start.ensures (tracks-start (omega (arith, p.fits, e)) (rw (sym c.requires.queue_value) at (tracks-queue (decode c.args.opening.now))));
    }

pub returns : goal.returns
returns c =
    let e = c.current_epoch-epoch.ensures in
    let active = c.requires.finds.number ∙ ap (λ (x : ℕ). length (get_active_validator_indices (decode c.args.opening.now) x)) (sym e) in
    let limit = counted-limit _ _ _ e active c.churn_by-churn.ensures in
    let updated = rw c.requires.opening_len.1 at c.update_by.ensures in
    rw (step_by_lem c.args.limit _ _ _ _ _ (epochs _ _ c.requires.s_value c.requires.state_slot_bound.0) e limit c.activation_limit-most.ensures) (updated.under _ c.cut_queue-cut.ensures)

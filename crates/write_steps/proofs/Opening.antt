-- The pass from what a survey of the opening found: the exit queue's pair and the cut of the opening do for the registry's step.
use mathlib.Core.Path.{◌≡◌, refl, sym, ap, ◌∙◌}
use mathlib.Core.List.{List, map}
use Prim.Native.Nat.{ℕ}
use lib.ListN.{length}
use Rattle.definitions.specs.declared.Settings.{Settings}
use Rattle.definitions.specs.Lists.{range}
use Rattle.definitions.specs.Record.{Validator}
use Rattle.definitions.specs.Checked.{Checked, value, refused, bind, map_checked, fold_checked}
use Rattle.definitions.specs.Document.Phase0.EpochProcessing.{dequeued}
use Rattle.laws.specs.Cut.{CutAt, eligible_now}
use Rattle.laws.proofs.ActivationQueue.Dequeued.{dequeued-is}
use Rattle.definitions.specs.declared.ExitQueue.{ExitQueue}
use Rattle.exit_queue.specs.Queue.{Tracks}
use Rattle.registry.specs.Updates.{update_at}
use Rattle.write_turn.specs.Sweep.{Moved, sweep, last, dropped}
use Rattle.write_turn.proofs.Sweeps.Fused.{swept_first}
use Rattle.write_turn.proofs.Sweeps.Follows.{followed}
use Rattle.arithmetic.proofs.Operations.{only-value, only-bind}
use Rattle.write_turn.specs.declared.Plan.{Plan}
use Rattle.write_turn.specs.Planned.{last_by}
use Rattle.write_turn.specs.declared.Course.{Course}
use Rattle.write_turn.specs.Written.{pay_of, move_with, written_with}
use Rattle.write_steps.proofs.Only.{only_pay, only-last}
use Rattle.write_steps.proofs.Passes.{turns, admits, moved-last, only_move, turns-follow}
use Rattle.write_steps.proofs.Seen.{seen, seen_now, opening-seen, cut-kept, pay_seen, turns-seen}
use Rattle.write_steps.proofs.Tracked.{pay_tracked}
use Rattle.laws.proofs.Frame.Entries.{kept_map}

module _ (s : Settings) (p : Plan) (t : Course) (most quota : ℕ) (vs : List Validator) (cut : CutAt most t.finalized_epoch (eligible_now s p.shared.current_epoch vs) t.bound quota) where
  abbrev f : ℕ
  f = t.finalized_epoch

  abbrev epoch : ℕ
  epoch = p.shared.current_epoch

  -- the document's sorted queue
  abbrev lets : List Validator → List Validator
  lets queued = dequeued t.activation_epoch most f queued

  let_in : (queued : List Validator) → map (seen f) queued ≡ map (seen_now s epoch f) vs → admits s p t quota queued ≡ lets queued
  let_in queued e =
      (cut-kept queued cut (e ∙ opening-seen s epoch f vs)).same t.activation_epoch (length queued) ∙ sym (dequeued-is t.activation_epoch most f queued)

  later : (q : ExitQueue) (paid : List Validator) → map (seen_now s epoch f) paid ≡ map (seen_now s epoch f) vs → dropped (sweep (last (move_with s epoch t) (last_by s p)) (q, quota) paid) ≡ bind (dropped (turns s p t q paid)) (λ queued. map_checked (last_by s p) (lets queued))
  unfolding bind
  later q paid e = moved-last s p t q quota paid ∙ go (turns s p t q paid) refl
    where
      go : (m : Checked (Moved ExitQueue (List Validator))) → turns s p t q paid ≡ m → bind (dropped m) (λ queued. map_checked (last_by s p) (admits s p t quota queued)) ≡ bind (dropped m) (λ queued. map_checked (last_by s p) (lets queued))
      go (value m) h = ap (map_checked (last_by s p)) (let_in m.held (turns-seen s epoch f t.limit q paid h ∙ e))
      go (refused r) h = refl

  -- Scores and rewards; eligibility and ejection, with a rescan of the registry at each exit; the first of the sorted queue; the last three
  pub closing-is : {least : ℕ} {q : ExitQueue} → Tracks least vs q → dropped (sweep (written_with s p t) (q, quota) vs) ≡ bind (map_checked (pay_of s p) vs) (λ paid. bind (fold_checked (update_at s epoch least t.limit) paid (range 0 (length paid))) (λ queued. map_checked (last_by s p) (lets queued)))
  unfolding bind
  closing-is {least} {q} tracks =
      ap dropped (swept_first (only_pay s p) (λ c v. only-bind (only_move s p t c v) (λ m. only-bind (only-last s p m.held) (λ w. only-value _))) (q, quota) vs)
      ∙ go (map_checked (pay_of s p) vs) refl
    where
      go : (m : Checked (List Validator)) → map_checked (pay_of s p) vs ≡ m → dropped (bind m (sweep (last (move_with s epoch t) (last_by s p)) (q, quota))) ≡ bind m (λ paid. bind (fold_checked (update_at s epoch least t.limit) paid (range 0 (length paid))) (λ queued. map_checked (last_by s p) (lets queued)))
      go (value paid) e =
          later q paid (kept_map (pay_of s p) (seen_now s epoch f) (pay_seen s epoch f p) vs e)
          ∙ ap (λ (m : Checked (List Validator)). bind m (λ queued. map_checked (last_by s p) (lets queued))) (sym (followed (turns-follow s epoch t.limit least) paid q (pay_tracked s p vs paid tracks e)))
      go (refused r) e = refl

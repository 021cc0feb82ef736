-- The steps over the registry, one after the other as the Rust has them, are the one pass from the opening.
use mathlib.Core.Path.{◌≡◌, refl, sym, ap, subst, ◌∙◌}
use mathlib.Core.Bool.{Bool, true, false, cond}
use mathlib.Core.List.{List, [], ◌∷◌}
use Prim.Native.Nat.{ℕ, ◌/◌, max}
use native.Mathlib.Omega.{arith}
use borrow.Author.Tests.{eqb-true, eq-eqb}
use lib.Dec.{eqb}
use lib.ListN.{length}
use Rattle.definitions.specs.declared.Settings.{Settings}
use Rattle.definitions.specs.declared.ActivationLimit.{ActivationLimit}
use Rattle.definitions.specs.Lists.{range, sum}
use Rattle.definitions.specs.Record.{Validator}
use Rattle.definitions.specs.Checked.{Checked, value, refused, bind, map_checked, fold_checked}
use Rattle.definitions.specs.Document.Phase0.EpochProcessing.{dequeued}
use Rattle.definitions.specs.Rust.Phase0.Helpers.{get_current_epoch, get_previous_epoch, is_active_validator, get_active_validator_indices, get_total_active_balance, get_validator_churn_limit}
use Rattle.definitions.specs.Rust.Phase0.EpochProcessing.{is_in_inactivity_leak, activation_limit, limited_registry_updates}
use Rattle.definitions.specs.Rust.Altair.EpochProcessing.{process_inactivity_updates, process_rewards_and_penalties}
use Rattle.laws.specs.Ran.{Ran}
use Rattle.laws.proofs.Loops.Filtered.{length-filter}
use Rattle.registry.specs.Updates.{least_exit, update_at}
use Rattle.registry.proofs.Epochs.{Epochs}
use Rattle.registry.proofs.Churn.{updates_by-numbers, limit-kept}
use Rattle.registry.proofs.Total.{total_kept}
use Rattle.laws.specs.Cut.{CutAt, eligible_now}
use Rattle.definitions.specs.declared.ExitQueue.{ExitQueue}
use Rattle.exit_queue.specs.Queue.{Tracks}
use Rattle.slashings.specs.Adjusted.{adjusted_balance}
use Rattle.balances.specs.declared.effective_balances.Thresholds.{Thresholds}
use Rattle.balances.specs.Thresholds.{thresholds_of}
use Rattle.survey.specs.declared.Totals.{Totals}
use Rattle.survey.specs.Sums.{TotalsOf}
use Rattle.write_turn.specs.Sweep.{sweep, dropped}
use Rattle.write_turn.specs.declared.Plan.{Plan}
use Rattle.write_turn.specs.Planned.{paid_by, last_by}
use Rattle.write_turn.specs.declared.Course.{Course}
use Rattle.write_turn.specs.Written.{pay_of, written_with}
use Rattle.write_steps.specs.RegistrySteps.{registry_steps, last_steps}
use Rattle.write_steps.specs.Numbers.{plan_of, PlanFor, Found, RanUnder}
use Rattle.write_steps.proofs.Leak.{leak-some}
use Rattle.write_steps.proofs.Kept.{totals-kept}
use Rattle.write_steps.proofs.Rewards.{no-scores, no-rewards, one_pass}
use Rattle.write_steps.proofs.Last.{as_one}
use Rattle.write_steps.proofs.Tracked.{pay_bare}
use Rattle.write_steps.proofs.Opening.{closing-is}
use Rattle.laws.proofs.Frame.Entries.{kept_map}
use Rattle.laws.proofs.Checked.{bind-bind, map-alike}

map-none : (f : Validator → Checked Validator) → ((v : Validator) → f v ≡ value v) → (vs : List Validator) → map_checked f vs ≡ value vs
unfolding map_checked bind
map-none f h [] = refl
map-none f h (v ∷ vs) = rw (h v, map-none f h vs)

grouped : (by : ActivationLimit) (s : Settings) (state_slot finalized_epoch : ℕ) (slashings : List ℕ) (vs : List Validator) → registry_steps by s state_slot finalized_epoch slashings vs ≡ bind (bind (process_inactivity_updates s state_slot finalized_epoch vs) (process_rewards_and_penalties s s.inactivity_penalty_quotient_altair state_slot finalized_epoch)) (λ paid. bind (limited_registry_updates by s state_slot finalized_epoch paid) (λ updated. last_steps s s.proportional_slashing_multiplier_altair state_slot slashings updated))
unfolding registry_steps last_steps
grouped by s state_slot finalized_epoch slashings vs = sym (bind-bind _ _ _)

module _ (s : Settings) (slot fin : ℕ) (ep : Epochs s slot) (totals : Totals) (leaking : Bool) (a b c : Checked ℕ) (adjusted : ℕ) (thresholds : Thresholds) where
  abbrev current : ℕ
  current = get_current_epoch s slot

  abbrev previous : ℕ
  previous = get_previous_epoch s slot

  abbrev quotient : ℕ
  quotient = s.inactivity_penalty_quotient_altair

  abbrev multiplier : ℕ
  multiplier = s.proportional_slashing_multiplier_altair

  abbrev pub plan : Plan
  plan = plan_of s current previous leaking totals a b c adjusted thresholds.downward thresholds.upward

  pub pays : (vs : List Validator) → TotalsOf s current previous vs totals → ((current ≡ 0 → ⊥) → is_in_inactivity_leak s slot fin ≡ value leaking) → bind (process_inactivity_updates s slot fin vs) (process_rewards_and_penalties s quotient slot fin) ≡ map_checked (pay_of s plan) vs
  unfolding bind
  pays vs h leak = go (eqb current 0) refl
    where
      go : (t : Bool) → eqb current 0 ≡ t → bind (process_inactivity_updates s slot fin vs) (process_rewards_and_penalties s quotient slot fin) ≡ map_checked (pay_of s plan) vs
      go true e =
          let z = eqb-true current 0 e in
          rw (no-scores s quotient slot fin refl vs z) (no-rewards s quotient slot fin refl vs z ∙ sym (map-none (pay_of s plan) (λ v. rw e) vs))
      go false e =
          let n : current ≡ 0 → ⊥ = λ z. mathlib.Core.Bool.true≢false (sym (eq-eqb current 0 z) ∙ e) in
          one_pass s quotient slot fin refl n refl (leak n) totals h ∙ sym (map-alike {f = pay_of s plan} {g = paid_by s plan} (λ v. rw e) vs)

  churn-paid : (vs paid : List Validator) → map_checked (pay_of s plan) vs ≡ value paid → get_validator_churn_limit s slot paid ≡ get_validator_churn_limit s slot vs
  unfolding get_validator_churn_limit get_active_validator_indices is_active_validator
  churn-paid vs paid e =
      let on : Validator → Bool = λ v. is_active_validator v current in
      let same = kept_map {B = ℕ} (pay_of s plan) (λ v. cond (on v) 1 0) (λ v w h. ap (λ (u : Validator). cond (on u) 1 0) (pay_bare s plan v w h)) vs e in
      ap (λ (k : ℕ). max s.min_per_epoch_churn_limit (k / s.churn_limit_quotient)) (length-filter on paid ∙ ap sum same ∙ sym (length-filter on vs))

  registered : (by : ActivationLimit) (limit : ℕ) (paid : List Validator) → get_validator_churn_limit s slot paid ≡ limit → limited_registry_updates by s slot fin paid ≡ bind (fold_checked (update_at s current (least_exit s current) limit) paid (range 0 (length paid))) (λ queued. value (dequeued (least_exit s current) (activation_limit by limit) fin queued))
  unfolding limited_registry_updates bind
  registered by limit paid churn = rw (ep.least, updates_by-numbers s slot ep.least ep.small (omega arith) paid churn (range 0 (length paid))) (go (fold_checked (update_at s current (least_exit s current) limit) paid (range 0 (length paid))) refl)
    where
      go : (m : Checked (List Validator)) → fold_checked (update_at s current (least_exit s current) limit) paid (range 0 (length paid)) ≡ m → bind m (λ queued. value (dequeued (least_exit s current) (activation_limit by (get_validator_churn_limit s slot queued)) fin queued)) ≡ bind m (λ queued. value (dequeued (least_exit s current) (activation_limit by limit) fin queued))
      go (value queued) e = ap (λ (k : ℕ). value (dequeued (least_exit s current) k fin queued)) (ap (λ (n : ℕ). activation_limit by n) (limit-kept s slot ep.least ep.small (omega arith) limit paid (range 0 (length paid)) e ∙ churn))
      go (refused r) e = refl

  module _ (slashings : List ℕ) (times : adjusted_balance multiplier totals.active slashings ≡ value adjusted) (limits : thresholds_of s ≡ value thresholds) where
    lastly : (updated : List Validator) → get_total_active_balance s slot updated ≡ value totals.active → last_steps s multiplier slot slashings updated ≡ map_checked (last_by s plan) updated
    unfolding bind
    lastly updated h = as_one s multiplier slot totals.active slashings updated h ∙ rw (times, limits)

    pub steps-are : (by : ActivationLimit) (t : Course) (q : ExitQueue) (quota : ℕ) (vs : List Validator) → TotalsOf s current previous vs totals → ((current ≡ 0 → ⊥) → is_in_inactivity_leak s slot fin ≡ value leaking) → t.finalized_epoch ≡ fin → t.activation_epoch ≡ least_exit s current → get_validator_churn_limit s slot vs ≡ t.limit → Tracks (least_exit s current) vs q → CutAt (activation_limit by t.limit) t.finalized_epoch (eligible_now s current vs) t.bound quota → registry_steps by s slot fin slashings vs ≡ dropped (sweep (written_with s plan t) (q, quota) vs)
    unfolding bind get_total_active_balance
    steps-are by t q quota vs h leak is_fin is_least churn tracks cut =
        grouped by s slot fin slashings vs ∙ rw (pays vs h leak) (go (map_checked (pay_of s plan) vs) refl) ∙ sym (closing-is s plan t (activation_limit by t.limit) quota vs cut tracks)
      where
        lets : List Validator → List Validator
        lets queued = dequeued t.activation_epoch (activation_limit by t.limit) t.finalized_epoch queued

        go : (m : Checked (List Validator)) → map_checked (pay_of s plan) vs ≡ m → bind m (λ paid. bind (limited_registry_updates by s slot fin paid) (λ updated. last_steps s multiplier slot slashings updated)) ≡ bind m (λ paid. bind (fold_checked (update_at s current (least_exit s current) t.limit) paid (range 0 (length paid))) (λ queued. map_checked (last_by s plan) (dequeued t.activation_epoch (activation_limit by t.limit) t.finalized_epoch queued)))
        go (refused r) e = refl
        go (value paid) e = rw (is_fin, is_least, is) (later (fold_checked (update_at s current (least_exit s current) t.limit) paid (range 0 (length paid))) refl)
          where
            is : limited_registry_updates by s slot fin paid ≡ bind (fold_checked (update_at s current (least_exit s current) t.limit) paid (range 0 (length paid))) (λ queued. value (dequeued (least_exit s current) (activation_limit by t.limit) fin queued))
            is = registered by t.limit paid (churn-paid vs paid e ∙ churn)

            later : (m : Checked (List Validator)) → fold_checked (update_at s current (least_exit s current) t.limit) paid (range 0 (length paid)) ≡ m → bind (bind m (λ queued. value (dequeued (least_exit s current) (activation_limit by t.limit) fin queued))) (λ updated. last_steps s multiplier slot slashings updated) ≡ bind m (λ queued. map_checked (last_by s plan) (dequeued (least_exit s current) (activation_limit by t.limit) fin queued))
            later (value queued) k =
                let updated = dequeued (least_exit s current) (activation_limit by t.limit) fin queued in
                let done : limited_registry_updates by s slot fin paid ≡ value updated = is ∙ ap (λ (m : Checked (List Validator)). bind m (λ queued. value (dequeued (least_exit s current) (activation_limit by t.limit) fin queued))) k in
                lastly updated (total_kept s slot fin ep by paid done ∙ (totals-kept (pay_of s plan) vs e (pay_bare s plan) s current previous h).active)
            later (refused r) k = refl

-- The same of what the code has: the numbers as they were told
module _ {s : Settings} {slot fin : ℕ} (ep : Epochs s slot) (slashings : List ℕ) {vs : List Validator} where
  pub steps-run : {t : Totals} {q : ExitQueue} (course : Course) {quota : ℕ} → Found s slot vs t course.limit q → course.finalized_epoch ≡ fin → course.activation_epoch ≡ least_exit s (get_current_epoch s slot) → {p : Plan} → PlanFor s slot fin t slashings p → {xs : List ℕ} {r : Checked (Unit {0})} → Ran (dropped (sweep (written_with s p course) (q, quota) vs)) xs r → RanUnder s slot fin slashings vs course.limit course.bound quota xs r
  steps-run {t} {q} course {quota} found is_fin is_least {p} plan {xs} {r} ran =
      record {
        under = λ by cut.
            let are = steps-are s slot fin ep t plan.leaking p.shared.per_increment p.shared.denominator p.product plan.adjusted plan.thresholds slashings plan.times plan.limits by course q quota vs found.totals (λ n. sym (leak-some s slot fin n) ∙ plan.leak) is_fin is_least found.churn found.queue (rw is_fin cut) in
            subst (λ k. Ran k xs r) (ap (λ (p : Plan). dropped (sweep (written_with s p course) (q, quota) vs)) plan.makes.is ∙ sym are) ran;
      }

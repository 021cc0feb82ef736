-- Scores and rewards as one pass, from the totals of the opening.
use mathlib.Core.Path.{◌≡◌, refl, sym, ◌∙◌}
use mathlib.Core.Bool.{Bool}
use mathlib.Core.List.{List}
use Prim.Native.Nat.{ℕ}
use borrow.Author.Tests.{ne_eqb}
use Rattle.definitions.specs.declared.Settings.{Settings}
use Rattle.definitions.specs.Checked.{Checked, value, refused, bind, map_checked}
use Rattle.definitions.specs.Record.{Validator}
use Rattle.definitions.specs.Rust.Phase0.EpochProcessing.{is_in_inactivity_leak}
use Rattle.definitions.specs.Rust.Phase0.Helpers.{get_current_epoch, get_previous_epoch, get_total_active_balance}
use Rattle.definitions.specs.Rust.Altair.Helpers.{get_unslashed_participating_indices, flag_totals}
use Rattle.definitions.specs.Rust.Altair.EpochProcessing.{update_inactivity_score, reward_and_penalize, process_inactivity_updates, process_rewards_and_penalties}
use Rattle.rewards_step.specs.Totals.{flag_totals_of}
use Rattle.write_turn.specs.Runs.{both}
use Rattle.write_turn.proofs.Sweeps.Pure.{fused}
use Rattle.survey.specs.declared.Totals.{Totals}
use Rattle.survey.specs.Sums.{TotalsOf}
use Rattle.write_steps.proofs.Kept.{score-keeps, totals-kept}
use Rattle.write_steps.proofs.Only.{only-score, only_reward}

module _ (s : Settings) (quotient state_slot finalized_epoch : ℕ) {current : ℕ} (e : current ≡ get_current_epoch s state_slot) where
  -- both steps
  abbrev pub scored_and_rewarded : List Validator → Checked (List Validator)
  scored_and_rewarded vs = bind (process_inactivity_updates s state_slot finalized_epoch vs) (process_rewards_and_penalties s quotient state_slot finalized_epoch)

  pub no-scores : (vs : List Validator) → current ≡ 0 → process_inactivity_updates s state_slot finalized_epoch vs ≡ value vs
  unfolding process_inactivity_updates
  no-scores vs z = rw (← e, z)

  pub no-rewards : (vs : List Validator) → current ≡ 0 → process_rewards_and_penalties s quotient state_slot finalized_epoch vs ≡ value vs
  unfolding process_rewards_and_penalties
  no-rewards vs z = rw (← e, z)

  module _ (n : current ≡ 0 → ⊥) where
    module _ {previous : ℕ} (p : previous ≡ get_previous_epoch s state_slot) {leaking : Bool} (leak : is_in_inactivity_leak s state_slot finalized_epoch ≡ value leaking) where
      pub scores : (vs : List Validator) → process_inactivity_updates s state_slot finalized_epoch vs ≡ map_checked (update_inactivity_score s current previous leaking) vs
      unfolding process_inactivity_updates bind
      scores vs = rw (← e, ← p, ne_eqb _ _ n, leak)

      module _ (t : Totals) where
        abbrev pub rewards_by : Validator → Checked Validator
        rewards_by = reward_and_penalize s quotient current previous (flag_totals_of s t.source t.active leaking) (flag_totals_of s t.target t.active leaking) (flag_totals_of s t.head t.active leaking)

        rewards : {vs : List Validator} → TotalsOf s current previous vs t → process_rewards_and_penalties s quotient state_slot finalized_epoch vs ≡ map_checked rewards_by vs
        unfolding process_rewards_and_penalties flag_totals get_unslashed_participating_indices get_total_active_balance bind
        rewards h = rw (← e, ← p, ne_eqb _ _ n, h.source, h.active, leak, h.target, h.head)

        -- the rewards read the totals of the registry that the scores left, which are the opening's
        pub one_pass : {vs : List Validator} → TotalsOf s current previous vs t → scored_and_rewarded vs ≡ map_checked (both (update_inactivity_score s current previous leaking) rewards_by) vs
        unfolding bind
        one_pass {vs} h = rw (scores vs) (go (map_checked f vs) refl ∙ sym (fused (only-score s current previous leaking) (only_reward s quotient current previous _ _ _) vs))
          where
            f : Validator → Checked Validator
            f = update_inactivity_score s current previous leaking

            go : (m : Checked (List Validator)) → map_checked f vs ≡ m → bind m (process_rewards_and_penalties s quotient state_slot finalized_epoch) ≡ bind m (map_checked rewards_by)
            go (value ws) q = rewards (totals-kept f vs q (score-keeps s current previous leaking) s current previous h)
            go (refused r) q = refl

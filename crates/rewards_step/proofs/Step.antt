-- The step from the numbers that all validators share.
use mathlib.Core.Bool.{Bool}
use mathlib.Core.List.{List}
use mathlib.Core.Path.{◌≡◌, refl, ap, ◌∙◌}
use Prim.Native.Nat.{ℕ, ◌≤◌}
use borrow.Author.Tests.{ne_eqb}
use Rattle.definitions.specs.declared.Settings.{Settings}
use Rattle.definitions.specs.Checked.{Checked, value, refused, bind, map_checked}
use Rattle.definitions.specs.declared.Refusal.{Refusal}
use Rattle.definitions.specs.Lists.{filter}
use Rattle.definitions.specs.Record.{Validator, encode}
use Rattle.definitions.specs.Rust.Phase0.EpochProcessing.{is_in_inactivity_leak}
use Rattle.definitions.specs.Rust.Phase0.Helpers.{get_current_epoch, get_previous_epoch, get_active_validator_indices, get_total_balance, get_total_active_balance}
use Rattle.definitions.specs.Rust.Altair.Helpers.{is_unslashed_participating, get_unslashed_participating_indices, FlagTotals, flag_totals}
use Rattle.definitions.specs.Rust.Altair.EpochProcessing.{reward_and_penalize, process_rewards_and_penalties}
use Rattle.arithmetic.proofs.Laws.{bind-value, bind-refused}
use Rattle.arithmetic.proofs.Operations.{OnlyOverflow, only-value, only-bind}
use Rattle.totals.proofs.Sums.{only-total}
use Rattle.finality.proofs.Passed.{only-leak}
use Rattle.laws.specs.Ran.{Ran}
use Rattle.laws.proofs.Checked.{bound, value_same}
use Rattle.laws.proofs.Loops.Ran.{ran-value, ran-refused}
use Rattle.rewards_step.specs.declared.StepTotals.{StepTotals}
use Rattle.rewards_step.specs.Totals.{flag_totals_of, source_totals, target_totals, head_totals}
use Rattle.rewards_step.specs.Step.{step_totals}
use Rattle.rewards_step.proofs.flag_rewards.Totals.{total-least}

-- the total and the leak are the same for the three flags
once : {E : Type 0} (s : Settings) (a t : Checked ℕ) (l : Checked Bool) (b c : Checked ℕ) (k : FlagTotals → FlagTotals → FlagTotals → Checked E) → bind (bind a (λ x. bind t (λ y. bind l (λ z. value (flag_totals_of s x y z))))) (λ source. bind (bind b (λ x. bind t (λ y. bind l (λ z. value (flag_totals_of s x y z))))) (λ target. bind (bind c (λ x. bind t (λ y. bind l (λ z. value (flag_totals_of s x y z))))) (λ head. k source target head))) ≡ bind (bind a (λ x. bind t (λ y. bind l (λ z. bind b (λ v. bind c (λ w. value (record { source = x; target = v; head = w; total = y; leaking = z }))))))) (λ (t : StepTotals). k (source_totals s t) (target_totals s t) (head_totals s t))
unfolding bind
once s (refused r) t l b c k = refl
once s (value x) (refused r) l b c k = refl
once s (value x) (value y) (refused r) b c k = refl
once s (value x) (value y) (value z) (refused r) c k = refl
once s (value x) (value y) (value z) (value v) (refused r) k = refl
once s (value x) (value y) (value z) (value v) (value w) k = refl

module _ (s : Settings) (state_slot finalized_epoch current previous : ℕ) (vs : List Validator) where
  abbrev flagged : ℕ → Checked ℕ
  flagged flag_index = get_total_balance s (filter (is_unslashed_participating current flag_index previous) vs)

  abbrev active : Checked ℕ
  active = get_total_balance s (get_active_validator_indices vs current)

  abbrev leak : Checked Bool
  leak = is_in_inactivity_leak s state_slot finalized_epoch

  abbrev totals : Checked StepTotals
  totals = step_totals s state_slot finalized_epoch current previous vs

  pub only-totals : OnlyOverflow totals
  unfolding step_totals
  only-totals =
      only-bind (only-total _ _) (λ a. only-bind (only-total _ _) (λ b. only-bind (only-leak _ _ _) (λ c. only-bind (only-total _ _) (λ d. only-bind (only-total _ _) (λ e. only-value _)))))

  pub totals-least : {t : StepTotals} → totals ≡ value t → s.effective_balance_increment ≤ t.total
  unfolding step_totals
  totals-least h =
      let a = bound (flagged 0) _ h in
      let b = bound active _ a.then in
      let c = bound leak _ b.then in
      let d = bound (flagged 1) _ c.then in
      let e = bound (flagged 2) _ d.then in
      rw (← ap (λ (t : StepTotals). t.total) (value_same e.then)) (total-least _ _ b.gave)

module _ (s : Settings) (state_slot finalized_epoch : ℕ) (vs : List Validator) {current previous : ℕ} (e : current ≡ get_current_epoch s state_slot) (p : previous ≡ get_previous_epoch s state_slot) where
  -- what is worked out from the three flags' totals is worked out from the step's
  pub by-totals : {E : Type 0} (k : FlagTotals → FlagTotals → FlagTotals → Checked E) → bind (flag_totals s state_slot finalized_epoch vs 0) (λ source. bind (flag_totals s state_slot finalized_epoch vs 1) (λ target. bind (flag_totals s state_slot finalized_epoch vs 2) (λ head. k source target head))) ≡ bind (step_totals s state_slot finalized_epoch current previous vs) (λ t. k (source_totals s t) (target_totals s t) (head_totals s t))
  unfolding step_totals flag_totals get_unslashed_participating_indices get_total_active_balance
  by-totals k = rw (← e, ← p) (once s _ _ _ _ _ k)

  module _ (quotient : ℕ) (n : current ≡ 0 → ⊥) where
    abbrev rewarded : StepTotals → Checked (List Validator)
    rewarded t = map_checked (reward_and_penalize s quotient current previous (source_totals s t) (target_totals s t) (head_totals s t)) vs

    rewards-are : process_rewards_and_penalties s quotient state_slot finalized_epoch vs ≡ bind (step_totals s state_slot finalized_epoch current previous vs) rewarded
    unfolding process_rewards_and_penalties
    rewards-are = rw (← e, ← p, ne_eqb _ _ n) (by-totals (λ source target head. map_checked (reward_and_penalize s quotient current previous source target head) vs))

    pub rewards-refused : {p : Refusal} → step_totals s state_slot finalized_epoch current previous vs ≡ refused p → {xs : List ℕ} → Ran (process_rewards_and_penalties s quotient state_slot finalized_epoch vs) xs (refused p)
    rewards-refused h = ran-refused (rewards-are ∙ bind-refused rewarded h)

    pub rewards-by : {t : StepTotals} → step_totals s state_slot finalized_epoch current previous vs ≡ value t → {xs : List ℕ} {r : Checked (Unit {0})} → Ran (rewarded t) xs r → Ran (process_rewards_and_penalties s quotient state_slot finalized_epoch vs) xs r
    rewards-by h k = rw (rewards-are, bind-value rewarded h) k

pub rewards-genesis : (s : Settings) (quotient state_slot finalized_epoch : ℕ) (vs : List Validator) {current : ℕ} → current ≡ get_current_epoch s state_slot → current ≡ 0 → {xs : List ℕ} → xs ≡ encode vs → Ran (process_rewards_and_penalties s quotient state_slot finalized_epoch vs) xs (value tt)
unfolding process_rewards_and_penalties
rewards-genesis s quotient state_slot finalized_epoch vs e z h = rw (← e, z) (ran-value h)

-- Every refusal of what the pass does to one validator is 5.
use mathlib.Core.Path.{◌≡◌, refl}
use mathlib.Core.Bool.{Bool}
use mathlib.Core.List.{List, [], ◌∷◌}
use Prim.Native.Nat.{ℕ}
use lib.Dec.{leb, ltb, eqb}
use lib.ListN.{length, get_or, set}
use Rattle.definitions.specs.declared.Settings.{Settings}
use Rattle.definitions.specs.declared.ActivationLimit.{ActivationLimit}
use Rattle.definitions.specs.Lists.{maximum, range}
use Rattle.definitions.specs.Record.{Validator, FAR_FUTURE_EPOCH, GENESIS_EPOCH, nobody, is_slashed}
use Rattle.definitions.specs.Checked.{Checked, value, refused, fold_checked}
use Rattle.definitions.specs.Document.Phase0.Helpers.{exit_epochs, exit_queue_churn}
use Rattle.definitions.specs.Document.Phase0.EpochProcessing.{queue_eligible, is_ejected}
use Rattle.definitions.specs.Rust.Phase0.EpochProcessing.{is_eligible, update_registry_at, limited_registry_updates, update_effective_balance, process_effective_balance_updates}
use Rattle.definitions.specs.Rust.Phase0.Helpers.{get_current_epoch, get_total_active_balance, get_validator_churn_limit, compute_activation_exit_epoch, exit_queue_epoch, initiate_validator_exit}
use Rattle.definitions.specs.Rust.Altair.Helpers.{FlagTotals, flag_totals}
use Rattle.definitions.specs.Rust.Altair.EpochProcessing.{update_inactivity_score, reward_and_penalize, is_slashing_due, slash, process_inactivity_updates, process_rewards_and_penalties, process_slashings}
use Rattle.arithmetic.proofs.Operations.{OnlyOverflow, only-value, only-add64, only-mul64, only-sum64, only-bind}
use Rattle.totals.proofs.Sums.{only-total}
use Rattle.finality.proofs.Passed as finality
use Rattle.participation.proofs.inactivity.Scores.{only-moved}
use Rattle.rates.specs.Balances.{rewarded_balance}
use Rattle.rates.proofs.reward_balances.Only.{only-rewarded, only-either}
use Rattle.rates.proofs.reward_balances.Rewarded.{rewarded, not_rewarded}
use Rattle.definitions.specs.declared.ExitQueue.{ExitQueue}
use Rattle.exit_queue.specs.Queue.{exit_by}
use Rattle.exit_queue.proofs.Exiting.{only-next_epoch}
use Rattle.balances.specs.Thresholds.{thresholds_of}
use Rattle.slashings.proofs.Slash.{only-penalty}
use Rattle.registry.specs.Updates.{turn_by}
use Rattle.write_turn.proofs.Sweeps.Pure.{only-map}
use Rattle.write_turn.specs.declared.Plan.{Plan}
use Rattle.write_turn.specs.Planned.{last_by}
use Rattle.write_turn.specs.Written.{pay_of, turn_with}
use Rattle.write_steps.specs.RegistrySteps.{registry_steps}
use Rattle.write_steps.specs.Numbers.{leak_of}

-- scores and rewards

pub only-score : (s : Settings) (current previous : ℕ) (leaking : Bool) (v : Validator) → OnlyOverflow (update_inactivity_score s current previous leaking v)
unfolding update_inactivity_score
only-score s current previous leaking v = only-either (is_eligible previous v) (only-bind (only-moved s _ _) (λ score. only-value _)) (only-value v)

pub only_reward : (s : Settings) (quotient current previous : ℕ) (source target head : FlagTotals) (v : Validator) → OnlyOverflow (reward_and_penalize s quotient current previous source target head v)
only_reward s quotient current previous source target head v = go (rewarded_balance s quotient current previous source target head v) refl
  where
    go : (m : Checked ℕ) → rewarded_balance s quotient current previous source target head v ≡ m → OnlyOverflow (reward_and_penalize s quotient current previous source target head v)
    go (value x) h = rw (rewarded s quotient current previous source target head v h) (only-value _)
    go (refused p) h = rw (not_rewarded s quotient current previous source target head v h, (only-rewarded s quotient current previous source target head v).why p h) (record { why = λ q e. cc })

pub only_pay : (s : Settings) (p : Plan) (v : Validator) → OnlyOverflow (pay_of s p v)
only_pay s p v = only-either (eqb p.shared.current_epoch 0) (only-value v) (only-bind (only-score s _ _ _ v) (only_reward s _ _ _ _ _ _))

-- eligibility and ejection

pub only-turn : (s : Settings) (epoch limit : ℕ) (q : ExitQueue) (v : Validator) → OnlyOverflow (turn_with s epoch limit q v)
unfolding turn_by exit_by
only-turn s epoch limit q v =
    only-bind (only-either (is_ejected s epoch (queue_eligible s epoch v)) (only-either (eqb (queue_eligible s epoch v).exit_epoch FAR_FUTURE_EPOCH) (only-bind (only-next_epoch _ _) (λ exit. only-bind (only-add64 _ _) (λ w. only-value _))) (only-value _)) (only-value _)) (λ w. only-value _)

-- slashings, effective balances and flags

pub only-due : (s : Settings) (epoch : ℕ) (v : Validator) → OnlyOverflow (is_slashing_due s epoch v)
unfolding is_slashing_due
only-due s epoch v = only-either (is_slashed v) (only-bind (only-add64 _ _) (λ due. only-value _)) (only-value _)

pub only-slash : (s : Settings) (epoch total adjusted : ℕ) (v : Validator) → OnlyOverflow (slash s epoch total adjusted v)
unfolding slash
only-slash s epoch total adjusted v =
    only-bind (only-due s epoch v) (λ due. only-either due (only-bind (only-penalty s total adjusted v) (λ penalty. only-value _)) (only-value _))

pub only_update : (s : Settings) (downward upward : ℕ) (v : Validator) → OnlyOverflow (update_effective_balance s downward upward v)
unfolding update_effective_balance
only_update s downward upward v =
    only-bind (only-add64 _ _) (λ low. only-either (ltb low v.effective_balance) (only-value _) (only-bind (only-add64 _ _) (λ high. only-value _)))

pub only-thresholds : (s : Settings) → OnlyOverflow (thresholds_of s)
unfolding thresholds_of
only-thresholds s = only-bind (only-mul64 _ _) (λ downward. only-bind (only-mul64 _ _) (λ upward. only-value _))

pub only-last : (s : Settings) (p : Plan) (v : Validator) → OnlyOverflow (last_by s p v)
only-last s p v = only-bind (only-slash _ _ _ _ v) (λ w. only-bind (only_update s _ _ w) (λ u. only-value _))

-- the leak

pub only-leak : (s : Settings) (slot fin : ℕ) → OnlyOverflow (leak_of s slot fin)
unfolding leak_of
only-leak s slot fin = only-either (eqb (get_current_epoch s slot) 0) (only-value _) (finality.only-leak s slot fin)

-- the steps over the registry

only_fold : {A B : Type 0} {f : B → A → Checked B} → ((b : B) (x : A) → OnlyOverflow (f b x)) → (b : B) (xs : List A) → OnlyOverflow (fold_checked f b xs)
unfolding fold_checked
only_fold h b [] = only-value b
only_fold h b (x ∷ xs) = only-bind (h b x) (λ c. only_fold h c xs)

module _ (s : Settings) (slot : ℕ) where
  abbrev present : ℕ
  present = get_current_epoch s slot

  abbrev limit : List Validator → ℕ
  limit vs = get_validator_churn_limit s slot vs

  only-activation : (epoch : ℕ) → OnlyOverflow (compute_activation_exit_epoch s epoch)
  unfolding compute_activation_exit_epoch
  only-activation epoch = only-bind (only-add64 _ _) (λ next. only-add64 _ _)

  only-exit : (vs : List Validator) (i : ℕ) → OnlyOverflow (initiate_validator_exit s slot vs i)
  unfolding initiate_validator_exit exit_queue_epoch
  only-exit vs i =
      only-either (eqb (get_or vs i nobody).exit_epoch FAR_FUTURE_EPOCH)
      (only-bind
      (only-bind (only-activation present) (λ least. only-either (leb (limit vs) (exit_queue_churn (maximum least (exit_epochs vs)) vs)) (only-add64 _ _) (only-value _)))
      (λ exit. only-bind (only-add64 _ _) (λ w. only-value _)))
      (only-value vs)

  only_at : (vs : List Validator) (i : ℕ) → OnlyOverflow (update_registry_at s slot vs i)
  unfolding update_registry_at
  only_at vs i =
      let queued = set vs i (queue_eligible s present (get_or vs i nobody)) in
      only-either (is_ejected s present (get_or queued i nobody)) (only-exit queued i) (only-value queued)

  pub only-active : (vs : List Validator) → OnlyOverflow (get_total_active_balance s slot vs)
  unfolding get_total_active_balance
  only-active vs = only-total s _

  only-registry : (by : ActivationLimit) (fin : ℕ) (vs : List Validator) → OnlyOverflow (limited_registry_updates by s slot fin vs)
  unfolding limited_registry_updates
  only-registry by fin vs =
      only-bind (only_fold only_at vs (range 0 (length vs))) (λ queued. only-bind (only-activation present) (λ epoch. only-value _))

  only-totals : (fin : ℕ) (vs : List Validator) (index : ℕ) → OnlyOverflow (flag_totals s slot fin vs index)
  unfolding flag_totals
  only-totals fin vs index =
      only-bind (only-total s _) (λ participating. only-bind (only-active vs) (λ active. only-bind (finality.only-leak s slot fin) (λ leaking. only-value _)))

  pub only-inactivity : (fin : ℕ) (vs : List Validator) → OnlyOverflow (process_inactivity_updates s slot fin vs)
  unfolding process_inactivity_updates
  only-inactivity fin vs =
      only-either (eqb present GENESIS_EPOCH) (only-value vs) (only-bind (finality.only-leak s slot fin) (λ leaking. only-map (only-score s _ _ leaking) vs))

  pub only-rewards : (quotient fin : ℕ) (vs : List Validator) → OnlyOverflow (process_rewards_and_penalties s quotient slot fin vs)
  unfolding process_rewards_and_penalties
  only-rewards quotient fin vs =
      only-either (eqb present GENESIS_EPOCH) (only-value vs)
      (only-bind (only-totals fin vs _) (λ source.
      only-bind (only-totals fin vs _) (λ target.
      only-bind (only-totals fin vs _) (λ head. only-map (only_reward s quotient _ _ source target head) vs))))

  only-slashings : (multiplier : ℕ) (ys : List ℕ) (vs : List Validator) → OnlyOverflow (process_slashings s multiplier slot ys vs)
  unfolding process_slashings
  only-slashings multiplier ys vs =
      only-bind (only-active vs) (λ total. only-bind (only-sum64 ys) (λ slashed. only-bind (only-mul64 _ _) (λ product. only-map (only-slash s _ _ _) vs)))

  only-balances : (vs : List Validator) → OnlyOverflow (process_effective_balance_updates s vs)
  unfolding process_effective_balance_updates
  only-balances vs = only-bind (only-mul64 _ _) (λ downward. only-bind (only-mul64 _ _) (λ upward. only-map (only_update s downward upward) vs))

  pub only-steps : (by : ActivationLimit) (fin : ℕ) (ys : List ℕ) (vs : List Validator) → OnlyOverflow (registry_steps by s slot fin ys vs)
  unfolding registry_steps
  only-steps by fin ys vs =
      only-bind (only-inactivity fin vs) (λ scored.
      only-bind (only-rewards _ fin scored) (λ paid.
      only-bind (only-registry by fin paid) (λ updated.
      only-bind (only-slashings _ ys updated) (λ slashed.
      only-bind (only-balances slashed) (λ balanced. only-value _)))))

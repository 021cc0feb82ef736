-- The steps that leave every balance as it is: scores, registry, effective balances and flags.
use mathlib.Core.Path.{◌≡◌, refl, sym, ap, ◌∙◌}
use mathlib.Core.Bool.{Bool, true, false, cond}
use mathlib.Core.List.{List, [], ◌∷◌, foldl}
use Prim.Native.Nat.{ℕ, zero, suc, ◌+◌, ◌/◌, ◌<◌}
use native.Mathlib.Omega.{arith}
use lib.Dec.{eqb, ltb}
use lib.ListN.{length, get_or, set, take, length-set, length-map}
use Rattle.definitions.specs.declared.Settings.{Settings}
use Rattle.definitions.specs.declared.ActivationLimit.{ActivationLimit}
use Rattle.definitions.specs.Lists.{range}
use Rattle.definitions.specs.Record.{Validator, FAR_FUTURE_EPOCH, GENESIS_EPOCH, nobody}
use Rattle.definitions.specs.Updates.{with_score, with_eligibility, with_exit, with_effective_balance, with_activation}
use Rattle.definitions.specs.Checked.{Checked, value, bind, add64, mul64, map_checked, fold_checked}
use Rattle.definitions.specs.Document.Phase0.Helpers.{is_eligible_for_activation_queue}
use Rattle.definitions.specs.Document.Phase0.EpochProcessing.{queue_eligible, is_ejected, activation_queue, activate_at, dequeued, rounded_balance}
use Rattle.definitions.specs.Document.Altair.EpochProcessing.{rotate_participation}
use Rattle.definitions.specs.Rust.Phase0.Helpers.{compute_activation_exit_epoch, get_current_epoch, get_previous_epoch, get_validator_churn_limit, exit_queue_epoch, initiate_validator_exit}
use Rattle.definitions.specs.Rust.Phase0.EpochProcessing.{is_eligible, is_in_inactivity_leak, update_registry_at, activation_limit, limited_registry_updates, update_effective_balance, process_effective_balance_updates}
use Rattle.definitions.specs.Rust.Altair.Helpers.{is_unslashed_participating}
use Rattle.definitions.specs.Rust.Altair.EpochProcessing.{moved_score, recovered_score, update_inactivity_score, process_inactivity_updates, process_participation_flag_updates}
use Rattle.laws.proofs.Checked.{value_same, bound}
use Rattle.laws_close.specs.Nine.{balance_at}
use Rattle.laws_close.proofs.Amounts.Lists.{each-length, each_at, at_map}

pub record Kept (vs ws : List Validator) : Type 0 where
  pub long : length ws ≡ length vs
  pub balance : (i : ℕ) → i < length vs → balance_at ws i ≡ balance_at vs i

pub kept_same : {vs ws : List Validator} → vs ≡ ws → Kept vs ws
kept_same e = record { long = ap length (sym e); balance = λ i l. ap (λ (us : List Validator). balance_at us i) (sym e) }

pub kept_then : {us vs ws : List Validator} → Kept us vs → Kept vs ws → Kept us ws
kept_then a b = record { long = b.long ∙ a.long; balance = λ i l. b.balance i (omega (arith, a.long, l)) ∙ a.balance i l }

-- a loop whose turns leave the balance
kept-each : (f : Validator → Checked Validator) → ((v w : Validator) → f v ≡ value w → w.balance ≡ v.balance) → (vs : List Validator) {ws : List Validator} → map_checked f vs ≡ value ws → Kept vs ws
kept-each f h vs e =
    record { long = each-length f vs e; balance = λ i l. h _ _ (each_at f nobody nobody vs e i l) }

-- a validator put in the place of one with its balance
set_at : (vs : List Validator) (j : ℕ) (w : Validator) → w.balance ≡ balance_at vs j → (i : ℕ) → balance_at (set vs j w) i ≡ balance_at vs i
set_at [] j w h i = refl
set_at (v ∷ vs) zero w h zero = h
set_at (v ∷ vs) zero w h (suc i) = refl
set_at (v ∷ vs) (suc j) w h zero = refl
set_at (v ∷ vs) (suc j) w h (suc i) = set_at vs j w h i

kept_set : (vs : List Validator) (j : ℕ) (w : Validator) → w.balance ≡ balance_at vs j → Kept vs (set vs j w)
kept_set vs j w h = record { long = simp length-set refl; balance = λ i l. set_at vs j w h i }

-- Scores

score-balance : (s : Settings) (current previous : ℕ) (leaking : Bool) (v w : Validator) → update_inactivity_score s current previous leaking v ≡ value w → w.balance ≡ v.balance
unfolding update_inactivity_score
score-balance s current previous leaking v w e = go (is_eligible previous v) e
  where
    m : Checked ℕ
    m = moved_score s (is_unslashed_participating current 1 previous v) v.inactivity_score

    go : (t : Bool) → cond t (bind m (λ score. value (with_score (recovered_score s leaking score) v))) (value v) ≡ value w → w.balance ≡ v.balance
    go true e = let b = bound m (λ score. value (with_score (recovered_score s leaking score) v)) e in ap (λ (u : Validator). u.balance) (sym (value_same b.then))
    go false e = ap (λ (u : Validator). u.balance) (sym (value_same e))

pub scores-kept : (s : Settings) (slot fin : ℕ) (vs : List Validator) {ws : List Validator} → process_inactivity_updates s slot fin vs ≡ value ws → Kept vs ws
unfolding process_inactivity_updates
scores-kept s slot fin vs {ws} e = go (eqb (get_current_epoch s slot) GENESIS_EPOCH) e
  where
    f : Bool → Validator → Checked Validator
    f leaking = update_inactivity_score s (get_current_epoch s slot) (get_previous_epoch s slot) leaking

    go : (b : Bool) → cond b (value vs) (bind (is_in_inactivity_leak s slot fin) (λ leaking. map_checked (f leaking) vs)) ≡ value ws → Kept vs ws
    go true e = kept_same (value_same e)
    go false e =
        let a = bound (is_in_inactivity_leak s slot fin) _ e in
        kept-each (f a.first) (score-balance s _ _ a.first) vs a.then

-- Registry

exit-kept : (s : Settings) (slot : ℕ) (vs : List Validator) (j : ℕ) {ws : List Validator} → initiate_validator_exit s slot vs j ≡ value ws → Kept vs ws
unfolding initiate_validator_exit
exit-kept s slot vs j {ws} e = go (eqb (get_or vs j nobody).exit_epoch FAR_FUTURE_EPOCH) e
  where
    delay : ℕ
    delay = s.min_validator_withdrawability_delay

    go : (t : Bool) → cond t (bind (exit_queue_epoch s slot vs) (λ exit. bind (add64 exit delay) (λ withdrawable. value (set vs j (with_exit exit withdrawable (get_or vs j nobody)))))) (value vs) ≡ value ws → Kept vs ws
    go true e =
        let a = bound (exit_queue_epoch s slot vs) _ e in
        let b = bound (add64 a.first delay) (λ withdrawable. value (set vs j (with_exit a.first withdrawable (get_or vs j nobody)))) a.then in
        kept_then (kept_set vs j (with_exit a.first b.first (get_or vs j nobody)) refl) (kept_same (value_same b.then))
    go false e = kept_same (value_same e)

eligible-balance : (s : Settings) (epoch : ℕ) (v : Validator) → (queue_eligible s epoch v).balance ≡ v.balance
unfolding queue_eligible
eligible-balance s epoch v = go (is_eligible_for_activation_queue s v)
  where
    go : (t : Bool) → (cond t (with_eligibility (epoch + 1) v) v).balance ≡ v.balance
    go true = refl
    go false = refl

update_kept : (s : Settings) (slot : ℕ) (vs : List Validator) (j : ℕ) {ws : List Validator} → update_registry_at s slot vs j ≡ value ws → Kept vs ws
unfolding update_registry_at
update_kept s slot vs j {ws} e = kept_then (kept_set vs j _ (eligible-balance s epoch (get_or vs j nobody))) (go (is_ejected s epoch (get_or queued j nobody)) e)
  where
    epoch : ℕ
    epoch = get_current_epoch s slot

    queued : List Validator
    queued = set vs j (queue_eligible s epoch (get_or vs j nobody))

    go : (t : Bool) → cond t (initiate_validator_exit s slot queued j) (value queued) ≡ value ws → Kept queued ws
    go true e = exit-kept s slot queued j e
    go false e = kept_same (value_same e)

updates-kept : (s : Settings) (slot : ℕ) (vs : List Validator) (is : List ℕ) {ws : List Validator} → fold_checked (update_registry_at s slot) vs is ≡ value ws → Kept vs ws
unfolding fold_checked
updates-kept s slot vs [] e = kept_same (value_same e)
updates-kept s slot vs (i ∷ is) e =
    let a = bound (update_registry_at s slot vs i) (λ us. fold_checked (update_registry_at s slot) us is) e in
    kept_then (update_kept s slot vs i a.gave) (updates-kept s slot a.first is a.then)

activated-kept : (epoch : ℕ) (vs : List Validator) (is : List ℕ) → Kept vs (foldl (activate_at epoch) vs is)
activated-kept epoch vs [] = kept_same refl
activated-kept epoch vs (i ∷ is) =
    kept_then (kept_set vs i (with_activation epoch (get_or vs i nobody)) refl) (activated-kept epoch (activate_at epoch vs i) is)

pub registry-kept : (by : ActivationLimit) (s : Settings) (slot fin : ℕ) (vs : List Validator) {ws : List Validator} → limited_registry_updates by s slot fin vs ≡ value ws → Kept vs ws
unfolding limited_registry_updates dequeued
registry-kept by s slot fin vs e =
    let a = bound (fold_checked (update_registry_at s slot) vs (range 0 (length vs))) _ e in
    let b = bound (compute_activation_exit_epoch s (get_current_epoch s slot)) _ a.then in
    kept_then (updates-kept s slot vs (range 0 (length vs)) a.gave)
    (kept_then (activated-kept b.first a.first (take (activation_limit by (get_validator_churn_limit s slot a.first)) (activation_queue fin a.first))) (kept_same (value_same b.then)))

-- Effective balances and flags

effective-balance : (s : Settings) (downward upward : ℕ) (v w : Validator) → update_effective_balance s downward upward v ≡ value w → w.balance ≡ v.balance
unfolding update_effective_balance
effective-balance s downward upward v w e =
    let a = bound (add64 v.balance downward) _ e in
    go (ltb a.first v.effective_balance) a.then
  where
    updated : Validator
    updated = with_effective_balance (rounded_balance s v) v

    either : (t : Bool) → (cond t updated v).balance ≡ v.balance
    either true = refl
    either false = refl

    go : (t : Bool) → cond t (value updated) (bind (add64 v.effective_balance upward) (λ high. value (cond (ltb high v.balance) updated v))) ≡ value w → w.balance ≡ v.balance
    go true e = ap (λ (u : Validator). u.balance) (sym (value_same e))
    go false e =
        let b = bound (add64 v.effective_balance upward) (λ high. value (cond (ltb high v.balance) updated v)) e in
        ap (λ (u : Validator). u.balance) (sym (value_same b.then)) ∙ either (ltb b.first v.balance)

pub effective-kept : (s : Settings) (vs : List Validator) {ws : List Validator} → process_effective_balance_updates s vs ≡ value ws → Kept vs ws
unfolding process_effective_balance_updates
effective-kept s vs e =
    let a = bound (mul64 (s.effective_balance_increment / s.hysteresis_quotient) s.hysteresis_downward_multiplier) _ e in
    let b = bound (mul64 (s.effective_balance_increment / s.hysteresis_quotient) s.hysteresis_upward_multiplier) _ a.then in
    kept-each (update_effective_balance s a.first b.first) (effective-balance s _ _) vs b.then

pub rotation_kept : (vs : List Validator) → Kept vs (process_participation_flag_updates vs)
unfolding process_participation_flag_updates rotate_participation
rotation_kept vs = record { long = length-map vs rotate_participation; balance = λ i l. ap (λ (u : Validator). u.balance) (at_map rotate_participation nobody nobody vs i l) }

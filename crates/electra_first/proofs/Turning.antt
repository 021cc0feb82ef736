-- The registry step as a pass that carries the exit queue's two numbers, and what it leaves.
use mathlib.Core.Path.{◌≡◌, refl, sym, ap, ◌∙◌}
use mathlib.Core.List.{List, [], ◌∷◌, ◌++◌, map}
use Prim.Native.Nat.{ℕ, suc, ◌^◌, ◌<◌, max}
use native.Mathlib.Omega.{arith}
use lib.Dec.{eqb}
use lib.ListN.{length, set, length-append}
use Rattle.definitions.specs.declared.Settings.{Settings}
use Rattle.definitions.specs.Lists.{range}
use Rattle.definitions.specs.Record.{Validator, FAR_FUTURE_EPOCH, nobody}
use Rattle.definitions.specs.Updates.{with_exit}
use Rattle.definitions.specs.Checked.{Checked, value, refused, bind, add64, sum64, fold_checked}
use Rattle.definitions.specs.Rust.Phase0.Helpers.{is_active_validator, get_current_epoch, get_active_validator_indices, get_total_balance, get_total_active_balance}
use Rattle.arithmetic.proofs.Operations.{OnlyOverflow, only-value, only-bind, only-add64, only-mul64}
use Rattle.laws.proofs.Checked.{bound, value_same}
use Rattle.laws.proofs.Tests.{either}
use Rattle.laws.proofs.Loops.Filtered.{sum64-filter}
use Rattle.rates.proofs.reward_balances.Only.{only-either}
use Rattle.definitions_electra.specs.declared.ExitChurn.{ExitChurn}
use Rattle.definitions_electra.specs.Evaluated.Electra.EpochProcessing.{slash}
use Rattle.electra_registry.specs.declared.updates.RegistryNumbers.{RegistryNumbers}
use Rattle.electra_registry.specs.Turns.{churn_by, Turned, kept, exit_with, is_queued, is_ejected_by, is_activated, turn_by}
use Rattle.electra_registry.specs.Updates.{Exiting, exiting, turn_at, updates_by}
use Rattle.electra_registry.proofs.Turns.{only-churn}
use Rattle.electra_registry.proofs.Active.{weight, turn-weight}
use Rattle.write_turn.specs.Sweep.{Moved, sweep}
use Rattle.write_turn.specs.Written.{churn_with}
use Rattle.write_turn.proofs.Sweeps.Fused.{more}
use Rattle.write_turn.proofs.Sweeps.Follows.{get_d_middle, set-middle, snoc}
use Rattle.write_steps.proofs.Only.{only-due}
use Rattle.write_steps.proofs.Seen.{kept-sweep}

abbrev pub left : Moved ExitChurn (List Validator) → Checked Exiting
left m = value (exiting m.held m.carry)

-- us are done, vs are not
places : (n : RegistryNumbers) (us vs : List Validator) (c : ExitChurn) → fold_checked (turn_at (turn_by n)) (exiting (us ++ vs) c) (range (length us) (length vs)) ≡ bind (sweep (churn_with n) c vs) (λ m. value (exiting (us ++ m.held) m.carry))
unfolding fold_checked sweep bind range turn_at
places n us [] c = refl
places n us (v ∷ vs) c = rw (get_d_middle us v vs nobody) (go (turn_by n c v) (λ w e. places n (us ++ (w ∷ [])) vs e))
  where
    after : List Validator → Moved ExitChurn (List Validator) → Checked Exiting
    after us m = value (exiting (us ++ m.held) m.carry)

    turned : Turned → Checked (Moved ExitChurn Validator)
    turned t = value (record { carry = t.churn; held = t.validator })

    ended : (w : Validator) (m : Checked (Moved ExitChurn (List Validator))) → bind m (after (us ++ (w ∷ []))) ≡ bind (bind m (more w)) (after us)
    ended w (value m) = ap (λ (ws : List Validator). value (exiting ws m.carry)) (sym (snoc us w m.held))
    ended w (refused p) = refl

    go : (m : Checked Turned) → ((w : Validator) (e : ExitChurn) → fold_checked (turn_at (turn_by n)) (exiting ((us ++ (w ∷ [])) ++ vs) e) (range (length (us ++ (w ∷ []))) (length vs)) ≡ bind (sweep (churn_with n) e vs) (after (us ++ (w ∷ [])))) → bind (bind m (λ t. value (exiting (set (us ++ (v ∷ vs)) (length us) t.validator) t.churn))) (λ e. fold_checked (turn_at (turn_by n)) e (range (suc (length us)) (length vs))) ≡ bind (bind (bind m turned) (λ q. bind (sweep (churn_with n) q.carry vs) (more q.held))) (after us)
    go (refused p) ih = refl
    go (value t) ih =
        let w = t.validator in
        let put : set (us ++ (v ∷ vs)) (length us) w ≡ (us ++ (w ∷ [])) ++ vs = set-middle us v w vs ∙ snoc us w vs in
        let long : length (us ++ (w ∷ [])) ≡ suc (length us) = omega (arith, length-append us (w ∷ [])) in
        rw (put, ← long, ih w t.churn) (ended w (sweep (churn_with n) t.churn vs))

pub turns_swept : (n : RegistryNumbers) (churn : ExitChurn) (vs : List Validator) → updates_by n (exiting vs churn) ≡ bind (sweep (churn_with n) churn vs) left
unfolding updates_by
turns_swept n churn vs = places n [] vs churn

-- Every refusal is 5

pub only-turn_later : (n : RegistryNumbers) (churn : ExitChurn) (v : Validator) → OnlyOverflow (churn_with n churn v)
unfolding turn_by exit_with
only-turn_later n churn v =
    only-bind
    (only-either (is_queued n v) (only-value _)
    (only-either (is_ejected_by n v)
    (only-either (eqb v.exit_epoch FAR_FUTURE_EPOCH) (only-bind (only-churn _ _ _ _) (λ after. only-bind (only-add64 _ _) (λ w. only-value _))) (only-value _))
    (only-either (is_activated n v) (only-value _) (only-value _))))
    (λ t. only-value _)

pub only_slash_later : (s : Settings) (epoch per_increment : ℕ) (v : Validator) → OnlyOverflow (slash s epoch per_increment v)
unfolding slash
only_slash_later s epoch per_increment v = only-bind (only-due s epoch v) (λ due. only-either due (only-bind (only-mul64 _ _) (λ penalty. only-value _)) (only-value v))

-- It leaves balances and the total active balance

turn-balance : (n : RegistryNumbers) (churn : ExitChurn) (v : Validator) {t : Turned} → turn_by n churn v ≡ value t → t.validator.balance ≡ v.balance
unfolding turn_by exit_with
turn-balance n churn v {t} e =
    either Is (is_queued n v) told
    (either Is (is_ejected_by n v) (either Is (eqb v.exit_epoch FAR_FUTURE_EPOCH) exits told)
    (either Is (is_activated n v) told told)) e
  where
    Is : Turned → Type 0
    Is u = u.validator.balance ≡ v.balance

    told : {u w : Turned} → ◌≡◌ {A = Checked Turned} (value u) (value w) → w.validator.balance ≡ u.validator.balance
    told e = ap (λ (x : Turned). x.validator.balance) (sym (value_same e))

    exits : bind (churn_by n.least n.limit churn v.effective_balance) (λ after. bind (add64 after.earliest_exit_epoch n.delay) (λ withdrawable. value (kept after (with_exit after.earliest_exit_epoch withdrawable v)))) ≡ value t → t.validator.balance ≡ v.balance
    exits e =
        let a = bound (churn_by n.least n.limit churn v.effective_balance) _ e in
        let b = bound (add64 a.first.earliest_exit_epoch n.delay) _ a.then in
        told b.then

module _ (n : RegistryNumbers) (churn : ExitChurn) (vs : List Validator) {m : Moved ExitChurn (List Validator)} (e : sweep (churn_with n) churn vs ≡ value m) where
  seen : {B : Type 0} (h : Validator → B) → ((c : ExitChurn) (v : Validator) (t : Turned) → turn_by n c v ≡ value t → h t.validator ≡ h v) → map h m.held ≡ map h vs
  seen h k = kept-sweep h h (churn_with n) (λ c v x g. (let a = bound (turn_by n c v) _ g in ap (λ (y : Moved ExitChurn Validator). h y.held) (sym (value_same a.then)) ∙ k c v a.first a.gave)) churn vs e

  pub swept_balances : map (λ v. v.balance) m.held ≡ map (λ v. v.balance) vs
  swept_balances = seen (λ v. v.balance) (λ c v t g. turn-balance n c v g)

  pub swept_total : (s : Settings) (slot : ℕ) → n.epoch ≡ get_current_epoch s slot → n.epoch < 2 ^ 48 → n.epoch < n.least → get_total_active_balance s slot m.held ≡ get_total_active_balance s slot vs
  unfolding get_total_active_balance get_total_balance get_active_validator_indices
  swept_total s slot now small late =
      let by-weight = sum64-filter (λ v. is_active_validator v n.epoch) (λ v. v.effective_balance) in
      let same = by-weight m.held ∙ ap sum64 (seen (weight n.epoch) (λ c v t g. turn-weight n c v small late g)) ∙ sym (by-weight vs) in
      rw (← now) (ap (λ (k : Checked ℕ). bind k (λ total. value (max s.effective_balance_increment total))) same)

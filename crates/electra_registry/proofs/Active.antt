-- The limit is the same before every turn: the epochs that a turn writes lie above the present one, so that who is active now stays active now, with
-- the same effective balance.
use mathlib.Core.Path.{◌≡◌, refl, sym, ap, ◌∙◌}
use mathlib.Core.Bool.{Bool, true, false, cond}
use mathlib.Core.List.{List}
use Prim.Native.Nat.{ℕ, ◌^◌, ◌≤◌, ◌<◌, max}
use native.Mathlib.Omega.{arith}
use borrow.Author.Tests.{lt-ltb, lt-leb, eqb-true}
use lib.Dec.{leb, ltb, eqb}
use lib.ListN.{get_or, set}
use lib.Seq.{map-set_same}
use Rattle.definitions.specs.Record.{Validator, FAR_FUTURE_EPOCH, nobody}
use Rattle.definitions.specs.Updates.{with_eligibility, with_activation, with_exit}
use Rattle.definitions.specs.Checked.{Checked, value, bind, add64, sub64, sum64}
use Rattle.definitions.specs.Rust.Phase0.Helpers.{is_active_validator, is_eligible_for_activation, get_current_epoch, get_active_validator_indices, get_total_balance, get_total_active_balance}
use Rattle.laws.proofs.Checked.{bound, value_same, add64-value}
use Rattle.laws.proofs.Tests.{both, either}
use Rattle.laws.proofs.Loops.Filtered.{sum64-filter}
use Rattle.definitions_electra.specs.declared.ElectraRules.{ElectraRules}
use Rattle.definitions_electra.specs.declared.ExitChurn.{ExitChurn}
use Rattle.definitions_electra.specs.Document.Electra.Helpers.{to_consume, activation_exit_churn_limit}
use Rattle.definitions_electra.specs.Evaluated.Electra.Helpers.{get_activation_exit_churn_limit, further_epochs, churned}
use Rattle.electra_registry.specs.declared.updates.RegistryNumbers.{RegistryNumbers}
use Rattle.electra_registry.specs.Turns.{limit_of, churn_by, Turned, kept, exit_with, is_queued, is_ejected_by, is_activated, turn_by}

-- An exit is at the least exit epoch or later

further-late : (earliest available limit balance : ℕ) {after : ExitChurn} → further_epochs earliest available limit balance ≡ value after → earliest ≤ after.earliest_exit_epoch
unfolding further_epochs
further-late earliest available limit balance p =
    let a = bound (sub64 balance available) _ p in
    let b = bound (sub64 a.first 1) _ a.then in
    let c = bound _ _ b.then in
    let d = bound (add64 earliest c.first) _ c.then in
    let e = bound _ _ d.then in
    let f = bound _ _ e.then in
    let g = bound _ _ f.then in
    let h = ap (λ (x : ExitChurn). x.earliest_exit_epoch) (value_same g.then) in
    omega (arith, add64-value earliest c.first d.gave, h)

churn-late : (least limit : ℕ) (churn : ExitChurn) (balance : ℕ) {after : ExitChurn} → churn_by least limit churn balance ≡ value after → least ≤ after.earliest_exit_epoch
unfolding churn_by churned
churn-late least limit churn balance {after} p =
    let l = bound (limit_of limit) _ p in
    let earliest = max churn.earliest_exit_epoch least in
    let available = to_consume earliest l.first churn in
    either (λ (x : ExitChurn). least ≤ x.earliest_exit_epoch) (ltb available balance)
    (λ e. (let k = further-late earliest available l.first balance e in omega (arith, k)))
    (λ e. (let k = bound (sub64 available balance) _ e in let h = ap (λ (x : ExitChurn). x.earliest_exit_epoch) (value_same k.then) in omega (arith, h)))
    l.then

-- What a validator adds to the total active balance
abbrev pub weight : ℕ → Validator → ℕ
weight epoch v = cond (is_active_validator v epoch) v.effective_balance 0

module _ (epoch : ℕ) (v : Validator) (small : epoch < 2 ^ 48) where
  exited-weight : (exit withdrawable : ℕ) → v.exit_epoch ≡ FAR_FUTURE_EPOCH → epoch < exit → weight epoch (with_exit exit withdrawable v) ≡ weight epoch v
  unfolding is_active_validator
  exited-weight exit withdrawable f l = rw (f, lt-ltb epoch exit l, lt-ltb epoch FAR_FUTURE_EPOCH (omega arith))

  activated-weight : (to : ℕ) → v.activation_epoch ≡ FAR_FUTURE_EPOCH → epoch < to → weight epoch (with_activation to v) ≡ weight epoch v
  unfolding is_active_validator
  activated-weight to f l = rw (f, lt-leb to epoch l, lt-leb FAR_FUTURE_EPOCH epoch (omega arith))

  eligible-weight : (to : ℕ) → weight epoch (with_eligibility to v) ≡ weight epoch v
  unfolding is_active_validator
  eligible-weight to = refl

  was : {t u : Turned} → weight epoch u.validator ≡ weight epoch v → ◌≡◌ {A = Checked Turned} (value u) (value t) → weight epoch t.validator ≡ weight epoch v
  was h e = ap (λ (x : Turned). weight epoch x.validator) (sym (value_same e)) ∙ h

  exit-weight : (least limit delay : ℕ) (churn : ExitChurn) {t : Turned} → epoch < least → exit_with least limit delay churn v ≡ value t → weight epoch t.validator ≡ weight epoch v
  unfolding exit_with
  exit-weight least limit delay churn {t} late p = go (eqb v.exit_epoch FAR_FUTURE_EPOCH) refl p
    where
      go : (b : Bool) → eqb v.exit_epoch FAR_FUTURE_EPOCH ≡ b → cond b (bind (churn_by least limit churn v.effective_balance) (λ after. bind (add64 after.earliest_exit_epoch delay) (λ w. value (kept after (with_exit after.earliest_exit_epoch w v))))) (value (kept churn v)) ≡ value t → weight epoch t.validator ≡ weight epoch v
      go true q e =
          let a = bound (churn_by least limit churn v.effective_balance) _ e in
          let b = bound (add64 a.first.earliest_exit_epoch delay) _ a.then in
          let k = churn-late least limit churn v.effective_balance a.gave in
          was (exited-weight a.first.earliest_exit_epoch b.first (eqb-true _ _ q) (omega (arith, k, late))) b.then
      go false q e = was refl e

pub turn-weight : (n : RegistryNumbers) (churn : ExitChurn) (v : Validator) {t : Turned} → n.epoch < 2 ^ 48 → n.epoch < n.least → turn_by n churn v ≡ value t → weight n.epoch t.validator ≡ weight n.epoch v
unfolding turn_by is_eligible_for_activation
turn-weight n churn v {t} small late p =
    let P : Turned → Type 0 = λ u. weight n.epoch u.validator ≡ weight n.epoch v in
    either P (is_queued n v) (was n.epoch v small (eligible-weight n.epoch v small _))
    (either P (is_ejected_by n v) (exit-weight n.epoch v small n.least n.limit n.delay churn late) (go (is_activated n v) refl)) p
  where
    go : (b : Bool) → is_activated n v ≡ b → cond {A = Checked Turned} b (value (kept churn (with_activation n.least v))) (value (kept churn v)) ≡ value t → weight n.epoch t.validator ≡ weight n.epoch v
    go true q e =
        let f = (both (leb v.activation_eligibility_epoch n.finalized_epoch) (eqb v.activation_epoch FAR_FUTURE_EPOCH) q).1 in
        was n.epoch v small (activated-weight n.epoch v small n.least (eqb-true _ _ f) late) e
    go false q e = was n.epoch v small refl e

-- The limit

pub limit-set : (r : ElectraRules) (state_slot : ℕ) (vs : List Validator) (i : ℕ) (u : Validator) → weight (get_current_epoch r.settings state_slot) u ≡ weight (get_current_epoch r.settings state_slot) (get_or vs i nobody) → get_activation_exit_churn_limit r state_slot (set vs i u) ≡ get_activation_exit_churn_limit r state_slot vs
unfolding get_activation_exit_churn_limit get_total_active_balance get_total_balance get_active_validator_indices
limit-set r state_slot vs i u h =
    let epoch = get_current_epoch r.settings state_slot in
    let by-weight = sum64-filter (λ v. is_active_validator v epoch) (λ v. v.effective_balance) in
    let same = by-weight (set vs i u) ∙ ap sum64 (map-set_same (weight epoch) vs i u nobody h) ∙ sym (by-weight vs) in
    ap (λ (m : Checked ℕ). bind (bind m (λ total. value (max r.settings.effective_balance_increment total))) (λ total. value (activation_exit_churn_limit r total))) same

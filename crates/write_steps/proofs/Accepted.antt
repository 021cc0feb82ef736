-- Where the steps over the registry are accepted, each number that all validators share is a number. So where one has left 64 bits the
-- answer is 5, whatever else stands in the record.
use mathlib.Core.Path.{◌≡◌, refl, sym, ap, ◌∙◌}
use mathlib.Core.Bool.{Bool, true, false, cond, ◌&&◌}
use mathlib.Core.List.{List, [], ◌∷◌, map}
use Prim.Native.Nat.{ℕ, ◌^◌, ◌≤◌, ◌<◌, min}
use native.Mathlib.Omega.{arith}
use borrow.Author.Tests.{lt-ltb, eq-eqb, ne_eqb, eqb-true, ltb-true}
use lib.Dec.{ltb, eqb}
use Rattle.definitions.specs.declared.Settings.{Settings}
use Rattle.definitions.specs.declared.ActivationLimit.{ActivationLimit}
use Rattle.definitions.specs.Lists.{sum, filter}
use Rattle.definitions.specs.Record.{Validator, GENESIS_EPOCH}
use Rattle.definitions.specs.Checked.{Checked, value, refused, bind, mul64, sum64, map_checked}
use Rattle.definitions.specs.declared.Refusal.TheVariants.{Overflow}
use Rattle.definitions.specs.Rust.Phase0.Helpers.{is_active_validator, get_current_epoch, get_previous_epoch, get_active_validator_indices, get_total_balance, get_total_active_balance}
use Rattle.definitions.specs.Rust.Phase0.EpochProcessing.{is_in_inactivity_leak, limited_registry_updates, process_effective_balance_updates}
use Rattle.definitions.specs.Rust.Altair.Helpers.{TIMELY_SOURCE_FLAG_INDEX, TIMELY_TARGET_FLAG_INDEX, TIMELY_HEAD_FLAG_INDEX, FlagTotals, flag_totals, is_unslashed_participating, get_unslashed_participating_indices}
use Rattle.definitions.specs.Rust.Altair.EpochProcessing.{update_inactivity_score, reward_and_penalize, process_inactivity_updates, process_rewards_and_penalties, process_slashings}
use Rattle.laws.proofs.Checked.{not_value, value_same, bound}
use Rattle.arithmetic.proofs.Laws.{bind-value}
use Rattle.laws.proofs.Tests.{both}
use Rattle.laws.proofs.Loops.Filtered.{sum-filter, sum64-filter}
use Rattle.registry.proofs.Epochs.{Epochs}
use Rattle.registry.proofs.Total.{total_kept}
use Rattle.slashings.specs.Adjusted.{adjusted_balance}
use Rattle.slashings.proofs.Adjusted.{slashings-by}
use Rattle.balances.specs.Thresholds.{thresholds_of}
use Rattle.balances.proofs.effective_balances.Step.{updates-by}
use Rattle.survey.specs.declared.Sums.{Sums}
use Rattle.survey.specs.declared.Totals.{Totals}
use Rattle.survey.specs.Sums.{weight, active_at, balance_of, PlainSums}
use Rattle.write_steps.specs.RegistrySteps.{registry_steps}
use Rattle.write_steps.specs.Numbers.{leak_of, Lacks, no_leak, no_adjusted, no_thresholds}
use Rattle.write_steps.proofs.Only.{only-steps}
use Rattle.write_steps.proofs.Leak.{leak-none, leak-some}
use Rattle.write_steps.proofs.Kept.{bare, score-keeps, reward_keeps}
use Rattle.laws.proofs.Frame.Entries.{kept_map, Keeps}

-- What was worked out on the way

pub record Gave {A : Type 0} (m : Checked A) : Type 0 where
  pub gift : A
  pub gave : m ≡ value gift

pub none-gave : {A : Type 0} {m : Checked A} → m ≡ refused Overflow → Gave m → ⊥
none-gave e g = not_value (sym e ∙ g.gave)

pub record Accepted (s : Settings) (slot fin : ℕ) (slashings : List ℕ) (vs : List Validator) : Type 0 where
  pub sums : Sums
  pub plain : PlainSums (get_current_epoch s slot) (get_previous_epoch s slot) vs sums
  pub leak : Gave (leak_of s slot fin)
  pub adjusted : (total : ℕ) → Gave (adjusted_balance s.proportional_slashing_multiplier_altair total slashings)
  pub thresholds : Gave (thresholds_of s)

pub none_lacks : {s : Settings} {slot fin : ℕ} {t : Totals} {slashings : List ℕ} {vs : List Validator} → Accepted s slot fin slashings vs → Lacks s slot fin t slashings → ⊥
none_lacks g (no_leak e) = none-gave e g.leak
none_lacks g (no_adjusted e) = none-gave e (g.adjusted _)
none_lacks g (no_thresholds e) = none-gave e g.thresholds

-- sums of those that pass a test

pointwise : (f g : Validator → ℕ) → ((v : Validator) → f v ≤ g v) → (vs : List Validator) → sum (map f vs) ≤ sum (map g vs)
unfolding sum
pointwise f g h [] = omega arith
pointwise f g h (v ∷ vs) = omega (arith, h v, pointwise f g h vs)

sum-small : (xs : List ℕ) {x : ℕ} → sum64 xs ≡ value x → sum xs < 2 ^ 64
unfolding sum64
sum-small xs {x} e = go (ltb (sum xs) (2 ^ 64)) refl e
  where
    go : (t : Bool) → ltb (sum xs) (2 ^ 64) ≡ t → cond t (value (sum xs)) (refused Overflow) ≡ value x → sum xs < 2 ^ 64
    go true q e = ltb-true _ _ q
    go false q e = absurd (not_value e)

sum-gave : (xs : List ℕ) → sum xs < 2 ^ 64 → Gave (sum64 xs)
unfolding sum64
sum-gave xs l = record { gift = sum xs; gave = rw (lt-ltb (sum xs) (2 ^ 64) l) }

-- of some among those whose sum is a number
part : (p q : Validator → Bool) → ((v : Validator) → p v ≡ true → q v ≡ true) → (vs : List Validator) → Gave (balance_of q vs) → Gave (balance_of p vs)
part p q h vs g =
    let balance : Validator → ℕ = λ v. v.effective_balance in
    sum-gave (map balance (filter p vs)) (omega (arith, sum-filter p balance vs, sum-filter q balance vs, pointwise (weight p) (weight q) less vs, sum-small _ g.gave))
  where
    less : (v : Validator) → weight p v ≤ weight q v
    less v = go (p v) refl
      where
        go : (t : Bool) → p v ≡ t → cond t v.effective_balance 0 ≤ weight q v
        go true e = rw (h v e) (omega arith)
        go false e = omega arith

pub total-gave : (s : Settings) (members : List Validator) {x : ℕ} → get_total_balance s members ≡ value x → Gave (sum64 (map (λ v. v.effective_balance) members))
unfolding get_total_balance
total-gave s members e = let a = bound (sum64 (map (λ v. v.effective_balance) members)) _ e in record { gift = a.first; gave = a.gave }

same_sum : (p : Validator → Bool) (vs ws : List Validator) → map (weight p) ws ≡ map (weight p) vs → Gave (balance_of p ws) → Gave (balance_of p vs)
same_sum p vs ws e g =
    let balance : Validator → ℕ = λ v. v.effective_balance in
    record { gift = g.gift; gave = sum64-filter p balance vs ∙ ap sum64 (sym e) ∙ sym (sum64-filter p balance ws) ∙ g.gave }

-- scores and rewards leave what reads neither balance nor score
module _ {B : Type 0} (h : Validator → B) (blind : (v : Validator) → h (bare v) ≡ h v) where
  seen_by : (f : Validator → Checked Validator) → Keeps f bare → Keeps f h
  seen_by f k v w e = sym (blind w) ∙ ap h (k v w e) ∙ blind v

  scores_keep : (s : Settings) (slot fin : ℕ) (vs : List Validator) {ws : List Validator} → process_inactivity_updates s slot fin vs ≡ value ws → map h ws ≡ map h vs
  unfolding process_inactivity_updates
  scores_keep s slot fin vs {ws} e = go (eqb (get_current_epoch s slot) GENESIS_EPOCH) e
    where
      f : Bool → Validator → Checked Validator
      f leaking = update_inactivity_score s (get_current_epoch s slot) (get_previous_epoch s slot) leaking

      go : (b : Bool) → cond b (value vs) (bind (is_in_inactivity_leak s slot fin) (λ leaking. map_checked (f leaking) vs)) ≡ value ws → map h ws ≡ map h vs
      go true e = ap (map h) (sym (value_same e))
      go false e =
          let a = bound (is_in_inactivity_leak s slot fin) _ e in
          kept_map (f a.first) h (seen_by (f a.first) (score-keeps s _ _ a.first)) vs a.then

  rewards_keep : (s : Settings) (quotient slot fin : ℕ) (vs : List Validator) {ws : List Validator} → process_rewards_and_penalties s quotient slot fin vs ≡ value ws → map h ws ≡ map h vs
  unfolding process_rewards_and_penalties
  rewards_keep s quotient slot fin vs {ws} e = go (eqb (get_current_epoch s slot) GENESIS_EPOCH) e
    where
      totals : ℕ → Checked FlagTotals
      totals = flag_totals s slot fin vs

      f : FlagTotals → FlagTotals → FlagTotals → Validator → Checked Validator
      f = reward_and_penalize s quotient (get_current_epoch s slot) (get_previous_epoch s slot)

      go : (b : Bool) → cond b (value vs) (bind (totals TIMELY_SOURCE_FLAG_INDEX) (λ source. bind (totals TIMELY_TARGET_FLAG_INDEX) (λ target. bind (totals TIMELY_HEAD_FLAG_INDEX) (λ head. map_checked (f source target head) vs)))) ≡ value ws → map h ws ≡ map h vs
      go true e = ap (map h) (sym (value_same e))
      go false e =
          let a = bound (totals TIMELY_SOURCE_FLAG_INDEX) _ e in
          let b = bound (totals TIMELY_TARGET_FLAG_INDEX) _ a.then in
          let c = bound (totals TIMELY_HEAD_FLAG_INDEX) _ b.then in
          kept_map (f a.first b.first c.first) h (seen_by _ (reward_keeps s quotient _ _ a.first b.first c.first)) vs c.then

-- The five sums

abbrev participating : Settings → ℕ → ℕ → Validator → Bool
participating s slot index = is_unslashed_participating (get_current_epoch s slot) index (get_previous_epoch s slot)

flag-gave : (s : Settings) (slot fin : ℕ) (vs : List Validator) (index : ℕ) {t : FlagTotals} → flag_totals s slot fin vs index ≡ value t → Gave (balance_of (participating s slot index) vs) × Gave (is_in_inactivity_leak s slot fin)
unfolding flag_totals get_unslashed_participating_indices
flag-gave s slot fin vs index e =
    let a = bound (get_total_balance s (filter (participating s slot index) vs)) _ e in
    let b = bound (get_total_active_balance s slot vs) _ a.then in
    let c = bound (is_in_inactivity_leak s slot fin) _ b.then in
    (total-gave s _ a.gave, record { gift = c.first; gave = c.gave })

-- those of the previous epoch's flags
record Flags (s : Settings) (slot : ℕ) (vs : List Validator) : Type 0 where
  source : Gave (balance_of (participating s slot 0) vs)
  target : Gave (balance_of (participating s slot 1) vs)
  head : Gave (balance_of (participating s slot 2) vs)

module _ (s : Settings) (slot fin : ℕ) (vs : List Validator) where
  abbrev current : ℕ
  current = get_current_epoch s slot

  -- from epoch 1 on rewards ask for them, and for the leak
  asked : (quotient : ℕ) → (current ≡ 0 → ⊥) → {ws : List Validator} → process_rewards_and_penalties s quotient slot fin vs ≡ value ws → Flags s slot vs × Gave (is_in_inactivity_leak s slot fin)
  unfolding process_rewards_and_penalties
  asked quotient n e =
      let totals : ℕ → Checked FlagTotals = flag_totals s slot fin vs in
      let a = bound (totals 0) _ (rw (ne_eqb current 0 n) at e) in
      let b = bound (totals 1) _ a.then in
      let c = bound (totals 2) _ b.then in
      let source = flag-gave s slot fin vs 0 a.gave in
      (record { source = source.0; target = (flag-gave s slot fin vs 1 b.gave).0; head = (flag-gave s slot fin vs 2 c.gave).0 }, source.1)

  is-active : (index epoch : ℕ) → epoch ≡ current → (v : Validator) → is_unslashed_participating current index epoch v ≡ true → active_at current v ≡ true
  unfolding is_unslashed_participating
  is-active index epoch e v h = rw e at (both (active_at epoch v) _ (both (active_at epoch v && _) _ h).0).0

  -- at the genesis epoch, which is also the previous one, they are parts of the active balance
  genesis : current ≡ 0 → Gave (balance_of (active_at current) vs) → Flags s slot vs
  unfolding get_previous_epoch
  genesis z g =
      let e : get_previous_epoch s slot ≡ current = rw (eq-eqb current 0 z) (sym z) in
      let of : (index : ℕ) → Gave (balance_of (participating s slot index) vs) = λ index. part (participating s slot index) (active_at current) (is-active index (get_previous_epoch s slot) e) vs g in
      record { source = of 0; target = of 1; head = of 2 }

-- the sums of the opening and the leak, where scores and rewards are accepted and the active balance afterwards is a number
pub record Summed (s : Settings) (slot fin : ℕ) (vs : List Validator) : Type 0 where
  pub sums : Sums
  pub plain : PlainSums (get_current_epoch s slot) (get_previous_epoch s slot) vs sums
  pub leak : Gave (leak_of s slot fin)

module _ (s : Settings) (slot fin : ℕ) (vs scored paid : List Validator) (e : process_inactivity_updates s slot fin vs ≡ value scored) (f : process_rewards_and_penalties s s.inactivity_penalty_quotient_altair slot fin scored ≡ value paid) where
  abbrev now : ℕ
  now = get_current_epoch s slot

  back : (index : ℕ) → Gave (balance_of (participating s slot index) scored) → Gave (balance_of (participating s slot index) vs)
  unfolding is_active_validator is_unslashed_participating
  back index g = same_sum (participating s slot index) vs scored (scores_keep (weight (participating s slot index)) (λ v. refl) s slot fin vs e) g

  pub summed : Gave (balance_of (active_at now) paid) → Summed s slot fin vs
  unfolding is_active_validator is_unslashed_participating
  summed last = go (eqb now 0) refl
    where
      g : Gave (balance_of (active_at now) vs)
      g =
          let after : Gave (balance_of (active_at now) scored) = same_sum (active_at now) scored paid (rewards_keep (weight (active_at now)) (λ v. refl) s s.inactivity_penalty_quotient_altair slot fin scored f) last in
          same_sum (active_at now) vs scored (scores_keep (weight (active_at now)) (λ v. refl) s slot fin vs e) after

      target : Gave (balance_of (is_unslashed_participating now 1 now) vs)
      target = part (is_unslashed_participating now 1 now) (active_at now) (is-active s slot fin vs 1 _ refl) vs g

      made : Flags s slot vs → Gave (leak_of s slot fin) → Summed s slot fin vs
      made flags leak =
          record {
            sums = record { active = g.gift; source = flags.source.gift; target = flags.target.gift; head = flags.head.gift; current_target = target.gift };
            plain = record { active = g.gave; source = flags.source.gave; target = flags.target.gave; head = flags.head.gave; current_target = target.gave };
            leak = leak;
          }

      go : (t : Bool) → eqb now 0 ≡ t → Summed s slot fin vs
      go true t = let z = eqb-true _ _ t in made (genesis s slot fin vs z g) (record { gift = false; gave = leak-none s slot fin z })
      go false t =
          let n : now ≡ 0 → ⊥ = λ z. mathlib.Core.Bool.true≢false (sym (eq-eqb _ 0 z) ∙ t) in
          let told = asked s slot fin scored _ n f in
          made (record { source = back 0 told.0.source; target = back 1 told.0.target; head = back 2 told.0.head }) (record { gift = told.1.gift; gave = leak-some s slot fin n ∙ told.1.gave })

-- whether the adjusted balance is a number does not depend on the total
pub adjusted-any : (multiplier total other : ℕ) (ys : List ℕ) {x : ℕ} → adjusted_balance multiplier total ys ≡ value x → Gave (adjusted_balance multiplier other ys)
unfolding adjusted_balance
adjusted-any multiplier total other ys e =
    let a = bound (sum64 ys) (λ slashed. bind (mul64 slashed multiplier) (λ product. value (min product total))) e in
    let b = bound (mul64 a.first multiplier) (λ product. value (min product total)) a.then in
    record { gift = min b.first other; gave = bind-value (λ slashed. bind (mul64 slashed multiplier) (λ product. value (min product other))) a.gave ∙ bind-value (λ product. value (min product other)) b.gave }

module _ (by : ActivationLimit) (s : Settings) (slot fin : ℕ) (ep : Epochs s slot) (ys : List ℕ) where
  pub accepted : (vs : List Validator) {ws : List Validator} → registry_steps by s slot fin ys vs ≡ value ws → Accepted s slot fin ys vs
  unfolding registry_steps get_total_active_balance get_active_validator_indices is_active_validator is_unslashed_participating
  accepted vs h =
      let quotient = s.inactivity_penalty_quotient_altair in
      let now = get_current_epoch s slot in
      let a = bound (process_inactivity_updates s slot fin vs) _ h in
      let b = bound (process_rewards_and_penalties s quotient slot fin a.first) _ a.then in
      let c = bound (limited_registry_updates by s slot fin b.first) _ b.then in
      let d = bound (process_slashings s s.proportional_slashing_multiplier_altair slot ys c.first) _ c.then in
      let e = bound (process_effective_balance_updates s d.first) _ d.then in
      let total = bound (get_total_active_balance s slot c.first) _ (sym (slashings-by s s.proportional_slashing_multiplier_altair slot ys c.first) ∙ d.gave) in
      let adjusted = bound (adjusted_balance s.proportional_slashing_multiplier_altair total.first ys) _ total.then in
      let thresholds = bound (thresholds_of s) _ (sym (updates-by s d.first) ∙ e.gave) in
      let paid : Gave (balance_of (active_at now) b.first) = total-gave s _ (sym (total_kept s slot fin ep by b.first c.gave) ∙ total.gave) in
      let all = summed s slot fin vs a.first b.first a.gave b.gave paid in
      record {
        sums = all.sums;
        plain = all.plain;
        leak = all.leak;
        adjusted = λ other. adjusted-any s.proportional_slashing_multiplier_altair total.first other ys adjusted.gave;
        thresholds = record { gift = thresholds.first; gave = thresholds.gave };
      }

  -- so that what is not accepted is refused by 5
  pub not_accepted : (vs : List Validator) → (Accepted s slot fin ys vs → ⊥) → registry_steps by s slot fin ys vs ≡ refused Overflow
  not_accepted vs n = go (registry_steps by s slot fin ys vs) refl
    where
      go : (m : Checked (List Validator)) → registry_steps by s slot fin ys vs ≡ m → m ≡ refused Overflow
      go (value ws) e = absurd (n (accepted vs e))
      go (refused p) e = ap refused ((only-steps s slot by fin ys vs).why p e)

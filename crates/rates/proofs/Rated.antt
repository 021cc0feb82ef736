-- The balance of a validator from the amounts of its effective balance.
use mathlib.Core.Path.{◌≡◌, refl, sym, ap, ◌∙◌}
use mathlib.Core.Bool.{Bool, true, false, cond, not, true≢false}
use Prim.Native.Nat.{ℕ, ◌/◌}
use native.Mathlib.Omega.{arith}
use lib.Dec.{eqb}
use lib.ListN.{get_or}
use Rattle.definitions.specs.declared.Settings.{Settings}
use Rattle.definitions.specs.declared.Deltas.{Deltas}
use Rattle.definitions.specs.Checked.{Checked, value, refused, bind, mul64}
use Rattle.definitions.specs.declared.Refusal.{Refusal}
use Rattle.definitions.specs.declared.Refusal.TheVariants.{Overflow}
use Rattle.definitions.specs.Record.{Validator}
use Rattle.definitions.specs.Updates.{with_score}
use Rattle.definitions.specs.Document.Phase0.EpochProcessing.{is_eligible}
use Rattle.definitions.specs.Rust.Altair.Helpers.{PARTICIPATION_FLAG_WEIGHTS, WEIGHT_DENOMINATOR, FlagTotals, no_deltas, is_unslashed_participating, get_base_reward, hit_deltas, miss_deltas, flag_index_deltas, inactivity_penalty_deltas}
use Rattle.laws.proofs.Checked.{bound, value_same}
use Rattle.arithmetic.proofs.Laws.{bind-value, bind-refused}
use Rattle.rewards.specs.declared.Shared.{Shared}
use Rattle.rewards.specs.Shared.{totals_of}
use Rattle.rates.specs.declared.Rates.{Rates}
use Rattle.rates.specs.Rated.{base_of, reward_of, penalty_of, Told, rates_of, Fits, by_flag, FlagBy, by_score}
use Rattle.rates.proofs.Scored.{eligible-scored, hit_scored}

-- A hit is a reward alone, a miss a penalty alone

pub hit_reward : (s : Settings) (weight : ℕ) (t : FlagTotals) (base : ℕ) {d : Deltas} → hit_deltas s weight t base ≡ value d → hit_deltas s weight t base ≡ value (reward_of d.reward)
unfolding hit_deltas
hit_reward s weight t base {d} e = e ∙ ap value (go t.leaking e)
  where
    alone : (x : ℕ) → reward_of x ≡ d → d ≡ reward_of d.reward
    alone x k = sym k ∙ ap (λ (y : Deltas). reward_of y.reward) k

    go : (b : Bool) → cond b (value no_deltas) (bind (mul64 base weight) (λ weighted. bind (mul64 weighted t.participating_increments) (λ numerator. bind (mul64 (t.total_active_balance / s.effective_balance_increment) WEIGHT_DENOMINATOR) (λ denominator. value (reward_of (numerator / denominator)))))) ≡ value d → d ≡ reward_of d.reward
    go true e = alone 0 (value_same e)
    go false e =
        let i = bound (mul64 base weight) _ e in
        let j = bound (mul64 i.first t.participating_increments) _ i.then in
        let k = bound (mul64 (t.total_active_balance / s.effective_balance_increment) WEIGHT_DENOMINATOR) _ j.then in
        alone _ (value_same k.then)

pub miss_penalty : (index weight base : ℕ) {d : Deltas} → miss_deltas index weight base ≡ value d → miss_deltas index weight base ≡ value (penalty_of d.penalty)
unfolding miss_deltas
miss_penalty index weight base {d} e = e ∙ ap value (go (eqb index 2) e)
  where
    alone : (x : ℕ) → penalty_of x ≡ d → d ≡ penalty_of d.penalty
    alone x k = sym k ∙ ap (λ (y : Deltas). penalty_of y.penalty) k

    go : (b : Bool) → cond b (value no_deltas) (bind (mul64 base weight) (λ weighted. value (penalty_of (weighted / WEIGHT_DENOMINATOR)))) ≡ value d → d ≡ penalty_of d.penalty
    go true e = alone 0 (value_same e)
    go false e = let i = bound (mul64 base weight) (λ weighted. value (penalty_of (weighted / WEIGHT_DENOMINATOR))) e in alone _ (value_same i.then)

-- An amount by the base reward m, and what follows from it

module _ (m : Checked ℕ) (k : ℕ → Checked Deltas) (of : ℕ → Deltas) where
  pub told-past : bind m k ≡ refused Overflow → Told (bind m k) of (record { value = 0; over = 1 })
  told-past e = record { fits = λ z. absurd (omega (arith, z)); past = λ _. e }

  pub told-fits : {base x : ℕ} → m ≡ value base → k base ≡ value (of x) → Told (bind m k) of (record { value = x; over = 0 })
  told-fits e h = record { fits = λ _. bind-value k e ∙ h; past = λ n. absurd (n refl) }

  pub no-base : {p : Refusal} → ((q : Refusal) → m ≡ refused q → q ≡ Overflow) → m ≡ refused p → bind m k ≡ refused Overflow
  no-base o e = bind-refused k (e ∙ ap refused (o _ e))

  pub not_fits : {base : ℕ} {p : Refusal} → ((q : Refusal) → k base ≡ refused q → q ≡ Overflow) → m ≡ value base → k base ≡ refused p → bind m k ≡ refused Overflow
  not_fits o e h = bind-value k e ∙ h ∙ ap refused (o _ h)

-- One flag, by what the code found of it

module _ (eligible hit : Bool) (x y : Checked Deltas) where
  pub not_eligible : not eligible ≡ true → value no_deltas ≡ by_flag eligible hit x y
  unfolding by_flag
  not_eligible e = go eligible e
    where
      go : (b : Bool) → not b ≡ true → value no_deltas ≡ cond b (cond hit x y) (value no_deltas)
      go true e = absurd (true≢false (sym e))
      go false e = refl

  pub was_hit : not eligible ≡ false → hit ≡ true → {r : Checked Deltas} → r ≡ x → r ≡ by_flag eligible hit x y
  unfolding by_flag
  was_hit e i {r} h = rw i (go eligible e)
    where
      go : (b : Bool) → not b ≡ false → r ≡ cond b x (value no_deltas)
      go true e = h
      go false e = absurd (true≢false e)

  pub was-missed : not eligible ≡ false → hit ≡ false → {r : Checked Deltas} → r ≡ y → r ≡ by_flag eligible hit x y
  unfolding by_flag
  was-missed e i {r} h = rw i (go eligible e)
    where
      go : (b : Bool) → not b ≡ false → r ≡ cond b y (value no_deltas)
      go true e = h
      go false e = absurd (true≢false e)

-- as pairs_by takes them
pub fits_each : {s : Settings} {h : Shared} {source target head : ℕ} {q : Rates} → Fits s h source target head q → Fits s h source target head (rates_of q.effective_balance q.source_reward q.source_penalty q.target_reward q.target_penalty q.head_reward q.head_penalty q.most_score)
fits_each f =
    record {
      source_hit = f.source_hit;
      source_miss = f.source_miss;
      target_hit = f.target_hit;
      target_miss = f.target_miss;
      head_hit = f.head_hit;
      head_miss = f.head_miss;
      most = f.most;
    }

-- a validator of that effective balance, with this score
module _ {s : Settings} {h : Shared} {source target head : ℕ} {q : Rates} (f : Fits s h source target head q) (v : Validator) (score : ℕ) (same : q.effective_balance ≡ v.effective_balance) {eligible : Bool} (e : eligible ≡ is_eligible h.previous_epoch v) where
  flag_is : (index increments : ℕ) {hit : Bool} → hit ≡ is_unslashed_participating h.current_epoch index h.previous_epoch v → flag_index_deltas s h.current_epoch h.previous_epoch index (totals_of h increments) (with_score score v) ≡ by_flag eligible hit (bind (base_of s h.total q.effective_balance) (hit_deltas s (get_or PARTICIPATION_FLAG_WEIGHTS index 0) (totals_of h increments))) (bind (base_of s h.total q.effective_balance) (miss_deltas index (get_or PARTICIPATION_FLAG_WEIGHTS index 0)))
  unfolding flag_index_deltas get_base_reward by_flag
  flag_is index increments {hit} i = rw (← eligible-scored _ score v e, ← hit_scored _ _ _ score v i, same) (go eligible hit)
    where
      base : Checked ℕ
      base = base_of s h.total v.effective_balance

      weight : ℕ
      weight = get_or PARTICIPATION_FLAG_WEIGHTS index 0

      go : (b t : Bool) → cond b (bind base (λ x. cond t (hit_deltas s weight (totals_of h increments) x) (miss_deltas index weight x))) (value no_deltas) ≡ cond b (cond t (bind base (hit_deltas s weight (totals_of h increments))) (bind base (miss_deltas index weight))) (value no_deltas)
      go true true = refl
      go true false = refl
      go false t = refl

  pub source-says : {hit : Bool} → hit ≡ is_unslashed_participating h.current_epoch 0 h.previous_epoch v → {r : Checked Deltas} → FlagBy eligible hit q.source_reward q.source_penalty r → r ≡ flag_index_deltas s h.current_epoch h.previous_epoch 0 (totals_of h source) (with_score score v)
  source-says i b = rw (flag_is 0 source i) (b.of _ _ f.source_hit f.source_miss)

  pub target-says : {hit : Bool} → hit ≡ is_unslashed_participating h.current_epoch 1 h.previous_epoch v → {r : Checked Deltas} → FlagBy eligible hit q.target_reward q.target_penalty r → r ≡ flag_index_deltas s h.current_epoch h.previous_epoch 1 (totals_of h target) (with_score score v)
  target-says i b = rw (flag_is 1 target i) (b.of _ _ f.target_hit f.target_miss)

  pub head-says : {hit : Bool} → hit ≡ is_unslashed_participating h.current_epoch 2 h.previous_epoch v → {r : Checked Deltas} → FlagBy eligible hit q.head_reward q.head_penalty r → r ≡ flag_index_deltas s h.current_epoch h.previous_epoch 2 (totals_of h head) (with_score score v)
  head-says i b = rw (flag_is 2 head i) (b.of _ _ f.head_hit f.head_miss)

  pub penalty-says : (quotient : ℕ) {hit : Bool} → hit ≡ is_unslashed_participating h.current_epoch 1 h.previous_epoch v → {r : Checked Deltas} → r ≡ by_score s.inactivity_score_bias quotient eligible hit q.effective_balance score → r ≡ inactivity_penalty_deltas s quotient h.current_epoch h.previous_epoch (with_score score v)
  unfolding inactivity_penalty_deltas by_score
  penalty-says quotient i k = rw (← eligible-scored _ score v e, ← hit_scored _ _ _ score v i, ← same) k

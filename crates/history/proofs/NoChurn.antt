-- Without m of 1 at least no number of closes would do: where nobody is active and the smallest churn limit is 0, nobody is ever activated.
use mathlib.Core.Path.{◌≡◌, refl, ap, ◌∙◌}
use mathlib.Core.Bool.{Bool, true, false, cond, ◌&&◌}
use mathlib.Core.List.{List, [], ◌∷◌, map, head-eq_of_cons-eq, tail-eq_of_cons-eq}
use Prim.Native.Nat.{ℕ, suc, ◌<◌}
use native.Mathlib.Nat.{zero-div, div-le_self}
use native.Mathlib.Decide.{dec_lt}
use native.Mathlib.Omega.{arith}
use borrow.Author.Tests.{lt-leb, le-ltb}
use lib.Dec.{T, ltb}
use lib.ListN.{length, replicate}
use Rattle.definitions.specs.declared.ActivationLimit.TheVariants.{Churn}
use Rattle.definitions.specs.declared.Settings.{Settings}
use Rattle.definitions.specs.Lists.{filter}
use Rattle.definitions.specs.Record.{Validator, BeaconState, FAR_FUTURE_EPOCH, decode}
use Rattle.definitions.specs.Rules.{settings_under}
use Rattle.definitions.specs.Close.{Call}
use Rattle.definitions.specs.Rust.Phase0.Helpers.{is_active_validator, compute_epoch_at_slot, get_current_epoch, get_active_validator_indices, get_validator_churn_limit}
use Rattle.laws.proofs.Rules.{shared}
use Rattle.history.specs.Events.{Others, Event, accepts, after, standing}
use Rattle.history.specs.Demand3.{event, close_of}
use Rattle.history.proofs.Waiting as list
use Rattle.history.proofs.Waiting.{activation_at}
use Rattle.history.proofs.Premises.{Handed}
use Rattle.history.proofs.EightSteps.{Eight}
use Rattle.history.proofs.WholeClose.{accepted-close, closed-eight}

abbrev closed : Bool × Call → Event
closed c = event (close_of c)

-- nobody has an activation epoch, and i is there
pub record Inactive (i : ℕ) (vs : List Validator) : Type 0 where
  pub there : i < length vs
  pub none : (j : ℕ) → j < length vs → activation_at vs j ≡ FAR_FUTURE_EPOCH

nobody-active : (e : ℕ) → e < FAR_FUTURE_EPOCH → (vs : List Validator) → ((j : ℕ) → j < length vs → activation_at vs j ≡ FAR_FUTURE_EPOCH) → length (filter (λ v. is_active_validator v e) vs) ≡ 0
unfolding filter is_active_validator
nobody-active e l [] h = refl
nobody-active e l (v ∷ vs) h = rw (lt-leb v.activation_epoch e (omega (arith, h 0 (omega arith)))) (nobody-active e l vs (λ j m. h (suc j) (omega arith)))

-- so that the churn limit is 0
no-churn : (s : Settings) (state_slot : ℕ) (vs : List Validator) → s.min_per_epoch_churn_limit ≡ 0 → get_current_epoch s state_slot < FAR_FUTURE_EPOCH → ((j : ℕ) → j < length vs → activation_at vs j ≡ FAR_FUTURE_EPOCH) → get_validator_churn_limit s state_slot vs ≡ 0
unfolding get_validator_churn_limit get_active_validator_indices
no-churn s state_slot vs z l h = rw (nobody-active (get_current_epoch s state_slot) l vs h, zero-div s.churn_limit_quotient, z)

others-inactive : {i : ℕ} {r o : BeaconState} → Others r o → Inactive i r.validators → Inactive i o.validators
others-inactive {i} {r} {o} h a = record { there = omega (arith, a.there, h.more); none = λ j l. go j l (dec_lt j (length r.validators)) }
  where
    go : (j : ℕ) → j < length o.validators → Dec (j < length r.validators) → activation_at o.validators j ≡ FAR_FUTURE_EPOCH
    go j l (yes k) = (h.old j k).1 ∙ a.none j k
    go j l (no k) = (h.new j (omega arith) l).1

close-inactive : {i : ℕ} (c : Bool × Call) → c.1.rules.settings.min_per_epoch_churn_limit ≡ 0 → T (accepts (closed c)) → Inactive i (closed c).opening.validators → Inactive i (closed c).returned.validators
unfolding get_current_epoch compute_epoch_at_slot
close-inactive {i} (w, c) z t a = record { there = omega (arith, a.there, n); none = λ j l. none j (omega (arith, l, n)) }
  where
    x : Eight Churn (settings_under c.rules) c.finality (decode c.registry) (closed (w, c)).returned.finality (closed (w, c)).returned.validators
    x = closed-eight c t

    n : length (closed (w, c)).returned.validators ≡ length (decode c.registry)
    n = x.registry.number

    queued : (j : ℕ) → j < length (decode c.registry) → activation_at x.queue j ≡ FAR_FUTURE_EPOCH
    queued j l = x.registry.queue-activation j l ∙ a.none j l

    churn : ℕ
    churn = get_validator_churn_limit (settings_under c.rules) c.finality.slot x.queue

    limit : churn ≡ 0
    limit = no-churn (settings_under c.rules) c.finality.slot x.queue ((shared c.rules).least_churn ∙ z) (omega (arith, (accepted-close c t).small.0, div-le_self c.finality.slot (settings_under c.rules).slots_per_epoch)) (λ j l. queued j (omega (arith, l, x.registry.queue-number)))

    unchosen : (b : Bool) (k to was : ℕ) → cond (b && ltb k churn) to was ≡ was
    unchosen false k to was = refl
    unchosen true k to was = rw (le-ltb k churn (omega (arith, limit)))

    none : (j : ℕ) → j < length (decode c.registry) → activation_at (closed (w, c)).returned.validators j ≡ FAR_FUTURE_EPOCH
    none j l = x.registry.activation j l ∙ unchosen (list.waits _ x.queue j) (list.ahead _ x.queue j) _ (activation_at x.queue j) ∙ queued j l

after-inactive : {i : ℕ} (c : Bool × Call) {r : BeaconState} → c.1.rules.settings.min_per_epoch_churn_limit ≡ 0 → Others r (closed c).opening → Inactive i r.validators → Inactive i (after r (closed c)).validators
after-inactive {i} c {r} z h a = go (accepts (closed c)) (closed c).others_stay (λ t. close-inactive c z t (others-inactive h a))
  where
    go : (b w : Bool) → (T b → Inactive i (closed c).returned.validators) → Inactive i (cond b (closed c).returned (cond w (closed c).opening r)).validators
    go true w f = f tt
    go false true f = others-inactive h a
    go false false f = a

-- whatever the list, nobody is ever activated
pub never : {i : ℕ} (s : Settings) → s.min_per_epoch_churn_limit ≡ 0 → (calls : List (Bool × Call)) (r : BeaconState) → map (λ c. c.1.rules.settings) calls ≡ replicate (length calls) s → Inactive i r.validators → Handed r (map closed calls) → Inactive i (standing r (map closed calls)).validators
never s z [] r e a h = a
never s z (c ∷ calls) r e a h = never s z calls (after r (closed c)) (tail-eq_of_cons-eq e) (after-inactive c (ap (λ (x : Settings). x.min_per_epoch_churn_limit) (head-eq_of_cons-eq e) ∙ z) h.0 a) h.1

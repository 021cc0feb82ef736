-- The settings under rules: the same but for the two that the pair takes the places of, and good where the rules are.
use mathlib.Core.Path.{◌≡◌, refl}
use mathlib.Core.Bool.{Bool, true, false, cond, ◌||◌, not}
use mathlib.Core.List.{List, [], ◌∷◌}
use Prim.Native.Nat.{ℕ, zero, suc}
use lib.Dec.{leb, eqb}
use lib.ListN.{set}
use Rattle.definitions.specs.declared.Settings.{Settings}
use Rattle.definitions.specs.declared.Bellatrix.{Bellatrix}
use Rattle.definitions.specs.declared.Rules.{Rules}
use Rattle.definitions.specs.Lists.{all}
use Rattle.definitions.specs.Refusals.{is_small, settings_shaped, settings_numbers, divisors, good_settings}
use Rattle.definitions.specs.Rules.{is_altair, in_place, settings_under, rules_shaped, good_bellatrix, good_rules}
use Rattle.laws.proofs.Tests.{both, test}

-- what holds of the settings with the pair in place or without
pub by-fork : (r : Rules) (P : Settings → Type 0) → P r.settings → P (in_place r.bellatrix r.settings) → P (settings_under r)
unfolding settings_under
by-fork r P a b = go (is_altair r)
  where
    go : (t : Bool) → P (cond t r.settings (in_place r.bellatrix r.settings))
    go true = a
    go false = b

-- The settings that tests, epochs and churn read

pub record Shared (s : Settings) (t : Settings) : Type 0 where
  pub slots_per_epoch : t.slots_per_epoch ≡ s.slots_per_epoch
  pub root_count : t.slots_per_historical_root ≡ s.slots_per_historical_root
  pub slashing_count : t.epochs_per_slashings_vector ≡ s.epochs_per_slashings_vector
  pub lookahead : t.max_seed_lookahead ≡ s.max_seed_lookahead
  pub least_churn : t.min_per_epoch_churn_limit ≡ s.min_per_epoch_churn_limit

pub shared : (r : Rules) → Shared r.settings (settings_under r)
shared r =
    by-fork r (Shared r.settings)
    (record { slots_per_epoch = refl; root_count = refl; slashing_count = refl; lookahead = refl; least_churn = refl })
    (record { slots_per_epoch = refl; root_count = refl; slashing_count = refl; lookahead = refl; least_churn = refl })

-- Tests

pub shaped-under : (r : Rules) → rules_shaped r ≡ true → settings_shaped (settings_under r) ≡ true
unfolding rules_shaped settings_shaped
shaped-under r h = let s = shared r in rw (s.root_count, s.slashing_count) (both (settings_shaped r.settings) (leb r.fork 1) h).0

all_set : (p : ℕ → Bool) (xs : List ℕ) (i x : ℕ) → all p xs ≡ true → p x ≡ true → all p (set xs i x) ≡ true
unfolding all
all_set p [] i x h t = h
all_set p (y ∷ xs) zero x h t = rw (t, (both (p y) (all p xs) h).1)
all_set p (y ∷ xs) (suc i) x h t = let g = both (p y) (all p xs) h in rw g.0 (all_set p xs i x g.1 t)

in_place-good : (b : Bellatrix) (s : Settings) → good_settings s ≡ true → good_bellatrix b ≡ true → good_settings (in_place b s) ≡ true
unfolding good_settings good_bellatrix
in_place-good b s h k =
    let quotient = b.inactivity_penalty_quotient_bellatrix in
    let multiplier = b.proportional_slashing_multiplier_bellatrix in
    let positive : ℕ → Bool = λ n. not (eqb n 0) in
    let old = both (all positive (divisors s)) (all is_small (settings_numbers s)) h in
    let pair = test _ k in
    let places : all positive (divisors (in_place b s)) ≡ true = all_set positive (divisors s) 4 quotient old.0 (pair 0) in
    let numbers : all is_small (settings_numbers (in_place b s)) ≡ true = all_set is_small (set (settings_numbers s) 12 quotient) 13 multiplier (all_set is_small (settings_numbers s) 12 quotient old.1 (pair 1)) (pair 2) in
    rw (places, numbers)

pub good-under : (r : Rules) → good_rules r ≡ true → good_settings (settings_under r) ≡ true
unfolding good_rules settings_under
good-under r h = go (is_altair r) (both (good_settings r.settings) (is_altair r || good_bellatrix r.bellatrix) h).1
  where
    good : good_settings r.settings ≡ true
    good = (both (good_settings r.settings) (is_altair r || good_bellatrix r.bellatrix) h).0

    go : (t : Bool) → (t || good_bellatrix r.bellatrix) ≡ true → good_settings (cond t r.settings (in_place r.bellatrix r.settings)) ≡ true
    go true k = good
    go false k = in_place-good r.bellatrix r.settings good k

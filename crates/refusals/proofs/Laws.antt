-- What the tests give once passed.
use mathlib.Core.Bool.{true, not}
use mathlib.Core.List.{List}
use mathlib.Core.Path.{◌≡◌}
use Prim.Native.Nat.{ℕ, ◌*◌, ◌/◌, ◌%◌, ◌^◌, ◌≤◌, ◌<◌}
use native.Mathlib.Omega.{arith}
use borrow.Author.Tests.{ltb-true, leb-true, eqb-true, eqb-false, not-true}
use lib.Dec.{leb, eqb}
use lib.ListN.{length, get_or}
use Rattle.definitions.specs.declared.Finality.{Finality}
use Rattle.definitions.specs.declared.Settings.{Settings}
use Rattle.definitions.specs.Lists.{all}
use Rattle.definitions.specs.Record.{Validator}
use Rattle.definitions.specs.Refusals.{is_vector_length, settings_shaped, registry_shaped, is_small, settings_numbers, divisors, good_settings, good_finality, good_validator}
use Rattle.laws.proofs.Tests.{both, test, all-at}

-- Test 1

pub record VectorLength (n : ℕ) : Type 0 where
  pub least : 1 ≤ n
  pub most : n ≤ 65536

vector-length : (n : ℕ) → is_vector_length n ≡ true → VectorLength n
vector-length n e =
    let p = both (leb 1 n) (leb n 65536) e in
    record { least = leb-true 1 n p.0; most = leb-true n 65536 p.1 }

pub record SettingsShape (s : Settings) : Type 0 where
  pub roots : VectorLength s.slots_per_historical_root
  pub slashings : VectorLength s.epochs_per_slashings_vector

pub settings-shaped : (s : Settings) → settings_shaped s ≡ true → SettingsShape s
unfolding settings_shaped
settings-shaped s e =
    let p = both (is_vector_length s.slots_per_historical_root) (is_vector_length s.epochs_per_slashings_vector) e in
    record { roots = vector-length _ p.0; slashings = vector-length _ p.1 }

pub record RegistryShape (xs : List ℕ) : Type 0 where
  pub long : length xs ≡ 10 * (length xs / 10)
  pub few : length xs / 10 ≤ 2 ^ 24

pub registry-shaped : (xs : List ℕ) → registry_shaped xs ≡ true → RegistryShape xs
unfolding registry_shaped
registry-shaped xs e =
    let p = both (eqb (length xs % 10) 0) (leb (length xs / 10) (2 ^ 24)) e in
    let tens = eqb-true (length xs % 10) 0 p.0 in
    record { long = omega arith; few = leb-true (length xs / 10) (2 ^ 24) p.1 }

-- Test 2

pub record PositiveDivisors (s : Settings) : Type 0 where
  pub slots_per_epoch : 0 < s.slots_per_epoch
  pub effective_balance_increment : 0 < s.effective_balance_increment
  pub hysteresis_quotient : 0 < s.hysteresis_quotient
  pub inactivity_score_bias : 0 < s.inactivity_score_bias
  pub inactivity_penalty_quotient_altair : 0 < s.inactivity_penalty_quotient_altair
  pub churn_limit_quotient : 0 < s.churn_limit_quotient

pub record SmallSettings (s : Settings) : Type 0 where
  pub slots_per_epoch : s.slots_per_epoch < 2 ^ 48
  pub slots_per_historical_root : s.slots_per_historical_root < 2 ^ 48
  pub epochs_per_slashings_vector : s.epochs_per_slashings_vector < 2 ^ 48
  pub effective_balance_increment : s.effective_balance_increment < 2 ^ 48
  pub max_effective_balance : s.max_effective_balance < 2 ^ 48
  pub hysteresis_quotient : s.hysteresis_quotient < 2 ^ 48
  pub hysteresis_downward_multiplier : s.hysteresis_downward_multiplier < 2 ^ 48
  pub hysteresis_upward_multiplier : s.hysteresis_upward_multiplier < 2 ^ 48
  pub base_reward_factor : s.base_reward_factor < 2 ^ 48
  pub min_epochs_to_inactivity_penalty : s.min_epochs_to_inactivity_penalty < 2 ^ 48
  pub inactivity_score_bias : s.inactivity_score_bias < 2 ^ 48
  pub inactivity_score_recovery_rate : s.inactivity_score_recovery_rate < 2 ^ 48
  pub inactivity_penalty_quotient_altair : s.inactivity_penalty_quotient_altair < 2 ^ 48
  pub proportional_slashing_multiplier_altair : s.proportional_slashing_multiplier_altair < 2 ^ 48
  pub max_seed_lookahead : s.max_seed_lookahead < 2 ^ 48
  pub min_validator_withdrawability_delay : s.min_validator_withdrawability_delay < 2 ^ 48
  pub ejection_balance : s.ejection_balance < 2 ^ 48
  pub min_per_epoch_churn_limit : s.min_per_epoch_churn_limit < 2 ^ 48
  pub churn_limit_quotient : s.churn_limit_quotient < 2 ^ 48

pub record GoodSettings (s : Settings) : Type 0 where
  pub positive : PositiveDivisors s
  pub small : SmallSettings s

pub good-settings : (s : Settings) → good_settings s ≡ true → GoodSettings s
unfolding good_settings
good-settings s e =
    record {
      positive =
          record {
            slots_per_epoch = divisor 0 (omega arith);
            effective_balance_increment = divisor 1 (omega arith);
            hysteresis_quotient = divisor 2 (omega arith);
            inactivity_score_bias = divisor 3 (omega arith);
            inactivity_penalty_quotient_altair = divisor 4 (omega arith);
            churn_limit_quotient = divisor 5 (omega arith);
          };
      small =
          record {
            slots_per_epoch = number 0 (omega arith);
            slots_per_historical_root = number 1 (omega arith);
            epochs_per_slashings_vector = number 2 (omega arith);
            effective_balance_increment = number 3 (omega arith);
            max_effective_balance = number 4 (omega arith);
            hysteresis_quotient = number 5 (omega arith);
            hysteresis_downward_multiplier = number 6 (omega arith);
            hysteresis_upward_multiplier = number 7 (omega arith);
            base_reward_factor = number 8 (omega arith);
            min_epochs_to_inactivity_penalty = number 9 (omega arith);
            inactivity_score_bias = number 10 (omega arith);
            inactivity_score_recovery_rate = number 11 (omega arith);
            inactivity_penalty_quotient_altair = number 12 (omega arith);
            proportional_slashing_multiplier_altair = number 13 (omega arith);
            max_seed_lookahead = number 14 (omega arith);
            min_validator_withdrawability_delay = number 15 (omega arith);
            ejection_balance = number 16 (omega arith);
            min_per_epoch_churn_limit = number 17 (omega arith);
            churn_limit_quotient = number 18 (omega arith);
          };
    }
  where
    divisor : (i : ℕ) → i < 6 → 0 < get_or (divisors s) i 0
    divisor i l =
        let p = (both (all (λ n. not (eqb n 0)) (divisors s)) (all is_small (settings_numbers s)) e).0 in
        let z = eqb-false (get_or (divisors s) i 0) 0 (not-true _ (all-at (λ n. not (eqb n 0)) (divisors s) i 0 l p)) in
        omega arith

    number : (i : ℕ) → i < 19 → get_or (settings_numbers s) i 0 < 2 ^ 48
    number i l =
        let p = (both (all (λ n. not (eqb n 0)) (divisors s)) (all is_small (settings_numbers s)) e).1 in
        ltb-true (get_or (settings_numbers s) i 0) (2 ^ 48) (all-at is_small (settings_numbers s) i 0 l p)

-- Test 3

pub small : (n : ℕ) → is_small n ≡ true → n < 2 ^ 48
small n e = ltb-true n (2 ^ 48) e

pub record GoodFinality (f : Finality) : Type 0 where
  pub slot : f.slot < 2 ^ 48
  pub bits : f.justification_bits ≤ 15
  pub previous : f.previous_justified_checkpoint.epoch < 2 ^ 48
  pub current : f.current_justified_checkpoint.epoch < 2 ^ 48
  pub finalized : f.finalized_checkpoint.epoch < 2 ^ 48

pub good-finality : (f : Finality) → good_finality f ≡ true → GoodFinality f
unfolding good_finality
good-finality f e =
    let t = test _ e in
    record { slot = small _ (t 0); bits = leb-true _ 15 (t 1); previous = small _ (t 2); current = small _ (t 3); finalized = small _ (t 4) }

pub record GoodValidator (v : Validator) : Type 0 where
  pub slashed : v.slashed ≤ 1
  pub previous : v.previous_epoch_participation ≤ 255
  pub current : v.current_epoch_participation ≤ 255

pub good-validator : (v : Validator) → good_validator v ≡ true → GoodValidator v
unfolding good_validator
good-validator v e =
    let t = test _ e in
    record { slashed = leb-true _ 1 (t 0); previous = leb-true _ 255 (t 1); current = leb-true _ 255 (t 2) }

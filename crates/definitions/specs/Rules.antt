-- 02, R-3: settings, fork and the Bellatrix pair.
use Rattle.std.specs.Prelude.{Bool, cond, ◌&&◌, ◌||◌, not, List, [], ◌∷◌, ℕ, leb, eqb}
use Rattle.definitions.specs.declared.Settings.{Settings}
use Rattle.definitions.specs.declared.Bellatrix.{Bellatrix}
use Rattle.definitions.specs.declared.Rules.{Rules}
use Rattle.definitions.specs.Checked.{Checked}
use Rattle.definitions.specs.Refusals.{in_order, is_small, settings_shaped, good_settings, registry_shaped, slashings_shaped, same_length, good_registry}
use Rattle.definitions.specs.LeafRefusals.{entry_shaped, good_entry}
use Rattle.definitions.specs.Lists.{every}

-- the forks' numbers, as 02 has them in R-10
abbrev pub «ALTAIR» : ℕ
«ALTAIR» = 0

abbrev pub «BELLATRIX» : ℕ
«BELLATRIX» = 1

abbrev pub is_altair : Rules → Bool
is_altair r = eqb r.fork «ALTAIR»

-- "Bellatrix uses inactivity_penalty_quotient_bellatrix .. and proportional_slashing_multiplier_bellatrix .. in place of the Altair two"
abbrev pub in_place : Bellatrix → Settings → Settings
in_place b s =
    record {
      slots_per_epoch = s.slots_per_epoch;
      slots_per_historical_root = s.slots_per_historical_root;
      epochs_per_slashings_vector = s.epochs_per_slashings_vector;
      effective_balance_increment = s.effective_balance_increment;
      max_effective_balance = s.max_effective_balance;
      hysteresis_quotient = s.hysteresis_quotient;
      hysteresis_downward_multiplier = s.hysteresis_downward_multiplier;
      hysteresis_upward_multiplier = s.hysteresis_upward_multiplier;
      base_reward_factor = s.base_reward_factor;
      min_epochs_to_inactivity_penalty = s.min_epochs_to_inactivity_penalty;
      inactivity_score_bias = s.inactivity_score_bias;
      inactivity_score_recovery_rate = s.inactivity_score_recovery_rate;
      inactivity_penalty_quotient_altair = b.inactivity_penalty_quotient_bellatrix;
      proportional_slashing_multiplier_altair = b.proportional_slashing_multiplier_bellatrix;
      max_seed_lookahead = s.max_seed_lookahead;
      min_validator_withdrawability_delay = s.min_validator_withdrawability_delay;
      ejection_balance = s.ejection_balance;
      min_per_epoch_churn_limit = s.min_per_epoch_churn_limit;
      churn_limit_quotient = s.churn_limit_quotient;
    }

-- the settings that the steps go by: "All other rules are shared"
unfoldable pub settings_under : Rules → Settings
settings_under r = cond (is_altair r) r.settings (in_place r.bellatrix r.settings)

-- "Record files name neither, and the listing program closes as Altair": fork 0, under which the pair may be anything
abbrev pub altair_rules : Settings → Rules
altair_rules s =
    record {
      settings = s;
      fork = «ALTAIR»;
      bellatrix = record { inactivity_penalty_quotient_bellatrix = 0; proportional_slashing_multiplier_bellatrix = 0 };
    }

-- Test 1: a fork over 1 is neither

unfoldable pub rules_shaped : Rules → Bool
rules_shaped r = settings_shaped r.settings && leb r.fork «BELLATRIX»

-- Test 2: "only a Bellatrix close reads it, and then refusal 2 tests it besides the Altair two"

unfoldable pub good_bellatrix : Bellatrix → Bool
good_bellatrix b =
    every (
    not (eqb b.inactivity_penalty_quotient_bellatrix 0)
    ∷ is_small b.inactivity_penalty_quotient_bellatrix
    ∷ is_small b.proportional_slashing_multiplier_bellatrix
    ∷ []
    )

unfoldable pub good_rules : Rules → Bool
good_rules r = good_settings r.settings && (is_altair r || good_bellatrix r.bellatrix)

-- The calls that read the pair, besides the close: two steps and a leaf

-- process_rewards_and_penalties
unfoldable pub rewards_tests : Rules → ℕ → ℕ → List ℕ → List ℕ → Checked (Unit {0})
rewards_tests r state_slot finalized_epoch opening closing =
    let shaped = rules_shaped r ∷ registry_shaped opening ∷ same_length opening closing ∷ [] in
    in_order shaped (good_rules r ∷ []) (is_small state_slot ∷ is_small finalized_epoch ∷ good_registry opening ∷ [])

unfoldable pub slashings_tests : Rules → ℕ → List ℕ → List ℕ → List ℕ → Checked (Unit {0})
slashings_tests r state_slot slashings opening closing =
    let shaped = rules_shaped r ∷ slashings_shaped r.settings slashings ∷ registry_shaped opening ∷ same_length opening closing ∷ [] in
    in_order shaped (good_rules r ∷ []) (is_small state_slot ∷ good_registry opening ∷ [])

-- get_inactivity_penalty_deltas
unfoldable pub inactivity_penalty_tests : Rules → ℕ → List ℕ → Checked (Unit {0})
inactivity_penalty_tests r state_slot entry = in_order (rules_shaped r ∷ entry_shaped entry ∷ []) (good_rules r ∷ []) (is_small state_slot ∷ good_entry entry ∷ [])

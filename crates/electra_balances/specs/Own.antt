-- The settings that a validator's own turn goes by.
use Rattle.std.specs.Prelude.{ℕ}
use Rattle.definitions.specs.declared.Settings.{Settings}
use Rattle.definitions_electra.specs.declared.ElectraRules.{ElectraRules}
use Rattle.definitions_electra.specs.Document.Electra.Helpers.{get_max_effective_balance}

-- with another maximum
abbrev pub within : ℕ → Settings → Settings
within most s =
    record {
      slots_per_epoch = s.slots_per_epoch;
      slots_per_historical_root = s.slots_per_historical_root;
      epochs_per_slashings_vector = s.epochs_per_slashings_vector;
      effective_balance_increment = s.effective_balance_increment;
      max_effective_balance = most;
      hysteresis_quotient = s.hysteresis_quotient;
      hysteresis_downward_multiplier = s.hysteresis_downward_multiplier;
      hysteresis_upward_multiplier = s.hysteresis_upward_multiplier;
      base_reward_factor = s.base_reward_factor;
      min_epochs_to_inactivity_penalty = s.min_epochs_to_inactivity_penalty;
      inactivity_score_bias = s.inactivity_score_bias;
      inactivity_score_recovery_rate = s.inactivity_score_recovery_rate;
      inactivity_penalty_quotient_altair = s.inactivity_penalty_quotient_altair;
      proportional_slashing_multiplier_altair = s.proportional_slashing_multiplier_altair;
      max_seed_lookahead = s.max_seed_lookahead;
      min_validator_withdrawability_delay = s.min_validator_withdrawability_delay;
      ejection_balance = s.ejection_balance;
      min_per_epoch_churn_limit = s.min_per_epoch_churn_limit;
      churn_limit_quotient = s.churn_limit_quotient;
    }

abbrev pub own_settings : ElectraRules → ℕ → Settings
own_settings r compounding = within (get_max_effective_balance r.electra compounding) r.settings

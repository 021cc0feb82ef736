-- The settings of mainnet. Document 01, "Settings".
use Rattle.definitions.specs.declared.Settings.{Settings}
use Rattle.definitions.specs.declared.Bellatrix.{Bellatrix}

abbrev pub mainnet : Settings
mainnet =
    record {
      slots_per_epoch = 32;
      slots_per_historical_root = 8192;
      epochs_per_slashings_vector = 8192;
      effective_balance_increment = 1_000_000_000;
      max_effective_balance = 32_000_000_000;
      hysteresis_quotient = 4;
      hysteresis_downward_multiplier = 1;
      hysteresis_upward_multiplier = 5;
      base_reward_factor = 64;
      min_epochs_to_inactivity_penalty = 4;
      inactivity_score_bias = 4;
      inactivity_score_recovery_rate = 16;
      inactivity_penalty_quotient_altair = 50_331_648;
      proportional_slashing_multiplier_altair = 2;
      max_seed_lookahead = 4;
      min_validator_withdrawability_delay = 256;
      ejection_balance = 16_000_000_000;
      min_per_epoch_churn_limit = 4;
      churn_limit_quotient = 65_536;
    }

-- 02, R-3: "mainnet 16777216" and "mainnet 3"
abbrev pub mainnet_bellatrix : Bellatrix
mainnet_bellatrix = record { inactivity_penalty_quotient_bellatrix = 16_777_216; proportional_slashing_multiplier_bellatrix = 3 }

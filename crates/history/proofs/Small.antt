-- A small network for the examples, which are checked by computing.
use mathlib.Core.List.{List, [], ◌∷◌}
use Prim.Native.Nat.{ℕ}
use lib.ListN.{replicate}
use Rattle.definitions.specs.declared.Settings.{Settings}
use Rattle.definitions.specs.declared.Checkpoint.{Checkpoint}
use Rattle.definitions.specs.Record.{Validator, BeaconState, FAR_FUTURE_EPOCH, encode}
use Rattle.definitions.specs.Rules.{altair_rules}
use Rattle.definitions.specs.Close.{Call}

-- a base reward factor of 0 keeps the balances still
abbrev pub settings_of : ℕ → ℕ → Settings
settings_of slots m =
    record {
      slots_per_epoch = slots;
      slots_per_historical_root = 8;
      epochs_per_slashings_vector = 1;
      effective_balance_increment = 1;
      max_effective_balance = 32;
      hysteresis_quotient = 1;
      hysteresis_downward_multiplier = 1;
      hysteresis_upward_multiplier = 1;
      base_reward_factor = 0;
      min_epochs_to_inactivity_penalty = 4;
      inactivity_score_bias = 4;
      inactivity_score_recovery_rate = 16;
      inactivity_penalty_quotient_altair = 1;
      proportional_slashing_multiplier_altair = 2;
      max_seed_lookahead = 4;
      min_validator_withdrawability_delay = 256;
      ejection_balance = 16;
      min_per_epoch_churn_limit = m;
      churn_limit_quotient = 65536;
    }

abbrev pub settings_with : ℕ → Settings
settings_with m = settings_of 4 m

abbrev pub settings : Settings
settings = settings_with 2

-- a full validator with these epochs and flags
abbrev pub validator : ℕ → ℕ → ℕ → ℕ → Validator
validator eligibility activation previous current =
    record {
      effective_balance = 32;
      slashed = 0;
      activation_eligibility_epoch = eligibility;
      activation_epoch = activation;
      exit_epoch = FAR_FUTURE_EPOCH;
      withdrawable_epoch = FAR_FUTURE_EPOCH;
      balance = 32;
      previous_epoch_participation = previous;
      current_epoch_participation = current;
      inactivity_score = 0;
    }

abbrev pub far : ℕ
far = FAR_FUTURE_EPOCH

abbrev pub checkpoint : ℕ → Checkpoint
checkpoint epoch = record { epoch = epoch; root = replicate 32 0 }

abbrev pub record_of : ℕ → ℕ → ℕ → ℕ → ℕ → List Validator → BeaconState
record_of slot bits previous current final vs =
    record {
      finality = record {
        slot = slot;
        justification_bits = bits;
        previous_justified_checkpoint = checkpoint previous;
        current_justified_checkpoint = checkpoint current;
        finalized_checkpoint = checkpoint final;
      };
      validators = vs;
      slashings = 0 ∷ [];
      block_roots = replicate 256 0;
    }

-- handed o, with closing buffers of n numbers and of one
abbrev pub call : Settings → ℕ → BeaconState → Call
call s n o =
    record {
      rules = altair_rules s;
      finality = o.finality;
      registry = encode o.validators;
      slashings = o.slashings;
      roots = o.block_roots;
      closing_registry = replicate n 7;
      closing_slashings = 7 ∷ [];
    }

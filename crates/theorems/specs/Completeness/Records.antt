-- The smallest records of docs/DIFFERENCES.md: each row is met by one that passes the tests, as a step and, for two of them, in a close.
use Rattle.std.specs.Prelude.{◌≡◌, List, [], ◌∷◌, ◌++◌, ℕ, ◌+◌, ◌-◌, ◌^◌, get_or, replicate}
use Rattle.definitions.specs.declared.ActivationLimit.TheVariants.{Churn}
use Rattle.definitions.specs.declared.Settings.{Settings}
use Rattle.definitions.specs.declared.Checkpoint.{Checkpoint}
use Rattle.definitions.specs.Record.{nobody, FAR_FUTURE_EPOCH}
use Rattle.definitions.specs.Checked.{value, refused}
use Rattle.definitions.specs.declared.Refusal.TheVariants.{Overflow}
use Rattle.definitions.specs.Rules.{«BELLATRIX», settings_under, altair_rules}
use Rattle.definitions.specs.Close as Rust
use Rattle.definitions.specs.Close.{finalized_epoch_of, inactivity_step, rewards_step, registry_step, effective_balances_step, Call, state_of, close_tests}
use Rattle.theorems.specs.Completeness.DocumentIn64Bits as In64Bits
use Rattle.theorems.specs.Completeness.Complete.{StepParts, LeafParts, CloseParts}
use Rattle.theorems.specs.Completeness.Rows.{Row}

-- 1 for the divisors and the two lengths, and 0 for the rest, but for these three
abbrev pub least : ℕ → ℕ → ℕ → Settings
least increment downward lookahead =
    record {
      slots_per_epoch = 1;
      slots_per_historical_root = 1;
      epochs_per_slashings_vector = 1;
      effective_balance_increment = increment;
      max_effective_balance = 0;
      hysteresis_quotient = 1;
      hysteresis_downward_multiplier = downward;
      hysteresis_upward_multiplier = 0;
      base_reward_factor = 0;
      min_epochs_to_inactivity_penalty = 0;
      inactivity_score_bias = 1;
      inactivity_score_recovery_rate = 0;
      inactivity_penalty_quotient_altair = 1;
      proportional_slashing_multiplier_altair = 0;
      max_seed_lookahead = lookahead;
      min_validator_withdrawability_delay = 0;
      ejection_balance = 0;
      min_per_epoch_churn_limit = 0;
      churn_limit_quotient = 1;
    }

-- this registry, slot, and finalized epoch, under fork 0
abbrev pub call_of : Settings → List ℕ → ℕ → ℕ → Call
call_of s registry slot finalized =
    let checkpoint : ℕ → Checkpoint = λ epoch. record { epoch = epoch; root = replicate 32 0 } in
    record {
      rules = altair_rules s;
      finality = record {
        slot = slot;
        justification_bits = 0;
        previous_justified_checkpoint = checkpoint 0;
        current_justified_checkpoint = checkpoint 0;
        finalized_checkpoint = checkpoint finalized;
      };
      registry = registry;
      slashings = 0 ∷ [];
      roots = replicate 32 0;
      closing_registry = registry;
      closing_slashings = 0 ∷ [];
    }

-- the same under fork 1, with a pair of other numbers than the Altair two
abbrev pub on_bellatrix : Call → Call
on_bellatrix c =
    let s = c.rules.settings in
    record {
      rules = record {
        settings = s;
        fork = «BELLATRIX»;
        bellatrix = record {
          inactivity_penalty_quotient_bellatrix = s.inactivity_penalty_quotient_altair + 1;
          proportional_slashing_multiplier_bellatrix = s.proportional_slashing_multiplier_altair + 3;
        };
      };
      finality = c.finality;
      registry = c.registry;
      slashings = c.slashings;
      roots = c.roots;
      closing_registry = c.closing_registry;
      closing_slashings = c.closing_slashings;
    }

-- no validators in epoch 1, which is finalized
abbrev pub ahead : Call
ahead = call_of (least 1 0 0) [] 1 1

-- the same with a validator, active, that hit no flag
abbrev pub missed : Call
missed = call_of (least 1 0 0) (1 ∷ 0 ∷ 0 ∷ 0 ∷ FAR_FUTURE_EPOCH ∷ FAR_FUTURE_EPOCH ∷ 1 ∷ 0 ∷ 0 ∷ 0 ∷ []) 1 1

-- the same with two, whose effective balances, 2^63 each, have a sum outside 64 bits: in the row of rewards, but the document goes no further either
abbrev pub heavy : Call
heavy =
    let v : List ℕ = 2 ^ 63 ∷ 0 ∷ 0 ∷ 0 ∷ FAR_FUTURE_EPOCH ∷ FAR_FUTURE_EPOCH ∷ 1 ∷ 0 ∷ 0 ∷ 0 ∷ [] in
    call_of (least 1 0 0) (v ++ v) 1 1

-- no validators, and the downward threshold is 2^94
abbrev pub wide : Call
wide = call_of (least (2 ^ 47) (2 ^ 47) 0) [] 0 0

-- no settings that test 2 passes: the activation epoch is 2^64
abbrev pub untested : Call
untested = call_of (least 1 0 (2 ^ 64 - 1)) [] 0 0

-- `ahead`, `missed` and `wide` pass the tests and part: a step of each, the leaf, and, but for rewards, the whole close
pub record Parting (turned : Call → Call) : Type 0 where
  pub ahead_tests : close_tests (turned ahead) ≡ value tt
  pub inactivity : StepParts Churn (settings_under (turned ahead).rules) (state_of (turned ahead)) inactivity_step
  pub rewards : StepParts Churn (settings_under (turned ahead).rules) (state_of (turned ahead)) rewards_step
  pub ahead_close : CloseParts Churn (settings_under (turned ahead).rules) (state_of (turned ahead))
  pub missed_tests : close_tests (turned missed) ≡ value tt
  pub missed_rewards : StepParts Churn (settings_under (turned missed).rules) (state_of (turned missed)) rewards_step
  pub missed_leaf : let c = turned missed in let st = state_of c in
      LeafParts (settings_under c.rules) c.finality.slot (finalized_epoch_of st) st.validators 0 (get_or st.validators 0 nobody)
  pub missed_close : let s = settings_under (turned missed).rules in let st = state_of (turned missed) in
      (Rust.process_epoch s st ≡ refused Overflow) × (In64Bits.process_epoch s st ≡ refused Overflow)
  pub wide_tests : close_tests (turned wide) ≡ value tt
  pub effective_balances : StepParts Churn (settings_under (turned wide).rules) (state_of (turned wide)) effective_balances_step
  pub wide_close : CloseParts Churn (settings_under (turned wide).rules) (state_of (turned wide))
  -- in a row, and both refuse
  pub heavy_tests : close_tests (turned heavy) ≡ value tt
  pub heavy_row : Row (settings_under (turned heavy).rules) (state_of (turned heavy)) rewards_step
  pub heavy_document : In64Bits.step (settings_under (turned heavy).rules) (state_of (turned heavy)) rewards_step ≡ refused Overflow
  -- why the steps are said of what passes the tests: without them registry would part, too
  pub untested_rust : Rust.step (settings_under (turned untested).rules) (state_of (turned untested)) registry_step ≡ refused Overflow
  pub untested_document : In64Bits.step (settings_under (turned untested).rules) (state_of (turned untested)) registry_step ≡ value (state_of (turned untested))

pub record Records : Type 0 where
  pub altair : Parting (λ c. c)
  pub bellatrix : Parting on_bellatrix

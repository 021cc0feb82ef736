-- Tests 1, 2 and 3 of document 01, "What is returned", in their order, and what the closing buffers then hold.
use Rattle.std.specs.Prelude.{Bool, cond, ◌&&◌, not, List, [], ◌∷◌, ℕ, ◌*◌, ◌/◌, ◌%◌, ◌^◌, leb, ltb, eqb, length, get_or}
use Rattle.definitions.specs.declared.Settings.{Settings}
use Rattle.definitions.specs.declared.Finality.{Finality}
use Rattle.definitions.specs.Lists.{all, every}
use Rattle.definitions.specs.Record.{Validator, decode}
use Rattle.definitions.specs.Checked.{Checked, value, refused, bind}
use Rattle.definitions.specs.declared.Refusal.TheVariants.{BadShape, BadSettings, BadRecord}

-- the tests that are numbered 1, then those numbered 2, then 3: a call lists what it tests of all that it is lent, under each number
unfoldable pub in_order : List Bool → List Bool → List Bool → Checked (Unit {0})
in_order shaped settings recorded =
    cond (every shaped) (cond (every settings) (cond (every recorded) (value tt) (refused BadRecord)) (refused BadSettings)) (refused BadShape)

-- Test 1: N over 2^24, S or L outside 1 to 65536, or a lent length that is not exactly the one called for

abbrev pub is_vector_length : ℕ → Bool
is_vector_length n = leb 1 n && leb n 65536

unfoldable pub settings_shaped : Settings → Bool
settings_shaped s = is_vector_length s.slots_per_historical_root && is_vector_length s.epochs_per_slashings_vector

-- ten numbers a validator
unfoldable pub registry_shaped : List ℕ → Bool
registry_shaped registry = eqb (length registry % 10) 0 && leb (length registry / 10) (2 ^ 24)

abbrev pub length_is : ℕ → List ℕ → Bool
length_is n xs = eqb (length xs) n

abbrev pub roots_shaped : Settings → List ℕ → Bool
roots_shaped s roots = length_is (32 * s.slots_per_historical_root) roots

abbrev pub slashings_shaped : Settings → List ℕ → Bool
slashings_shaped s slashings = length_is s.epochs_per_slashings_vector slashings

-- a closing buffer is as long as its opening
abbrev pub same_length : List ℕ → List ℕ → Bool
same_length opening closing = length_is (length opening) closing

-- Test 2: one of six settings is 0, or any is 2^48 or more

abbrev pub is_small : ℕ → Bool
is_small n = ltb n (2 ^ 48)

-- in document 01's order
abbrev pub settings_numbers : Settings → List ℕ
settings_numbers s =
    s.slots_per_epoch ∷
    s.slots_per_historical_root ∷
    s.epochs_per_slashings_vector ∷
    s.effective_balance_increment ∷
    s.max_effective_balance ∷
    s.hysteresis_quotient ∷
    s.hysteresis_downward_multiplier ∷
    s.hysteresis_upward_multiplier ∷
    s.base_reward_factor ∷
    s.min_epochs_to_inactivity_penalty ∷
    s.inactivity_score_bias ∷
    s.inactivity_score_recovery_rate ∷
    s.inactivity_penalty_quotient_altair ∷
    s.proportional_slashing_multiplier_altair ∷
    s.max_seed_lookahead ∷
    s.min_validator_withdrawability_delay ∷
    s.ejection_balance ∷
    s.min_per_epoch_churn_limit ∷
    s.churn_limit_quotient ∷
    []

-- and back
abbrev pub settings_from : List ℕ → Settings
settings_from xs =
    record {
      slots_per_epoch = get_or xs 0 0;
      slots_per_historical_root = get_or xs 1 0;
      epochs_per_slashings_vector = get_or xs 2 0;
      effective_balance_increment = get_or xs 3 0;
      max_effective_balance = get_or xs 4 0;
      hysteresis_quotient = get_or xs 5 0;
      hysteresis_downward_multiplier = get_or xs 6 0;
      hysteresis_upward_multiplier = get_or xs 7 0;
      base_reward_factor = get_or xs 8 0;
      min_epochs_to_inactivity_penalty = get_or xs 9 0;
      inactivity_score_bias = get_or xs 10 0;
      inactivity_score_recovery_rate = get_or xs 11 0;
      inactivity_penalty_quotient_altair = get_or xs 12 0;
      proportional_slashing_multiplier_altair = get_or xs 13 0;
      max_seed_lookahead = get_or xs 14 0;
      min_validator_withdrawability_delay = get_or xs 15 0;
      ejection_balance = get_or xs 16 0;
      min_per_epoch_churn_limit = get_or xs 17 0;
      churn_limit_quotient = get_or xs 18 0;
    }

abbrev pub divisors : Settings → List ℕ
divisors s =
    s.slots_per_epoch ∷
    s.effective_balance_increment ∷
    s.hysteresis_quotient ∷
    s.inactivity_score_bias ∷
    s.inactivity_penalty_quotient_altair ∷
    s.churn_limit_quotient ∷
    []

unfoldable pub good_settings : Settings → Bool
good_settings s = all (λ n. not (eqb n 0)) (divisors s) && all is_small (settings_numbers s)

-- Test 3: slot or checkpoint epoch 2^48 or more, bits over 15, slashed over 1, flags over 255

unfoldable pub good_finality : Finality → Bool
good_finality f =
    every (
    is_small f.slot
    ∷ leb f.justification_bits 15
    ∷ is_small f.previous_justified_checkpoint.epoch
    ∷ is_small f.current_justified_checkpoint.epoch
    ∷ is_small f.finalized_checkpoint.epoch
    ∷ []
    )

unfoldable pub good_validator : Validator → Bool
good_validator v = every (leb v.slashed 1 ∷ leb v.previous_epoch_participation 255 ∷ leb v.current_epoch_participation 255 ∷ [])

unfoldable pub good_registry : List ℕ → Bool
good_registry registry = all good_validator (decode registry)

-- What comes back

-- the tests' refusal, or what is worked out after them
unfoldable pub after_tests : {A : Type 0} → Checked (Unit {0}) → Checked A → Checked A
after_tests tests work = bind tests (λ _. work)

-- a closing buffer: untouched where a test refused, the opening's on 4 and 5, and else what was worked out
unfoldable pub closing_buffer : {A : Type 0} → (A → List ℕ) → Checked (Unit {0}) → Checked A → List ℕ → List ℕ → List ℕ
closing_buffer contents (refused r) work opening closing = closing
closing_buffer contents (value u) (refused r) opening closing = opening
closing_buffer contents (value u) (value a) opening closing = contents a

-- The eight steps: a step tests exactly what it is lent. Rewards and slashings are lent rules: Rules.antt.

unfoldable pub justification_tests : Settings → List ℕ → Finality → List ℕ → Checked (Unit {0})
justification_tests s roots f registry =
    in_order (settings_shaped s ∷ roots_shaped s roots ∷ registry_shaped registry ∷ []) (good_settings s ∷ []) (good_finality f ∷ good_registry registry ∷ [])

-- inactivity and registry
unfoldable pub registry_tests : Settings → ℕ → ℕ → List ℕ → List ℕ → Checked (Unit {0})
registry_tests s state_slot finalized_epoch opening closing =
    let shaped = settings_shaped s ∷ registry_shaped opening ∷ same_length opening closing ∷ [] in
    in_order shaped (good_settings s ∷ []) (is_small state_slot ∷ is_small finalized_epoch ∷ good_registry opening ∷ [])

unfoldable pub effective_balance_tests : Settings → List ℕ → List ℕ → Checked (Unit {0})
effective_balance_tests s opening closing =
    in_order (settings_shaped s ∷ registry_shaped opening ∷ same_length opening closing ∷ []) (good_settings s ∷ []) (good_registry opening ∷ [])

unfoldable pub slashings_reset_tests : Settings → ℕ → List ℕ → List ℕ → Checked (Unit {0})
slashings_reset_tests s state_slot opening closing =
    in_order (settings_shaped s ∷ slashings_shaped s opening ∷ same_length opening closing ∷ []) (good_settings s ∷ []) (is_small state_slot ∷ [])

-- flag rotation is lent no settings
unfoldable pub rotation_tests : List ℕ → List ℕ → Checked (Unit {0})
rotation_tests opening closing = in_order (registry_shaped opening ∷ same_length opening closing ∷ []) [] (good_registry opening ∷ [])

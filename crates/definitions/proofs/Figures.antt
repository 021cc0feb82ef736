-- The figures of document 01, "Figures to meet", that are marked [P], as one table about the definitions that contracts cite; then
-- three of its other figures, four more, which hold the definitions to what the marked ones leave open, and those of 02, R-3.
use mathlib.Core.Path.{◌≡◌, refl, ap}
use mathlib.Core.Bool.{true, false, not}
use mathlib.Core.List.{List, [], ◌∷◌, map}
use Prim.Native.Nat.{ℕ, zero, suc, ◌+◌, ◌-◌, ◌*◌, ◌/◌, ◌^◌, min, max}
use lib.ListN.{length, replicate, get_or}
use Rattle.definitions.specs.declared.Settings.{Settings}
use Rattle.definitions.specs.declared.Deltas.{Deltas}
use Rattle.definitions.specs.declared.Checkpoint.{Checkpoint}
use Rattle.definitions.specs.declared.Finality.{Finality}
use Rattle.definitions.specs.Lists.{filter, sum}
use Rattle.definitions.specs.Record.{Validator, FAR_FUTURE_EPOCH, nobody}
use Rattle.definitions.specs.Updates.{with_participation}
use Rattle.definitions.specs.Checked.{Checked, value, refused, bind, add64, sub64, mul64, sum64, map_checked, fold_checked}
use Rattle.definitions.specs.declared.Refusal.TheVariants.{NoRoot, Overflow}
use Rattle.definitions.specs.Mainnet.{mainnet, mainnet_bellatrix}
use Rattle.definitions.specs.Rules.{settings_under, «ALTAIR», «BELLATRIX»}
use Rattle.definitions.specs.Document.Phase0.Helpers.{integer_squareroot, root_within}
use Rattle.definitions.specs.Document.Phase0.Helpers as document
use Rattle.definitions.specs.Document.Phase0.EpochProcessing.{justified_bits, finalized_by, weighed, rounded_balance}
use Rattle.definitions.specs.Rust.Phase0.Helpers.{is_active_validator, compute_epoch_at_slot, get_current_epoch, get_previous_epoch, compute_start_slot_at_epoch, get_block_root, get_block_root_at_slot, get_active_validator_indices, get_validator_churn_limit, get_total_balance, get_total_active_balance, increase_balance, decrease_balance}
use Rattle.definitions.specs.Rust.Phase0.EpochProcessing.{is_justified, root_where, weigh_justification_and_finalization, get_finality_delay, is_in_inactivity_leak, is_eligible, update_effective_balance, process_effective_balance_updates}
use Rattle.definitions.specs.Rust.Altair.Helpers.{has_flag, is_unslashed_participating, get_unslashed_participating_indices, get_base_reward_per_increment, get_base_reward, flag_totals, hit_deltas, miss_deltas, flag_index_deltas, get_flag_index_deltas, inactivity_penalty_deltas, get_inactivity_penalty_deltas}
use Rattle.definitions.specs.Rust.Altair.EpochProcessing.{moved_score, recovered_score, update_inactivity_score, process_inactivity_updates, apply_delta, all_deltas, reward_and_penalize, process_rewards_and_penalties, is_slashing_due, slashing_penalty, slash, process_slashings, process_justification_and_finalization}

-- "five validators of 32×10^9, all active": balance, both epochs' flags and score are given
abbrev validator : ℕ → ℕ → ℕ → ℕ → Validator
validator effective balance flags score =
    record {
      effective_balance = effective;
      slashed = 0;
      activation_eligibility_epoch = 0;
      activation_epoch = 0;
      exit_epoch = FAR_FUTURE_EPOCH;
      withdrawable_epoch = FAR_FUTURE_EPOCH;
      balance = balance;
      previous_epoch_participation = flags;
      current_epoch_participation = flags;
      inactivity_score = score;
    }

-- a full one with these flags; 1 is source, 2 target, 4 head
abbrev flagged : ℕ → Validator
flagged flags = validator 32_000_000_000 32_000_000_000 flags 0

abbrev pub five : ℕ → ℕ → List Validator
five first others = flagged first ∷ flagged others ∷ flagged others ∷ flagged others ∷ flagged others ∷ []

-- slot 127 is the last of epoch 3, and epoch 2 is finalized: no leak
abbrev slot : ℕ
slot = 127

abbrev delta : ℕ → ℕ → Checked Deltas
delta r p = value (record { reward = r; penalty = p })

-- the first of five, slashed, with its penalty due
abbrev due : Validator
due =
    record {
      effective_balance = 32_000_000_000;
      slashed = 1;
      activation_eligibility_epoch = 0;
      activation_epoch = 0;
      exit_epoch = 4;
      withdrawable_epoch = 4099;
      balance = 32_000_000_000;
      previous_epoch_participation = 0;
      current_epoch_participation = 0;
      inactivity_score = 0;
    }

abbrev one_due : List Validator
one_due = due ∷ flagged 7 ∷ flagged 7 ∷ flagged 7 ∷ flagged 7 ∷ []

abbrev balances : Checked (List Validator) → List ℕ
balances (value vs) = map (λ v. v.balance) vs
balances (refused r) = []

abbrev effectives : Checked (List Validator) → List ℕ
effectives (value vs) = map (λ v. v.effective_balance) vs
effectives (refused r) = []

abbrev scores : Checked (List Validator) → List ℕ
scores (value vs) = map (λ v. v.inactivity_score) vs
scores (refused r) = []

-- the first of five missed source and target and hit the head, with a balance of 1000000; another missed all
abbrev poor : List Validator
poor = validator 32_000_000_000 1_000_000 4 0 ∷ flagged 4 ∷ flagged 4 ∷ flagged 4 ∷ flagged 0 ∷ []

-- The two wrong alternatives that document 01 names, from the same totals and deltas as the right ones

abbrev pub netted_first : List Validator → Validator → Checked ℕ
netted_first vs v =
    let flag : ℕ → Checked Deltas = λ flag_index. get_flag_index_deltas mainnet slot 2 vs flag_index v in
    bind (flag 0) (λ source.
    bind (flag 1) (λ target.
    bind (flag 2) (λ head.
    bind (get_inactivity_penalty_deltas mainnet mainnet.inactivity_penalty_quotient_altair slot v) (λ inactivity.
    let rewards = source.reward + target.reward + head.reward + inactivity.reward in
    let penalties = source.penalty + target.penalty + head.penalty + inactivity.penalty in
    value (v.balance + rewards - penalties)))))

abbrev pub divided_last : List ℕ → List Validator → Validator → Checked ℕ
divided_last slashings vs v =
    let increment = mainnet.effective_balance_increment in
    bind (get_total_active_balance mainnet slot vs) (λ total.
    bind (sum64 slashings) (λ slashed.
    bind (mul64 slashed mainnet.proportional_slashing_multiplier_altair) (λ product.
    value (v.effective_balance / increment * min product total * increment / total))))

-- active, with this effective balance and these flags of the previous and of the current epoch
abbrev pub voter : ℕ → ℕ → ℕ → Validator
voter effective previous current = with_participation previous current (validator effective effective 0 0)

-- five that hit the target of the previous epoch alone
abbrev previous_alone : List Validator
previous_alone = replicate 5 (voter 32_000_000_000 2 0)

-- three times the previous epoch's target is 2^64 - 1; the current epoch's target is one Gwei more
abbrev heavy : List Validator
heavy = voter 6_148_914_691_236_517_205 2 2 ∷ voter 1 0 2 ∷ []

-- mainnet's settings, but S is 8: in an epoch's last slot no root of an epoch's first slot is left
abbrev short_history : Settings
short_history =
    record {
      slots_per_epoch = mainnet.slots_per_epoch;
      slots_per_historical_root = 8;
      epochs_per_slashings_vector = mainnet.epochs_per_slashings_vector;
      effective_balance_increment = mainnet.effective_balance_increment;
      max_effective_balance = mainnet.max_effective_balance;
      hysteresis_quotient = mainnet.hysteresis_quotient;
      hysteresis_downward_multiplier = mainnet.hysteresis_downward_multiplier;
      hysteresis_upward_multiplier = mainnet.hysteresis_upward_multiplier;
      base_reward_factor = mainnet.base_reward_factor;
      min_epochs_to_inactivity_penalty = mainnet.min_epochs_to_inactivity_penalty;
      inactivity_score_bias = mainnet.inactivity_score_bias;
      inactivity_score_recovery_rate = mainnet.inactivity_score_recovery_rate;
      inactivity_penalty_quotient_altair = mainnet.inactivity_penalty_quotient_altair;
      proportional_slashing_multiplier_altair = mainnet.proportional_slashing_multiplier_altair;
      max_seed_lookahead = mainnet.max_seed_lookahead;
      min_validator_withdrawability_delay = mainnet.min_validator_withdrawability_delay;
      ejection_balance = mainnet.ejection_balance;
      min_per_epoch_churn_limit = mainnet.min_per_epoch_churn_limit;
      churn_limit_quotient = mainnet.churn_limit_quotient;
    }

-- mainnet's settings and pair under this fork
abbrev under : ℕ → Settings
under fork = settings_under (record { settings = mainnet; fork = fork; bellatrix = mainnet_bellatrix })

-- the inactivity penalty of score 100, and the balance of the first of five after a slashing
abbrev scored : Settings → Checked Deltas
scored s = get_inactivity_penalty_deltas s s.inactivity_penalty_quotient_altair slot (validator 32_000_000_000 32_000_000_000 0 100)

abbrev slashed_by : Settings → ℕ
slashed_by s = get_or (balances (process_slashings s s.proportional_slashing_multiplier_altair slot (32_000_000_000 ∷ []) one_due)) 0 0

-- these bits, and checkpoints of these epochs with roots of zeros
abbrev checkpoint : ℕ → Checkpoint
checkpoint epoch = record { epoch = epoch; root = replicate 32 0 }

abbrev finality : ℕ → ℕ → ℕ → ℕ → ℕ → Finality
finality state_slot bits previous current finalized =
    record {
      slot = state_slot;
      justification_bits = bits;
      previous_justified_checkpoint = checkpoint previous;
      current_justified_checkpoint = checkpoint current;
      finalized_checkpoint = checkpoint finalized;
    }

-- bits and the epochs of current justified and finalized
abbrev epochs : Checked Finality → List ℕ
epochs (value f) =
    f.justification_bits ∷ f.current_justified_checkpoint.epoch ∷ f.finalized_checkpoint.epoch ∷ []
epochs (refused r) = []

pub record Figures : Type 0 where
  -- root total 160×10^9: 400000; base reward per increment 160000, per validator 5120000
  pub root_of_total : integer_squareroot 160_000_000_000 ≡ 400_000
  pub total : get_total_active_balance mainnet slot (five 7 7) ≡ value 160_000_000_000
  pub per_increment : get_base_reward_per_increment mainnet 160_000_000_000 ≡ value 160_000
  pub per_validator : get_base_reward mainnet 160_000_000_000 (flagged 7) ≡ value 5_120_000
  -- all five hit target, no leak: reward 2080000; four: 1664000; missed target: penalty 2080000; missed head: 0
  pub five_hit : get_flag_index_deltas mainnet slot 2 (five 2 2) 1 (flagged 2) ≡ delta 2_080_000 0
  pub four_hit : get_flag_index_deltas mainnet slot 2 (five 0 2) 1 (flagged 2) ≡ delta 1_664_000 0
  pub target-missed : get_flag_index_deltas mainnet slot 2 (five 0 2) 1 (flagged 0) ≡ delta 0 2_080_000
  pub head-missed : get_flag_index_deltas mainnet slot 2 (five 0 2) 2 (flagged 0) ≡ delta 0 0
  -- no leak, balance 1000000, source and target missed, head hit by four including this one, score 0: 896000 after the rewards step
  pub rewards-step : get_or (balances (process_rewards_and_penalties mainnet mainnet.inactivity_penalty_quotient_altair slot 2 poor)) 0 0 ≡ 896_000
  pub not_netted : netted_first poor (get_or poor 0 nobody) ≡ value 0
  -- score 100, target missed: inactivity penalty 15894
  pub inactivity-penalty : get_inactivity_penalty_deltas mainnet mainnet.inactivity_penalty_quotient_altair slot (validator 32_000_000_000 32_000_000_000 0 100) ≡ delta 0 15_894
  -- score 10, target hit, no leak: 9, then 0
  pub score-moved : moved_score mainnet true 10 ≡ value 9
  pub score_recovered : scores (process_inactivity_updates mainnet slot 2 (validator 32_000_000_000 32_000_000_000 2 10 ∷ [])) ≡ 0 ∷ []
  -- slashings sum 32×10^9, penalty due: 12×10^9; dividing last gives 12.8×10^9
  pub slashed : get_or (balances (process_slashings mainnet mainnet.proportional_slashing_multiplier_altair slot (32_000_000_000 ∷ []) one_due)) 0 0 ≡ 20_000_000_000
  pub slashing-penalty : slashing_penalty mainnet 160_000_000_000 64_000_000_000 due ≡ value 12_000_000_000
  pub not_divided_last : divided_last (32_000_000_000 ∷ []) one_due due ≡ value 12_800_000_000
  -- effective 32×10^9, balance 31750000000: unchanged; 31749999999: 31×10^9
  pub effective-kept : effectives (process_effective_balance_updates mainnet (validator 32_000_000_000 31_750_000_000 0 0 ∷ [])) ≡ 32_000_000_000 ∷ []
  pub effective-lowered : effectives (process_effective_balance_updates mainnet (validator 32_000_000_000 31_749_999_999 0 0 ∷ [])) ≡ 31_000_000_000 ∷ []
  -- effective 31×10^9, balance 32250000000: unchanged; 32250000001: 32×10^9
  pub effective_low_kept : effectives (process_effective_balance_updates mainnet (validator 31_000_000_000 32_250_000_000 0 0 ∷ [])) ≡ 31_000_000_000 ∷ []
  pub effective-raised : effectives (process_effective_balance_updates mainnet (validator 31_000_000_000 32_250_000_001 0 0 ∷ [])) ≡ 32_000_000_000 ∷ []
  -- total 3×10^9: target 2×10^9 justifies, 1999999999 does not
  pub justifies : is_justified 2_000_000_000 3_000_000_000 ≡ value true
  pub does_not_justify : is_justified 1_999_999_999 3_000_000_000 ≡ value false
  -- S 8192, slot 0 at state slot 8192: found; at 8193: 4; slot equal to state slot: 4
  pub root-found : get_block_root_at_slot mainnet (replicate 32 7) 8192 0 ≡ value (replicate 32 7)
  pub root_too_old : get_block_root_at_slot mainnet (replicate 32 7) 8193 0 ≡ refused NoRoot
  pub root_of_now : get_block_root_at_slot mainnet (replicate 32 7) 8193 8193 ≡ refused NoRoot
  -- active 262143: churn 4; 327680: 5
  pub churn-least : (vs : List Validator) → length (get_active_validator_indices vs (get_current_epoch mainnet slot)) ≡ 262_143 → get_validator_churn_limit mainnet slot vs ≡ 4
  pub churn-more : (vs : List Validator) → length (get_active_validator_indices vs (get_current_epoch mainnet slot)) ≡ 327_680 → get_validator_churn_limit mainnet slot vs ≡ 5
  -- there are such lists
  pub least-active : length (get_active_validator_indices (replicate 262_143 (flagged 7)) (get_current_epoch mainnet slot)) ≡ 262_143
  pub more-active : length (get_active_validator_indices (replicate 327_680 (flagged 7)) (get_current_epoch mainnet slot)) ≡ 327_680
  -- not marked: no validators, roots found: both epochs are justified
  pub nobody-justifies : epochs (process_justification_and_finalization mainnet [] (finality slot 0 0 0 0) []) ≡ 3 ∷ 3 ∷ 0 ∷ []
  -- not marked: closing at the epoch's own first slot with two thirds current: 4
  pub first_slot : process_justification_and_finalization mainnet [] (finality 96 0 0 0 0) (five 7 7) ≡ refused NoRoot
  -- not marked: the worked example's finality (slots_per_epoch 32 for 8): epoch 3, bits 7, justified 3, finalized 2
  pub example-finality : epochs (process_justification_and_finalization mainnet [] (finality slot 3 1 2 1) (five 0 7)) ≡ 7 ∷ 3 ∷ 2 ∷ []
  -- added: bit 3 falls off, and nothing is justified where nobody hits the target
  pub bit_falls_off : epochs (process_justification_and_finalization mainnet [] (finality slot 8 0 0 0) (five 0 0)) ≡ 0 ∷ 0 ∷ 0 ∷ []
  -- added: the second finality test alone passes, and takes the previous justified; the second and the fourth pass, and the fourth overrides
  pub second-passes : epochs (process_justification_and_finalization mainnet [] (finality slot 3 1 2 0) previous_alone) ≡ 6 ∷ 2 ∷ 1 ∷ []
  pub fourth_overrides : epochs (process_justification_and_finalization mainnet [] (finality slot 3 1 2 0) (five 2 2)) ≡ 7 ∷ 3 ∷ 2 ∷ []
  -- added, the one order of 4 and 5 that shows: the previous epoch's root is looked up before the current epoch's product
  pub product-after : process_justification_and_finalization mainnet [] (finality slot 0 0 0 0) heavy ≡ refused Overflow
  pub root_before : process_justification_and_finalization short_history [] (finality slot 0 0 0 0) heavy ≡ refused NoRoot
  -- 02, R-3, the Bellatrix pair: the same two are 47683 and 19×10^9, and under fork 0 what they were
  pub bellatrix-inactivity_penalty : scored (under «BELLATRIX») ≡ delta 0 47_683
  pub bellatrix-slashed : slashed_by (under «BELLATRIX») ≡ 32_000_000_000 - 19_000_000_000
  pub altair-inactivity_penalty : scored (under «ALTAIR») ≡ delta 0 15_894
  pub altair-slashed : slashed_by (under «ALTAIR») ≡ 32_000_000_000 - 12_000_000_000

-- 262143 / 65536 is 3, below the least of 4; 327680 / 65536 is 5
churn-of : {limit : ℕ} (vs : List Validator) {n : ℕ} → length (get_active_validator_indices vs (get_current_epoch mainnet slot)) ≡ n → max 4 (n / 65_536) ≡ limit → get_validator_churn_limit mainnet slot vs ≡ limit
unfolding get_validator_churn_limit
churn-of vs e f = rw e f

all-active : (n : ℕ) → length (get_active_validator_indices (replicate n (flagged 7)) (get_current_epoch mainnet slot)) ≡ n
unfolding get_active_validator_indices is_active_validator get_current_epoch compute_epoch_at_slot filter
all-active zero = refl
all-active (suc n) = ap suc (all-active n)

pub figures : Figures
unfolding integer_squareroot root_within get_total_active_balance get_total_balance sum64 sum filter bind add64 sub64 mul64 map_checked fold_checked get_active_validator_indices is_active_validator get_current_epoch get_previous_epoch compute_epoch_at_slot get_base_reward_per_increment get_base_reward get_flag_index_deltas flag_totals flag_index_deltas hit_deltas miss_deltas is_eligible is_unslashed_participating get_unslashed_participating_indices has_flag is_in_inactivity_leak get_finality_delay process_rewards_and_penalties all_deltas reward_and_penalize inactivity_penalty_deltas get_inactivity_penalty_deltas apply_delta increase_balance decrease_balance moved_score recovered_score update_inactivity_score process_inactivity_updates process_slashings slash is_slashing_due slashing_penalty process_effective_balance_updates update_effective_balance rounded_balance is_justified get_block_root_at_slot document.get_block_root_at_slot get_block_root compute_start_slot_at_epoch process_justification_and_finalization weigh_justification_and_finalization root_where weighed justified_bits finalized_by settings_under
figures =
    record {
      root_of_total = refl;
      total = refl;
      per_increment = refl;
      per_validator = refl;
      five_hit = refl;
      four_hit = refl;
      target-missed = refl;
      head-missed = refl;
      rewards-step = refl;
      not_netted = refl;
      inactivity-penalty = refl;
      score-moved = refl;
      score_recovered = refl;
      slashed = refl;
      slashing-penalty = refl;
      not_divided_last = refl;
      effective-kept = refl;
      effective-lowered = refl;
      effective_low_kept = refl;
      effective-raised = refl;
      justifies = refl;
      does_not_justify = refl;
      root-found = refl;
      root_too_old = refl;
      root_of_now = refl;
      churn-least = λ vs e. churn-of vs e refl;
      churn-more = λ vs e. churn-of vs e refl;
      least-active = all-active 262_143;
      more-active = all-active 327_680;
      nobody-justifies = refl;
      first_slot = refl;
      example-finality = refl;
      bit_falls_off = refl;
      second-passes = refl;
      fourth_overrides = refl;
      product-after = refl;
      root_before = refl;
      bellatrix-inactivity_penalty = refl;
      bellatrix-slashed = refl;
      altair-inactivity_penalty = refl;
      altair-slashed = refl;
    }

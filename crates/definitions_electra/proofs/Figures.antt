-- Figures of Electra's definitions, each computed: document 03, F-2 gives the rules and none of the figures, so that these are worked out by hand.
use mathlib.Core.Path.{◌≡◌, refl}
use mathlib.Core.List.{List, [], ◌∷◌, map}
use Prim.Native.Nat.{ℕ, ◌-◌}
use lib.ListN.{length, get_or, replicate}
use Rattle.definitions.specs.declared.Checkpoint.{Checkpoint}
use Rattle.definitions.specs.Lists.{filter, sum, range}
use Rattle.definitions.specs.Record.{Validator, FAR_FUTURE_EPOCH}
use Rattle.definitions.specs.Checked.{Checked, value, refused, bind, add64, sub64, mul64, sum64, map_checked, fold_checked}
use Rattle.definitions.specs.declared.Refusal.TheVariants.{Overflow}
use Rattle.definitions.specs.Rust.Phase0.Helpers.{is_active_validator, is_eligible_for_activation, compute_epoch_at_slot, get_current_epoch, compute_start_slot_at_epoch, compute_activation_exit_epoch, get_active_validator_indices, get_total_balance, get_total_active_balance, increase_balance, decrease_balance}
use Rattle.definitions.specs.Mainnet.{mainnet}
use Rattle.definitions.specs.Rust.Altair.EpochProcessing as bellatrix
use Rattle.definitions.specs.Rust.Altair.EpochProcessing.{is_slashing_due, slashing_penalty}
use Rattle.definitions.specs.Refusals.{settings_from}
use Rattle.definitions_electra.specs.declared.ElectraRules.{ElectraRules}
use Rattle.definitions_electra.specs.declared.ExitChurn.{ExitChurn}
use Rattle.definitions_electra.specs.Loops.{fold_until_checked}
use Rattle.definitions_electra.specs.declared.PendingDeposit.{PendingDeposit}
use Rattle.definitions_electra.specs.Record.{PendingConsolidation, ElectraState, registry_of, with_deposits, place_of}
use Rattle.definitions_electra.specs.Mainnet.{mainnet_rules}
use Rattle.definitions_electra.specs.Document.Electra.Helpers.{is_eligible_for_activation_queue, get_max_effective_balance, balance_churn_limit, activation_exit_churn_limit}
use Rattle.definitions_electra.specs.Document.Electra.EpochProcessing.{get_validator_from_deposit, add_validator_to_registry, breaks_before, deposits_stop, consolidations_stop}
use Rattle.definitions_electra.specs.Evaluated.Electra.Helpers.{get_activation_exit_churn_limit, further_epochs, churned, compute_exit_epoch_and_update_churn, initiate_validator_exit}
use Rattle.definitions_electra.specs.Evaluated.Electra.EpochProcessing.{update_registry_at, process_registry_updates, slash, process_slashings, apply_pending_deposit, process_deposit, queueing, left_to_consume, process_pending_deposits, consolidate, process_consolidation, process_pending_consolidations, update_effective_balance, update_effective_balances, process_effective_balance_updates}

-- Mainnet, slot 127, the last of epoch 3; epoch 2 is finalized, so that its first slot is 64

abbrev gwei : ℕ
gwei = 1_000_000_000

-- active, with this effective balance, exit epoch, withdrawable epoch and balance
abbrev pub validator : ℕ → ℕ → ℕ → ℕ → ℕ → Validator
validator effective slashed exit withdrawable balance =
    record {
      effective_balance = effective;
      slashed = slashed;
      activation_eligibility_epoch = 0;
      activation_epoch = 0;
      exit_epoch = exit;
      withdrawable_epoch = withdrawable;
      balance = balance;
      previous_epoch_participation = 0;
      current_epoch_participation = 0;
      inactivity_score = 0;
    }

abbrev pub full : Validator
full = validator 32_000_000_000 0 FAR_FUTURE_EPOCH FAR_FUTURE_EPOCH 32_000_000_000

abbrev checkpoint : ℕ → Checkpoint
checkpoint epoch = record { epoch = epoch; root = replicate 32 0 }

-- keys in register's order, nothing to consume, the bridge's deposits all there
abbrev pub state : List Validator → List ℕ → ExitChurn → List PendingDeposit → List PendingConsolidation → ElectraState
state vs slashings churn deposits consolidations =
    record {
      altair = record {
        finality = record {
          slot = 127;
          justification_bits = 0;
          previous_justified_checkpoint = checkpoint 2;
          current_justified_checkpoint = checkpoint 2;
          finalized_checkpoint = checkpoint 2;
        };
        validators = vs;
        slashings = slashings;
        block_roots = [];
      };
      pubkeys = range 0 (length vs);
      compounding = replicate (length vs) 1;
      deposit_balance_to_consume = 0;
      churn = churn;
      eth1_deposit_index = 6;
      deposit_requests_start_index = 6;
      pending_deposits = deposits;
      pending_consolidations = consolidations;
    }

abbrev pub churn : ℕ → ℕ → ExitChurn
churn left epoch = record { exit_balance_to_consume = left; earliest_exit_epoch = epoch }

abbrev pub deposit : ℕ → ℕ → ℕ → ℕ → PendingDeposit
deposit key amount slot valid = record { pubkey = key; compounding = 1; amount = amount; slot = slot; valid = valid }

abbrev pair : ℕ → ℕ → PendingConsolidation
pair source target = record { source_index = source; target_index = target }

abbrev pub balances : Checked ElectraState → List ℕ
balances (value st) = map (λ v. v.balance) st.altair.validators
balances (refused r) = []

abbrev pub effectives : Checked ElectraState → List ℕ
effectives (value st) = map (λ v. v.effective_balance) st.altair.validators
effectives (refused r) = []

abbrev exits : Checked ElectraState → List ℕ
exits (value st) = map (λ v. v.exit_epoch) st.altair.validators
exits (refused r) = []

-- keys left in the queue, and what is left to consume
abbrev keys_left : Checked ElectraState → List ℕ
keys_left (value st) = st.deposit_balance_to_consume ∷ map (λ d. d.pubkey) st.pending_deposits
keys_left (refused r) = []

abbrev pairs_left : Checked ElectraState → ℕ
pairs_left (value st) = length st.pending_consolidations
pairs_left (refused r) = 0

abbrev ejected : Validator
ejected = validator 16_000_000_000 0 FAR_FUTURE_EPOCH FAR_FUTURE_EPOCH 16_000_000_000

abbrev immense : Validator
immense = validator 9_223_372_036_854_775_808 0 FAR_FUTURE_EPOCH FAR_FUTURE_EPOCH 0

abbrev leaving : Validator
leaving = validator 32_000_000_000 0 9 265 32_000_000_000

abbrev poor : Validator
poor = validator 32_000_000_000 0 2 4 31_500_000_000

abbrev withdrawn : Validator
withdrawn = validator 32_000_000_000 0 2 3 0

abbrev due : Validator
due = validator 32_000_000_000 1 9 4099 32_000_000_000

-- two full ones, one that is leaving and one that is withdrawable; a new key, the leaving one's, the withdrawable one's, one that does not fit
abbrev queue : List PendingDeposit
queue = deposit 4 32_000_000_000 0 1 ∷ deposit 2 1 64 0 ∷ deposit 3 7 64 0 ∷ deposit 4 96_000_000_000 64 0 ∷ deposit 0 1 64 0 ∷ deposit 1 1 65 0 ∷ []

abbrev pending : List PendingDeposit → ElectraState
pending ds = state (full ∷ full ∷ leaving ∷ withdrawn ∷ []) [] (churn 0 0) ds []

-- with what the last close left to be processed
abbrev carrying : ℕ → List PendingDeposit → ElectraState
carrying left ds = with_deposits (registry_of (pending ds)) left ds (pending ds)

-- one compounding validator and one that is not, by effective balance and balance
abbrev two : Validator → Validator → ElectraState
two compounded plain =
    let st = state (compounded ∷ plain ∷ []) [] (churn 0 0) [] [] in
    with_deposits (record { validators = compounded ∷ plain ∷ []; pubkeys = 0 ∷ 1 ∷ []; compounding = 1 ∷ 0 ∷ [] }) 0 [] st

abbrev holding : ℕ → ℕ → Validator
holding effective balance = validator effective 0 FAR_FUTURE_EPOCH FAR_FUTURE_EPOCH balance

abbrev balances_of : Checked (List Validator) → List ℕ
balances_of (value vs) = map (λ v. v.balance) vs
balances_of (refused r) = []

abbrev slashing : List Validator
slashing = due ∷ full ∷ full ∷ full ∷ full ∷ []

abbrev consolidating : List PendingConsolidation → ElectraState
consolidating cs = state (validator 32_000_000_000 0 2 4 33_000_000_000 ∷ full ∷ due ∷ leaving ∷ []) [] (churn 0 0) [] cs

-- thresholds that leave 64 bits
abbrev wide : ElectraRules
wide =
    let s = mainnet in
    record {
      settings = settings_from (
          s.slots_per_epoch ∷ s.slots_per_historical_root ∷ s.epochs_per_slashings_vector ∷ 140_737_488_355_328 ∷ s.max_effective_balance
          ∷ 1 ∷ 140_737_488_355_328 ∷ 140_737_488_355_328 ∷ []);
      bellatrix = mainnet_rules.bellatrix;
      electra = mainnet_rules.electra;
    }

-- the steps

abbrev registry_after : List Validator → ExitChurn → Checked ElectraState
registry_after vs c = process_registry_updates mainnet_rules (state vs [] c [] [])

abbrev depositing : List PendingDeposit → Checked ElectraState
depositing ds = process_pending_deposits mainnet_rules (pending ds)

abbrev pub depositing_after : ℕ → List PendingDeposit → Checked ElectraState
depositing_after left ds = process_pending_deposits mainnet_rules (carrying left ds)

abbrev after_pairs : List PendingConsolidation → Checked ElectraState
after_pairs cs = process_pending_consolidations mainnet_rules (consolidating cs)

abbrev updated : Validator → Validator → Checked ElectraState
updated compounded plain = process_effective_balance_updates mainnet_rules (two compounded plain)

pub record Figures : Type 0 where
  -- 33 million ether active: 503×10^9 rounded down, cut at 256×10^9; one million: the least, 128×10^9
  pub balance-churn : balance_churn_limit mainnet_rules 33_000_000_000_000_000 ≡ 503_000_000_000
  pub exit-churn : activation_exit_churn_limit mainnet_rules 33_000_000_000_000_000 ≡ 256_000_000_000
  pub exit_churn_least : activation_exit_churn_limit mainnet_rules 1_000_000_000_000_000 ≡ 128_000_000_000
  -- an exit of 2048×10^9 where no exit waits: 256×10^9 at epoch 8, and seven epochs more, all of them full
  pub exit_of_2048 : churned 8 256_000_000_000 (churn 5 0) 2_048_000_000_000 ≡ value (churn 0 15)
  -- the next of 32×10^9 opens epoch 16, and the one after it shares that
  pub next-exit : churned 8 256_000_000_000 (churn 0 15) 32_000_000_000 ≡ value (churn 224_000_000_000 16)
  pub shared-exit : churned 8 256_000_000_000 (churn 224_000_000_000 16) 32_000_000_000 ≡ value (churn 192_000_000_000 16)
  -- exactly what is left fits; a Gwei more takes one epoch more
  pub exactly-fits : churned 8 256_000_000_000 (churn 32_000_000_000 16) 32_000_000_000 ≡ value (churn 0 16)
  pub one_more : churned 8 256_000_000_000 (churn 31_999_999_999 16) 32_000_000_000 ≡ value (churn 255_999_999_999 17)
  -- 400×10^9 where 32×10^9 is left takes two epochs more
  pub two-more : churned 8 256_000_000_000 (churn 32_000_000_000 16) 400_000_000_000 ≡ value (churn 144_000_000_000 18)
  -- a balance that reaches past 2^64 - 1 epochs is refused
  pub exit-overflows : churned 8 1 (churn 0 18_446_744_073_709_551_615) 1 ≡ refused Overflow
  -- two ejected at the limit of 128×10^9 leave together; the total of the others is not summed where nobody leaves
  pub ejections : exits (registry_after (ejected ∷ full ∷ ejected ∷ []) (churn 0 0)) ≡ 8 ∷ FAR_FUTURE_EPOCH ∷ 8 ∷ []
  pub ejections-far : exits (registry_after (ejected ∷ full ∷ ejected ∷ []) (churn 16_000_000_000 8)) ≡ 8 ∷ FAR_FUTURE_EPOCH ∷ 9 ∷ []
  -- so that 2^64 in all is refused only where somebody does
  pub not_summed : exits (registry_after (immense ∷ immense ∷ full ∷ []) (churn 0 0)) ≡ FAR_FUTURE_EPOCH ∷ FAR_FUTURE_EPOCH ∷ FAR_FUTURE_EPOCH ∷ []
  pub summed : registry_after (immense ∷ immense ∷ ejected ∷ []) (churn 0 0) ≡ refused Overflow
  -- slashings sum 32×10^9, total 160×10^9, multiplier 3: 19.2×10^9, where Bellatrix, on the same record, rounds down to 19×10^9
  pub slashed : get_or (balances (process_slashings mainnet_rules (state slashing (32_000_000_000 ∷ []) (churn 0 0) [] []))) 0 0
      ≡ 32_000_000_000 - 19_200_000_000
  pub slashed-bellatrix : get_or (balances_of (bellatrix.process_slashings mainnet 3 127 (32_000_000_000 ∷ []) slashing)) 0 0 ≡ 32_000_000_000 - 19_000_000_000
  -- 128×10^9 available: a new validator, one postponed, one applied without churn; 96×10^9 fits exactly; then 1 Gwei does not, and nothing is carried
  pub deposited : balances (depositing queue) ≡ 32_000_000_000 ∷ 32_000_000_000 ∷ 32_000_000_000 ∷ 7 ∷ 128_000_000_000 ∷ []
  pub deposits-left : keys_left (depositing queue) ≡ 0 ∷ 0 ∷ 1 ∷ 2 ∷ []
  -- to one that has left: 2048×10^9 is applied at once, no churn; to one that is leaving: behind those that are left
  pub to_one_that_left : balances (depositing (deposit 3 2_048_000_000_000 64 0 ∷ []))
      ≡ 32_000_000_000 ∷ 32_000_000_000 ∷ 32_000_000_000 ∷ 2_048_000_000_000 ∷ []
  pub to_one_leaving : keys_left (depositing (deposit 2 1 64 0 ∷ deposit 0 1 64 0 ∷ deposit 1 1 65 0 ∷ [])) ≡ 0 ∷ 1 ∷ 2 ∷ []
  -- the same new key twice: one validator, the second deposit only in its balance
  pub twice-new : balances (depositing (deposit 4 32_000_000_000 64 1 ∷ deposit 4 7 64 0 ∷ []))
      ≡ 32_000_000_000 ∷ 32_000_000_000 ∷ 32_000_000_000 ∷ 0 ∷ 32_000_000_007 ∷ []
  -- 100×10^9 processed, the next does not fit: the other 28×10^9 are carried; where the limit was not reached nothing is
  pub carried-rest : keys_left (depositing (deposit 0 100_000_000_000 64 1 ∷ deposit 1 100_000_000_000 64 1 ∷ [])) ≡ 28_000_000_000 ∷ 1 ∷ []
  pub not_carried : keys_left (depositing_after 5_000_000_000 (deposit 0 1 64 1 ∷ [])) ≡ 0 ∷ []
  -- what was carried is added, also for an empty queue
  pub added : keys_left (depositing_after 5_000_000_000 (deposit 0 133_000_000_001 64 1 ∷ [])) ≡ 133_000_000_000 ∷ 0 ∷ []
  pub empty-refused : depositing_after 18_446_744_073_709_551_615 [] ≡ refused Overflow
  -- an invalid new key uses up the churn
  pub invalid-churn : keys_left (depositing (deposit 5 128_000_000_000 64 0 ∷ deposit 0 1 64 1 ∷ [])) ≡ 0 ∷ 0 ∷ []
  -- a deposit that does not fit carries what was available on; an invalid one of a new key is gone; a slot that is not finalized stops
  pub carried : keys_left (depositing (deposit 0 2_048_000_000_000 64 1 ∷ [])) ≡ 128_000_000_000 ∷ 0 ∷ []
  pub invalid : balances (depositing (deposit 5 32_000_000_000 64 0 ∷ [])) ≡ 32_000_000_000 ∷ 32_000_000_000 ∷ 32_000_000_000 ∷ 0 ∷ []
  pub not_finalized : keys_left (depositing (deposit 0 1 65 1 ∷ [])) ≡ 0 ∷ 0 ∷ []
  -- the new one's effective balance is rounded down
  pub new-validator : effectives (depositing (deposit 5 33_999_999_999 0 1 ∷ []))
      ≡ 32_000_000_000 ∷ 32_000_000_000 ∷ 32_000_000_000 ∷ 32_000_000_000 ∷ 33_000_000_000 ∷ []
  -- a slashed source is passed over, the effective balance moves and the excess stays, and one that is not withdrawable stops the queue
  pub consolidated : balances (after_pairs (pair 2 1 ∷ pair 0 1 ∷ pair 3 1 ∷ pair 0 1 ∷ []))
      ≡ 1_000_000_000 ∷ 64_000_000_000 ∷ 32_000_000_000 ∷ 32_000_000_000 ∷ []
  pub consolidations-left : pairs_left (after_pairs (pair 2 1 ∷ pair 0 1 ∷ pair 3 1 ∷ pair 0 1 ∷ [])) ≡ 2
  -- a source that holds less than its effective balance gives what it holds
  pub holds-less : balances (process_pending_consolidations mainnet_rules (state (poor ∷ full ∷ []) [] (churn 0 0) [] (pair 0 1 ∷ [])))
      ≡ 0 ∷ 63_500_000_000 ∷ []
  -- into itself: nothing moves; a second time the rest of the balance moves
  pub into-itself : balances (after_pairs (pair 0 0 ∷ [])) ≡ 33_000_000_000 ∷ 32_000_000_000 ∷ 32_000_000_000 ∷ 32_000_000_000 ∷ []
  pub twice : balances (after_pairs (pair 0 1 ∷ pair 0 1 ∷ [])) ≡ 0 ∷ 65_000_000_000 ∷ 32_000_000_000 ∷ 32_000_000_000 ∷ []
  -- a compounding validator's effective balance rises above 32×10^9
  pub compounding : effectives (updated (holding 32_000_000_000 40_500_000_000) full) ≡ 40_000_000_000 ∷ 32_000_000_000 ∷ []
  -- at 2048×10^9 and at 32×10^9: a quarter of an increment below stays, a Gwei more does not
  pub low-stays : effectives (updated (holding 2_048_000_000_000 2_047_750_000_000) (holding 32_000_000_000 31_750_000_000))
      ≡ 2_048_000_000_000 ∷ 32_000_000_000 ∷ []
  pub low-falls : effectives (updated (holding 2_048_000_000_000 2_047_749_999_999) (holding 32_000_000_000 31_749_999_999))
      ≡ 2_047_000_000_000 ∷ 31_000_000_000 ∷ []
  -- five quarters above stay, a Gwei more does not; and above the maximum it is the validator's own
  pub high-stays : effectives (updated (holding 2_046_000_000_000 2_047_250_000_000) (holding 30_000_000_000 31_250_000_000))
      ≡ 2_046_000_000_000 ∷ 30_000_000_000 ∷ []
  pub high_rises : effectives (updated (holding 2_046_000_000_000 2_047_250_000_001) (holding 30_000_000_000 31_250_000_001))
      ≡ 2_047_000_000_000 ∷ 31_000_000_000 ∷ []
  pub own-maximum : effectives (updated (holding 32_000_000_000 2_100_000_000_000) (holding 32_000_000_000 2_100_000_000_000))
      ≡ 2_048_000_000_000 ∷ 32_000_000_000 ∷ []
  -- thresholds of 2^94 are evaluated only where there is a validator
  pub none-evaluated : process_effective_balance_updates wide (state [] [] (churn 0 0) [] []) ≡ value (state [] [] (churn 0 0) [] [])
  pub one-evaluated : process_effective_balance_updates wide (state (full ∷ []) [] (churn 0 0) [] []) ≡ refused Overflow

pub figures : Figures
unfolding sum64 sum filter range bind add64 sub64 mul64 map_checked fold_checked is_active_validator is_eligible_for_activation compute_epoch_at_slot get_current_epoch compute_start_slot_at_epoch compute_activation_exit_epoch get_active_validator_indices get_total_balance get_total_active_balance increase_balance decrease_balance is_slashing_due slashing_penalty bellatrix.slash bellatrix.process_slashings fold_until_checked place_of is_eligible_for_activation_queue get_max_effective_balance balance_churn_limit activation_exit_churn_limit get_validator_from_deposit add_validator_to_registry breaks_before deposits_stop consolidations_stop get_activation_exit_churn_limit further_epochs churned compute_exit_epoch_and_update_churn initiate_validator_exit update_registry_at process_registry_updates slash process_slashings apply_pending_deposit process_deposit queueing left_to_consume process_pending_deposits consolidate process_consolidation process_pending_consolidations update_effective_balance update_effective_balances process_effective_balance_updates
figures =
    record {
      balance-churn = refl;
      exit-churn = refl;
      exit_churn_least = refl;
      exit_of_2048 = refl;
      next-exit = refl;
      shared-exit = refl;
      exactly-fits = refl;
      one_more = refl;
      two-more = refl;
      exit-overflows = refl;
      ejections = refl;
      ejections-far = refl;
      not_summed = refl;
      summed = refl;
      slashed = refl;
      slashed-bellatrix = refl;
      deposited = refl;
      deposits-left = refl;
      to_one_that_left = refl;
      to_one_leaving = refl;
      twice-new = refl;
      carried-rest = refl;
      not_carried = refl;
      added = refl;
      empty-refused = refl;
      invalid-churn = refl;
      carried = refl;
      invalid = refl;
      not_finalized = refl;
      new-validator = refl;
      consolidated = refl;
      consolidations-left = refl;
      holds-less = refl;
      into-itself = refl;
      twice = refl;
      compounding = refl;
      low-stays = refl;
      low-falls = refl;
      high-stays = refl;
      high_rises = refl;
      own-maximum = refl;
      none-evaluated = refl;
      one-evaluated = refl;
    }

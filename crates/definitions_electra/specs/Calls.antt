-- The Electra calls of document 03, F-2: what is lent, as a state; what each works out; what it answers, and what the closing buffers hold.
use Rattle.std.specs.Prelude.{◌≡◌, List, [], ◌++◌, ℕ, length, drop}
use Rattle.definitions.specs.declared.Checkpoint.{Checkpoint}
use Rattle.definitions.specs.declared.Finality.{Finality}
use Rattle.definitions.specs.Lists.{range}
use Rattle.definitions.specs.Record.{Validator, encode, decode}
use Rattle.definitions.specs.Checked.{Checked, value, refused, number_of, bind, code_of, settle}
use Rattle.definitions.specs.Refusals.{after_tests, closing_buffer}
use Rattle.definitions_electra.specs.declared.ElectraRules.{ElectraRules}
use Rattle.definitions_electra.specs.declared.ExitChurn.{ExitChurn}
use Rattle.definitions_electra.specs.declared.DepositNumbers.{DepositNumbers}
use Rattle.definitions_electra.specs.declared.PendingDeposit.{PendingDeposit}
use Rattle.definitions_electra.specs.declared.ExitChurnAnswer.{ExitChurnAnswer}
use Rattle.definitions_electra.specs.declared.DepositsAnswer.{DepositsAnswer}
use Rattle.definitions_electra.specs.declared.ConsolidationsAnswer.{ConsolidationsAnswer}
use Rattle.definitions_electra.specs.Record.{PendingConsolidation, ElectraState, decode_deposits, encode_deposits, decode_consolidations, encode_consolidations}
use Rattle.definitions_electra.specs.Refusals.{count_of, deposits_of}
use Rattle.definitions_electra.specs.Evaluated.Electra.Helpers.{initiate_validator_exit}
use Rattle.definitions_electra.specs.Evaluated.Electra.EpochProcessing.{process_registry_updates, process_slashings, process_pending_deposits, process_pending_consolidations, process_effective_balance_updates}

-- What is lent

-- "A deposit's key is a number below N + D: below N that validator's key": the keys that the registry opens with
abbrev pub opening_keys : ℕ → List ℕ
opening_keys n = range 0 n

-- the slot, and the finalized checkpoint's epoch; no step that is a call of its own reads more of the finality
abbrev pub lent_finality : ℕ → ℕ → Finality
lent_finality state_slot finalized_epoch =
    let checkpoint : Checkpoint = record { epoch = finalized_epoch; root = [] } in
    record {
      slot = state_slot;
      justification_bits = 0;
      previous_justified_checkpoint = checkpoint;
      current_justified_checkpoint = checkpoint;
      finalized_checkpoint = checkpoint;
    }

-- what a step is not lent it does not read: there stands nothing
abbrev pub no_churn : ExitChurn
no_churn = record { exit_balance_to_consume = 0; earliest_exit_epoch = 0 }

abbrev pub no_deposit_numbers : DepositNumbers
no_deposit_numbers = record { deposit_balance_to_consume = 0; eth1_deposit_index = 0; deposit_requests_start_index = 0 }

abbrev pub lent_state : Finality → List Validator → List ℕ → List ℕ → ExitChurn → DepositNumbers → List PendingDeposit → List PendingConsolidation → ElectraState
lent_state finality vs slashings compounding churn numbers deposits consolidations =
    record {
      altair = record { finality = finality; validators = vs; slashings = slashings; block_roots = [] };
      pubkeys = opening_keys (length vs);
      compounding = compounding;
      deposit_balance_to_consume = numbers.deposit_balance_to_consume;
      churn = churn;
      eth1_deposit_index = numbers.eth1_deposit_index;
      deposit_requests_start_index = numbers.deposit_requests_start_index;
      pending_deposits = deposits;
      pending_consolidations = consolidations;
    }

-- What each call works out, of lent lists

unfoldable pub registry_work : ElectraRules → ℕ → ℕ → ExitChurn → List ℕ → Checked ElectraState
registry_work r state_slot finalized_epoch churn registry =
    process_registry_updates r (lent_state (lent_finality state_slot finalized_epoch) (decode registry) [] [] churn no_deposit_numbers [] [])

unfoldable pub exit_work : ElectraRules → ℕ → ℕ → ExitChurn → List ℕ → Checked ElectraState
exit_work r state_slot index churn registry =
    initiate_validator_exit r (lent_state (lent_finality state_slot 0) (decode registry) [] [] churn no_deposit_numbers [] []) index

unfoldable pub slashings_work : ElectraRules → ℕ → List ℕ → List ℕ → Checked ElectraState
slashings_work r state_slot slashings registry =
    process_slashings r (lent_state (lent_finality state_slot 0) (decode registry) slashings [] no_churn no_deposit_numbers [] [])

unfoldable pub deposits_work : ElectraRules → ℕ → ℕ → DepositNumbers → List ℕ → List ℕ → List ℕ → Checked ElectraState
deposits_work r state_slot finalized_epoch numbers registry compounding deposits =
    process_pending_deposits r
    (lent_state (lent_finality state_slot finalized_epoch) (decode registry) [] compounding no_churn numbers (decode_deposits deposits) [])

unfoldable pub consolidations_work : ElectraRules → ℕ → List ℕ → List ℕ → Checked ElectraState
consolidations_work r state_slot registry consolidations =
    process_pending_consolidations r
    (lent_state (lent_finality state_slot 0) (decode registry) [] [] no_churn no_deposit_numbers [] (decode_consolidations consolidations))

unfoldable pub effective_balances_work : ElectraRules → List ℕ → List ℕ → Checked ElectraState
effective_balances_work r compounding registry =
    process_effective_balance_updates r (lent_state (lent_finality 0 0) (decode registry) [] compounding no_churn no_deposit_numbers [] [])

-- What the closing buffers hold

abbrev pub registry_in : ElectraState → List ℕ
registry_in st = encode st.altair.validators

-- `written` at the front of a buffer, and what stands behind it untouched
abbrev pub over : List ℕ → List ℕ → List ℕ
over written buffer = written ++ drop (length written) buffer

-- A closing buffer with room behind what is written: untouched where a test refused, the opening at its front on 4 and 5, and else what was
-- worked out at its front. It is `closing_buffer` of what lies over the buffer, so that its laws serve.
abbrev pub roomy_buffer : {A : Type 0} → (A → List ℕ) → Checked (Unit {0}) → Checked A → List ℕ → List ℕ → List ℕ
roomy_buffer contents tests work opening closing = closing_buffer (λ a. over (contents a) closing) tests work (over opening closing) closing

-- What is answered

abbrev pub exit_churn_answer : Checked ExitChurn → ExitChurn → ExitChurnAnswer
exit_churn_answer m before = record { refusal = code_of m; churn = settle m before }

abbrev pub churn_in : Checked ElectraState → Checked ExitChurn
churn_in m = bind m (λ st. value st.churn)

-- the registry step, and the exit of one validator
pub record ChurnCloses (tests : Checked (Unit {0})) (work : Checked ElectraState) (churn : ExitChurn) (opening closing after : List ℕ)
    (r : ExitChurnAnswer) : Type 0 where
  pub answer : r ≡ exit_churn_answer (churn_in (after_tests tests work)) churn
  pub buffer : after ≡ closing_buffer registry_in tests work opening closing

-- on refusal what the opening has
unfoldable pub deposits_answer : Checked ElectraState → DepositNumbers → List ℕ → List ℕ → DepositsAnswer
deposits_answer (value st) numbers registry deposits =
    record {
      refusal = 0;
      deposit_balance_to_consume = st.deposit_balance_to_consume;
      validators = length st.altair.validators;
      deposits = length st.pending_deposits;
    }
deposits_answer (refused p) numbers registry deposits =
    record {
      refusal = number_of p;
      deposit_balance_to_consume = numbers.deposit_balance_to_consume;
      validators = count_of registry;
      deposits = deposits_of deposits;
    }

-- pending deposits, by what is lent: registry, compounding and queue, and the three closing buffers before and after
pub record DepositsClose (tests : Checked (Unit {0})) (work : Checked ElectraState) (numbers : DepositNumbers) (registry compounding deposits : List ℕ)
    (registry_before registry_after compounding_before compounding_after deposits_before deposits_after : List ℕ) (r : DepositsAnswer) : Type 0 where
  pub answer : r ≡ deposits_answer (after_tests tests work) numbers registry deposits
  pub validators : registry_after ≡ roomy_buffer registry_in tests work registry registry_before
  pub credentials : compounding_after ≡ roomy_buffer (λ st. st.compounding) tests work compounding compounding_before
  pub queue : deposits_after ≡ roomy_buffer (λ st. encode_deposits st.pending_deposits) tests work deposits deposits_before

unfoldable pub consolidations_answer : Checked ElectraState → List ℕ → ConsolidationsAnswer
consolidations_answer (value st) consolidations = record { refusal = 0; consolidations = length st.pending_consolidations }
consolidations_answer (refused p) consolidations = record { refusal = number_of p; consolidations = length (decode_consolidations consolidations) }

-- pending consolidations, by registry and queue, and both closing buffers before and after
pub record ConsolidationsClose (tests : Checked (Unit {0})) (work : Checked ElectraState) (registry consolidations : List ℕ)
    (registry_before registry_after consolidations_before consolidations_after : List ℕ) (r : ConsolidationsAnswer) : Type 0 where
  pub answer : r ≡ consolidations_answer (after_tests tests work) consolidations
  pub validators : registry_after ≡ closing_buffer registry_in tests work registry registry_before
  pub queue : consolidations_after ≡ roomy_buffer (λ st. encode_consolidations st.pending_consolidations) tests work consolidations consolidations_before

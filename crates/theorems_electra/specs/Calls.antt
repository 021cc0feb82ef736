-- Demands 1 and 2 of the Electra calls, in the terms that their contracts cite. `st` is any state that has what the call is lent: what else
-- stands in it is not read.
use Rattle.std.specs.Prelude.{◌≡◌, List, [], ◌∷◌, ℕ, length}
use Rattle.definitions.specs.Record.{decode}
use Rattle.definitions.specs.Checked.{Checked, refused, code_of}
use Rattle.definitions.specs.declared.Refusal.TheVariants.{Overflow}
use Rattle.definitions.specs.Refusals.{after_tests}
use Rattle.definitions.specs.Closes.{Closes}
use Rattle.theorems.specs.Completeness.Calls.{ByNumber}
use Rattle.definitions_electra.specs.declared.ElectraRules.{ElectraRules}
use Rattle.definitions_electra.specs.declared.DepositNumbers.{DepositNumbers}
use Rattle.definitions_electra.specs.declared.ExitChurnAnswer.{ExitChurnAnswer}
use Rattle.definitions_electra.specs.declared.DepositsAnswer.{DepositsAnswer}
use Rattle.definitions_electra.specs.declared.ConsolidationsAnswer.{ConsolidationsAnswer}
use Rattle.definitions_electra.specs.Record.{ElectraState, decode_deposits, encode_deposits, decode_consolidations, encode_consolidations}
use Rattle.definitions_electra.specs.Refusals.{count_of, deposits_of, registry_tests, slashings_tests, deposits_tests, consolidations_tests, effective_balance_tests, exit_tests}
use Rattle.definitions_electra.specs.Calls.{opening_keys, registry_work, exit_work, slashings_work, deposits_work, consolidations_work, effective_balances_work, registry_in, over, ChurnCloses, DepositsClose, ConsolidationsClose}
use Rattle.definitions_electra.specs.Document.Electra.EpochProcessing.{finalized_epoch_of}
use Rattle.definitions_electra.specs.Document.Electra.Helpers as helpers
use Rattle.definitions_electra.specs.Document.Electra.EpochProcessing as document
use Rattle.definitions_electra.specs.Evaluated.Electra.Helpers as helpers'
use Rattle.definitions_electra.specs.Evaluated.Electra.EpochProcessing as evaluated

-- 4 is justification's alone
abbrev pub numbers : List ℕ
numbers = 0 ∷ 1 ∷ 2 ∷ 3 ∷ 5 ∷ []

-- `text` is the public text evaluated in 64 bits, `document` the same in natural numbers
pub record ElectraCall (tests : Checked (Unit {0})) (text : Checked ElectraState) (document : ElectraState) (contents : ElectraState → List ℕ)
    (opening closing after : List ℕ) (r : ℕ) : Type 0 where
  pub answers : r ≡ code_of (after_tests tests text)
  -- 0: the document's; 1, 2 and 3: untouched; 5: the opening's
  pub by_number : ByNumber numbers (contents document) opening closing after r
  pub overflows : r ≡ 5 → text ≡ refused Overflow

-- with room behind what is written: the document's, or the opening, at the front, and the rest untouched
abbrev pub RoomyCall : Checked (Unit {0}) → Checked ElectraState → ElectraState → (ElectraState → List ℕ) → List ℕ → List ℕ → List ℕ → ℕ → Type 0
RoomyCall tests text document contents opening closing after r =
    ElectraCall tests text document (λ st. over (contents st) closing) (over opening closing) closing after r

abbrev pub slot_of : ElectraState → ℕ
slot_of st = st.altair.finality.slot

-- Registry updates, and the exit of one validator

pub record ChurnCall (tests : Checked (Unit {0})) (text : Checked ElectraState) (document st : ElectraState) (opening closing after : List ℕ)
    (r : ExitChurnAnswer) : Type 0 where
  pub registry : ElectraCall tests text document registry_in opening closing after r.refusal
  pub accepted : r.refusal ≡ 0 → r.churn ≡ document.churn
  pub refused : (r.refusal ≡ 0 → ⊥) → r.churn ≡ st.churn

abbrev pub RegistryCalls : Type 0
RegistryCalls =
    (r : ElectraRules) (st : ElectraState) (opening closing after : List ℕ) (answer : ExitChurnAnswer) → decode opening ≡ st.altair.validators
    → let tests = registry_tests r (slot_of st) (finalized_epoch_of st) opening closing in
    ChurnCloses tests (registry_work r (slot_of st) (finalized_epoch_of st) st.churn opening) st.churn opening closing after answer
    → ChurnCall tests (evaluated.process_registry_updates r st) (document.process_registry_updates r st) st opening closing after answer

abbrev pub ExitCalls : Type 0
ExitCalls =
    (r : ElectraRules) (st : ElectraState) (index : ℕ) (registry after : List ℕ) (answer : ExitChurnAnswer) → decode registry ≡ st.altair.validators
    → let tests = exit_tests r (slot_of st) index registry in
    ChurnCloses tests (exit_work r (slot_of st) index st.churn registry) st.churn registry registry after answer
    → ChurnCall tests (helpers'.initiate_validator_exit r st index) (helpers.initiate_validator_exit r st index) st registry registry after answer

-- Slashings

abbrev pub SlashingsCalls : Type 0
SlashingsCalls =
    (r : ElectraRules) (st : ElectraState) (opening closing after : List ℕ) (n : ℕ) → decode opening ≡ st.altair.validators
    → let tests = slashings_tests r (slot_of st) st.altair.slashings opening closing in
    Closes registry_in tests (slashings_work r (slot_of st) st.altair.slashings opening) opening closing after n
    → ElectraCall tests (evaluated.process_slashings r st) (document.process_slashings r st) registry_in opening closing after n

-- Pending deposits

abbrev pub numbers_of : ElectraState → DepositNumbers
numbers_of st =
    record {
      deposit_balance_to_consume = st.deposit_balance_to_consume;
      eth1_deposit_index = st.eth1_deposit_index;
      deposit_requests_start_index = st.deposit_requests_start_index;
    }

-- what is answered beside the number, of a state with so many validators and deposits
pub record DepositsLeft (to_consume validators deposits : ℕ) (r : DepositsAnswer) : Type 0 where
  pub to_consume_is : r.deposit_balance_to_consume ≡ to_consume
  pub validators_are : r.validators ≡ validators
  pub deposits_are : r.deposits ≡ deposits

pub record DepositsCall (tests : Checked (Unit {0})) (text : Checked ElectraState) (document : ElectraState) (numbers : DepositNumbers)
    (registry compounding deposits : List ℕ)
    (registry_before registry_after compounding_before compounding_after deposits_before deposits_after : List ℕ) (r : DepositsAnswer) : Type 0 where
  pub validators : RoomyCall tests text document registry_in registry registry_before registry_after r.refusal
  pub credentials : RoomyCall tests text document (λ st. st.compounding) compounding compounding_before compounding_after r.refusal
  pub queue : RoomyCall tests text document (λ st. encode_deposits st.pending_deposits) deposits deposits_before deposits_after r.refusal
  pub accepted : r.refusal ≡ 0
      → DepositsLeft document.deposit_balance_to_consume (length document.altair.validators) (length document.pending_deposits) r
  pub refused : (r.refusal ≡ 0 → ⊥) → DepositsLeft numbers.deposit_balance_to_consume (count_of registry) (deposits_of deposits) r

abbrev pub DepositsCalls : Type 0
DepositsCalls =
    (r : ElectraRules) (st : ElectraState) (registry deposits : List ℕ)
    (registry_before registry_after compounding_before compounding_after deposits_before deposits_after places : List ℕ) (answer : DepositsAnswer)
    → decode registry ≡ st.altair.validators → st.pubkeys ≡ opening_keys (length st.altair.validators) → decode_deposits deposits ≡ st.pending_deposits
    → let tests = deposits_tests r (slot_of st) (finalized_epoch_of st) registry st.compounding deposits registry_before compounding_before deposits_before places
    in
    DepositsClose tests (deposits_work r (slot_of st) (finalized_epoch_of st) (numbers_of st) registry st.compounding deposits) (numbers_of st)
    registry st.compounding deposits registry_before registry_after compounding_before compounding_after deposits_before deposits_after answer
    → DepositsCall tests (evaluated.process_pending_deposits r st) (document.process_pending_deposits r st) (numbers_of st)
    registry st.compounding deposits registry_before registry_after compounding_before compounding_after deposits_before deposits_after answer

-- Pending consolidations

pub record ConsolidationsCall (tests : Checked (Unit {0})) (text : Checked ElectraState) (document : ElectraState) (registry consolidations : List ℕ)
    (registry_before registry_after consolidations_before consolidations_after : List ℕ) (r : ConsolidationsAnswer) : Type 0 where
  pub validators : ElectraCall tests text document registry_in registry registry_before registry_after r.refusal
  pub queue : RoomyCall tests text document (λ st. encode_consolidations st.pending_consolidations) consolidations
      consolidations_before consolidations_after r.refusal
  pub accepted : r.refusal ≡ 0 → r.consolidations ≡ length document.pending_consolidations
  pub refused : (r.refusal ≡ 0 → ⊥) → r.consolidations ≡ length (decode_consolidations consolidations)

abbrev pub ConsolidationsCalls : Type 0
ConsolidationsCalls =
    (r : ElectraRules) (st : ElectraState) (registry consolidations : List ℕ)
    (registry_before registry_after consolidations_before consolidations_after : List ℕ) (answer : ConsolidationsAnswer)
    → decode registry ≡ st.altair.validators → decode_consolidations consolidations ≡ st.pending_consolidations
    → let tests = consolidations_tests r (slot_of st) registry consolidations registry_before consolidations_before in
    ConsolidationsClose tests (consolidations_work r (slot_of st) registry consolidations) registry consolidations
    registry_before registry_after consolidations_before consolidations_after answer
    → ConsolidationsCall tests (evaluated.process_pending_consolidations r st) (document.process_pending_consolidations r st) registry consolidations
    registry_before registry_after consolidations_before consolidations_after answer

-- Effective balances

abbrev pub EffectiveBalancesCalls : Type 0
EffectiveBalancesCalls =
    (r : ElectraRules) (st : ElectraState) (opening closing after : List ℕ) (n : ℕ) → decode opening ≡ st.altair.validators
    → let tests = effective_balance_tests r st.compounding opening closing in
    Closes registry_in tests (effective_balances_work r st.compounding opening) opening closing after n
    → ElectraCall tests (evaluated.process_effective_balance_updates r st) (document.process_effective_balance_updates r st) registry_in
    opening closing after n

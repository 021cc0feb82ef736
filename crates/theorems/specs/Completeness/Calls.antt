-- Demand 2 of every exported call, and document 01's table of "What is returned" by number, in the terms that the contracts cite: the
-- close (definitions, Close.antt), the seven steps with a closing buffer (Closes.antt there), the registry step with a stop, justification,
-- and files.
use Rattle.std.specs.Prelude.{◌≡◌, List, [], ◌∷◌, ◌⊎◌, ℕ}
use Rattle.definitions.specs.declared.ActivationLimit.{ActivationLimit}
use Rattle.definitions.specs.declared.ActivationLimit.TheVariants.{Churn}
use Rattle.definitions.specs.declared.Settings.{Settings}
use Rattle.definitions.specs.declared.Rules.{Rules}
use Rattle.definitions.specs.declared.CloseAnswer.{CloseAnswer}
use Rattle.definitions.specs.declared.ExitQueue.{ExitQueue}
use Rattle.definitions.specs.Record.{Validator, BeaconState, encode, decode}
use Rattle.definitions.specs.Checked.{Checked, value, bind, code_of, settle}
use Rattle.definitions.specs.Raised.{none_raised, raised_totals, raised_unless_refused, close_answer_for}
use Rattle.definitions.specs.Refusals.{after_tests, closing_buffer, justification_tests, registry_tests, effective_balance_tests, slashings_reset_tests, rotation_tests}
use Rattle.definitions.specs.Rules.{settings_under, rewards_tests, slashings_tests}
use Rattle.definitions.specs.Document.ByFork.{document_under}
use Rattle.definitions.specs.Rust.Phase0.EpochProcessing.{process_registry_updates, process_effective_balance_updates, reset_slashings}
use Rattle.definitions.specs.Rust.Altair.EpochProcessing.{process_justification_and_finalization, process_inactivity_updates, process_rewards_and_penalties, process_slashings, process_participation_flag_updates}
use Rattle.definitions.specs.RegisterOrder.{registry_updates_to, registry_to_tests}
use Rattle.definitions.specs.Close.{finalized_epoch_of, Step, justification_step, inactivity_step, rewards_step, registry_step, slashings_step, effective_balances_step, slashings_reset_step, participation_flags_step, Call, state_of, close_tests, Outcome}
use Rattle.definitions_file.specs.File.{Contents, write_tests, read}
use Rattle.agreement.specs.Agreement.{document_step, document_step_under}
use Rattle.agreement.specs.Restored.{OneOf}
use Rattle.definitions.specs.Closes.{Closes}
use Rattle.laws.specs.Stopped.{kept_from}
use Rattle.theorems.specs.Completeness.DocumentIn64Bits as In64Bits
use Rattle.theorems.specs.Completeness.Complete.{StepParts, CloseParts}

abbrev pub registry_of : BeaconState → List ℕ
registry_of st = encode st.validators

abbrev pub slashings_of : BeaconState → List ℕ
slashings_of st = st.slashings

-- The close. Its table by number is agreement, Restored.antt.

-- what a close answers whose tests are `tests` and whose eight steps are `work`
abbrev pub outcome_by : Checked (Unit {0}) → Call → Checked BeaconState → Outcome
outcome_by tests c work =
    record {
      refusal = code_of (after_tests tests work);
      finality = (settle (after_tests tests work) (state_of c)).finality;
      raised = raised_unless_refused (after_tests tests work) (raised_totals c.rules.settings c.finality.slot (decode c.registry));
      closing_registry = closing_buffer registry_of tests work c.registry c.closing_registry;
      closing_slashings = closing_buffer slashings_of tests work c.slashings c.closing_slashings;
    }

-- the outcome o is the record that a document gives: the process_epoch of the fork's, of the record handed in
pub record Gives (document : BeaconState) (o : Outcome) : Type 0 where
  pub finality : o.finality ≡ document.finality
  pub registry : o.closing_registry ≡ registry_of document
  pub slashings : o.closing_slashings ≡ slashings_of document

abbrev pub DocumentClosed : Call → Outcome → Type 0
DocumentClosed c o = Gives (document_under c.rules (state_of c)) o

-- of every call c, whose outcome o is `close c`
pub record CloseCall (c : Call) (o : Outcome) : Type 0 where
  pub accepted : o.refusal ≡ 0 → DocumentClosed c o
  -- it answers as the document in 64 bits would, or a row parts the two
  pub complete : let s = settings_under c.rules in let st = state_of c in
      (o ≡ outcome_by (close_tests c) c (In64Bits.process_epoch s st))
      ⊎ ((close_tests c ≡ value tt) × CloseParts Churn s st)

-- The steps

-- what the closing buffer holds `after` by the number r that is answered; `document` is what the document's step puts there
pub record ByNumber (numbers document opening closing after : List ℕ) (r : ℕ) : Type 0 where
  pub number : OneOf r numbers
  pub accepted : r ≡ 0 → after ≡ document
  pub untouched : OneOf r (1 ∷ 2 ∷ 3 ∷ []) → after ≡ closing
  pub restored : OneOf r (4 ∷ 5 ∷ []) → after ≡ opening

-- by the settings s; `document` is what the document's step makes of st
pub record LimitedStepCall (l : ActivationLimit) (s : Settings) (document st : BeaconState) (k : Step)
    (contents : BeaconState → List ℕ) (numbers : List ℕ) (tests : Checked (Unit {0}))
    (opening closing after : List ℕ) (r : ℕ) : Type 0 where
  pub by_number : ByNumber numbers (contents document) opening closing after r
  -- it answers as the document in 64 bits would, or a row parts the two
  pub complete : Closes contents tests (In64Bits.limited_step l s st k) opening closing after r ⊎ ((tests ≡ value tt) × StepParts l s st k)

abbrev pub StepCall : Settings → BeaconState → BeaconState → Step → (BeaconState → List ℕ) → List ℕ → Checked (Unit {0}) → List ℕ → List ℕ → List ℕ → ℕ → Type 0
StepCall = LimitedStepCall Churn

-- `st` is any state that has what the call is lent
pub record StepCalls (s : Settings) (st : BeaconState) (opening closing after : List ℕ) (r : ℕ) : Type 0 where
  pub inactivity : decode opening ≡ st.validators
      → let tests = registry_tests s st.finality.slot (finalized_epoch_of st) opening closing in
      Closes encode tests (process_inactivity_updates s st.finality.slot (finalized_epoch_of st) (decode opening)) opening closing after r
      → StepCall s (document_step s st inactivity_step) st inactivity_step registry_of (0 ∷ 1 ∷ 2 ∷ 3 ∷ 5 ∷ []) tests opening closing after r
  pub registry : decode opening ≡ st.validators
      → let tests = registry_tests s st.finality.slot (finalized_epoch_of st) opening closing in
      Closes encode tests (process_registry_updates s st.finality.slot (finalized_epoch_of st) (decode opening)) opening closing after r
      → StepCall s (document_step s st registry_step) st registry_step registry_of (0 ∷ 1 ∷ 2 ∷ 3 ∷ 5 ∷ []) tests opening closing after r
  pub effective_balances : decode opening ≡ st.validators
      → let tests = effective_balance_tests s opening closing in
      Closes encode tests (process_effective_balance_updates s (decode opening)) opening closing after r
      → StepCall s (document_step s st effective_balances_step) st effective_balances_step registry_of (0 ∷ 1 ∷ 2 ∷ 3 ∷ 5 ∷ []) tests opening closing after r
  pub slashings_reset : let tests = slashings_reset_tests s st.finality.slot st.slashings closing in
      Closes (λ xs. xs) tests (value (reset_slashings s st.finality.slot st.slashings)) st.slashings closing after r
      → StepCall s (document_step s st slashings_reset_step) st slashings_reset_step slashings_of (0 ∷ 1 ∷ 2 ∷ 3 ∷ []) tests st.slashings closing after r
  pub participation_flags : decode opening ≡ st.validators
      → let tests = rotation_tests opening closing in
      Closes encode tests (value (process_participation_flag_updates (decode opening))) opening closing after r
      → StepCall s (document_step s st participation_flags_step) st participation_flags_step registry_of (0 ∷ 1 ∷ 3 ∷ []) tests opening closing after r

-- the two steps that are lent rules
pub record RulesCalls (r : Rules) (st : BeaconState) (opening closing after : List ℕ) (n : ℕ) : Type 0 where
  pub rewards : decode opening ≡ st.validators
      → let s = settings_under r in
      let tests = rewards_tests r st.finality.slot (finalized_epoch_of st) opening closing in
      Closes encode tests (process_rewards_and_penalties s s.inactivity_penalty_quotient_altair st.finality.slot (finalized_epoch_of st) (decode opening))
      opening closing after n
      → StepCall s (document_step_under r st rewards_step) st rewards_step registry_of (0 ∷ 1 ∷ 2 ∷ 3 ∷ 5 ∷ []) tests opening closing after n
  pub slashings : decode opening ≡ st.validators
      → let s = settings_under r in
      let tests = slashings_tests r st.finality.slot st.slashings opening closing in
      Closes encode tests (process_slashings s s.proportional_slashing_multiplier_altair st.finality.slot st.slashings (decode opening))
      opening closing after n
      → StepCall s (document_step_under r st slashings_step) st slashings_step registry_of (0 ∷ 1 ∷ 2 ∷ 3 ∷ 5 ∷ []) tests opening closing after n

-- The registry step with a stop (02, R-6): what the document's step gives, from the stop up with the activation epochs of vs
abbrev pub stopped_of : ℕ → List Validator → BeaconState → List ℕ
stopped_of stop vs st = encode (kept_from stop vs st.validators)

abbrev pub StoppedCalls : Type 0
StoppedCalls =
    (stop : ℕ) (s : Settings) (st : BeaconState) (opening closing after : List ℕ) (r : ℕ)
    → decode opening ≡ st.validators
    → let tests = registry_to_tests stop s st.finality.slot (finalized_epoch_of st) opening closing in
    Closes encode tests (registry_updates_to stop s st.finality.slot (finalized_epoch_of st) (decode opening)) opening closing after r
    → StepCall s (document_step s st registry_step) st registry_step (stopped_of stop st.validators) (0 ∷ 1 ∷ 2 ∷ 3 ∷ 5 ∷ []) tests opening closing after r

-- Justification has no buffer; its operations stand where the document has them

-- what the document in 64 bits answers after the same tests
abbrev pub justification_in64_bits : Settings → BeaconState → List ℕ → CloseAnswer
justification_in64_bits s st registry =
    let tests = justification_tests s st.block_roots st.finality registry in
    let document = bind (In64Bits.step s st justification_step) (λ after. value after.finality) in
    close_answer_for (after_tests tests document) st.finality (raised_totals s st.finality.slot st.validators)

pub record JustificationCall (s : Settings) (st : BeaconState) (registry : List ℕ) (answer : CloseAnswer) : Type 0 where
  pub number : OneOf answer.refusal (0 ∷ 1 ∷ 2 ∷ 3 ∷ 4 ∷ 5 ∷ [])
  pub accepted : answer.refusal ≡ 0 →
      (answer.finality ≡ (document_step s st justification_step).finality) × (answer.raised ≡ raised_totals s st.finality.slot st.validators)
  pub refused : OneOf answer.refusal (1 ∷ 2 ∷ 3 ∷ 4 ∷ 5 ∷ []) → (answer.finality ≡ st.finality) × (answer.raised ≡ none_raised)
  -- "for no other cause": it answers as the document in 64 bits would, and no row parts the two
  pub complete : answer ≡ justification_in64_bits s st registry

abbrev pub JustificationCalls : Type 0
JustificationCalls =
    (s : Settings) (st : BeaconState) (registry : List ℕ) (answer : CloseAnswer) → decode registry ≡ st.validators
    → let tests = justification_tests s st.block_roots st.finality registry in
    let work = process_justification_and_finalization s st.block_roots st.finality (decode registry) in
    answer ≡ close_answer_for (after_tests tests work) st.finality (raised_totals s st.finality.slot (decode registry))
    → JustificationCall s st registry answer

-- Files: the numbers. What is left on a refusal is round_trip, Refused.antt.
pub record FileCalls : Type 0 where
  pub reads : (bytes registry slashings : List ℕ) → OneOf (read bytes registry slashings).refusal (0 ∷ 1 ∷ 2 ∷ 3 ∷ 6 ∷ 8 ∷ [])
  pub writes : (c : Contents) (q : ExitQueue) (file : List ℕ) → OneOf (code_of (write_tests c q file)) (0 ∷ 1 ∷ 2 ∷ 3 ∷ 8 ∷ [])

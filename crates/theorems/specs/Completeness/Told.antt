-- Demand 2 of the justification step, and what the test's number tells.
use Rattle.std.specs.Prelude.{◌≡◌, List, ℕ}
use Rattle.definitions.specs.declared.Settings.{Settings}
use Rattle.definitions.specs.declared.JustificationAnswer.{JustificationAnswer}
use Rattle.definitions.specs.Record.{BeaconState, decode}
use Rattle.definitions.specs.Raised.{raised_totals}
use Rattle.definitions.specs.Refusals.{after_tests, justification_tests}
use Rattle.definitions.specs.Rust.Altair.EpochProcessing.{process_justification_and_finalization}
use Rattle.definitions_close.specs.FinalizingTest.{finalizing_test}
use Rattle.definitions_close.specs.Justification.{justification_answer_for, less_test}
use Rattle.theorems.specs.Amounts.Laws.{set_by}
use Rattle.theorems.specs.Completeness.Calls.{JustificationCall}

pub record JustificationTold (s : Settings) (st : BeaconState) (registry : List ℕ) (answer : JustificationAnswer) : Type 0 where
  pub call : JustificationCall s st registry (less_test answer)
  pub test :
      let tests = justification_tests s st.block_roots st.finality registry in
      let work = process_justification_and_finalization s st.block_roots st.finality (decode registry) in
      answer.test ≡ finalizing_test s st.finality (after_tests tests work)
  -- the checkpoint is the one that this test sets, or the old one where it is 0, also on refusal
  pub sets : answer.finality.finalized_checkpoint ≡ set_by answer.test st.finality

abbrev pub JustificationTells : Type 0
JustificationTells =
    (s : Settings) (st : BeaconState) (registry : List ℕ) (answer : JustificationAnswer) → decode registry ≡ st.validators
    → let tests = justification_tests s st.block_roots st.finality registry in
    let work = process_justification_and_finalization s st.block_roots st.finality (decode registry) in
    answer ≡ justification_answer_for s (after_tests tests work) st.finality (raised_totals s st.finality.slot (decode registry))
    → JustificationTold s st registry answer

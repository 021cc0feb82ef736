-- Demands 1 and 2 of Deneb's two calls, in the terms that their contracts cite.
use Rattle.std.specs.Prelude.{List, [], ◌∷◌, ℕ}
use Rattle.definitions.specs.declared.ExitQueue.{ExitQueue}
use Rattle.definitions.specs.declared.QueueAnswer.{QueueAnswer}
use Rattle.definitions.specs.Record.{BeaconState}
use Rattle.definitions.specs.Checked.{Checked}
use Rattle.definitions.specs.Refusals.{in_order, is_small, settings_shaped, registry_shaped, same_length, good_registry}
use Rattle.definitions.specs.Rules.{good_rules}
use Rattle.definitions.specs.Document.Deneb as Deneb
use Rattle.definitions.specs.Close.{registry_step, finalized_epoch_of, state_of, good_limit}
use Rattle.definitions_close.specs.FullClose.{FullOutcome}
use Rattle.definitions_deneb.specs.declared.DenebRules.{DenebRules}
use Rattle.definitions_deneb.specs.Calls.{under_bellatrix, limit_of, DenebCall, as_bellatrix, deneb_document}
use Rattle.theorems.specs.Completeness.Calls.{registry_of, LimitedStepCall}
use Rattle.theorems.specs.FullClose.ByNumber.{LimitedByNumber}
use Rattle.theorems.specs.FullClose.Demand2.{LimitedCloseCall}
use Rattle.theorems.specs.FullClose.QueueCalls.{QueueCall}

-- of every call c of the close, whose outcome o is `deneb_close c`
pub record DenebCloseCall (c : DenebCall) (o : FullOutcome) : Type 0 where
  -- 0, 1, 2, 3, 8, 4 or 5, and what comes back and what every lent list holds by it
  pub by_number : LimitedByNumber (limit_of c.rules) (as_bellatrix c)
  -- the record that Deneb's document defines, and no refusal without cause
  pub demand2 : LimitedCloseCall (limit_of c.rules) (deneb_document c.rules (state_of (as_bellatrix c).call)) (as_bellatrix c) o

-- the registry step: its tests before 8
abbrev pub step_tests : DenebRules → ℕ → ℕ → List ℕ → List ℕ → Checked (Unit {0})
step_tests r state_slot finalized_epoch opening closing =
    let shaped = settings_shaped r.settings ∷ registry_shaped opening ∷ same_length opening closing ∷ [] in
    let recorded = is_small state_slot ∷ is_small finalized_epoch ∷ good_registry opening ∷ [] in
    in_order shaped (good_rules (under_bellatrix r) ∷ good_limit (limit_of r)) recorded

-- `st` is any state that has what the call is lent
abbrev pub DenebRegistryCall : DenebRules → BeaconState → ExitQueue → List ℕ → List ℕ → List ℕ → QueueAnswer → Type 0
DenebRegistryCall r st queue opening closing after answer =
    let tests = step_tests r st.finality.slot (finalized_epoch_of st) opening closing in
    let document = Deneb.process_registry_updates r.settings r.max_per_epoch_activation_churn_limit st in
    QueueCall (LimitedStepCall (limit_of r) r.settings document st registry_step registry_of (0 ∷ 1 ∷ 2 ∷ 3 ∷ 5 ∷ []) tests opening closing after)
    tests queue opening closing after answer

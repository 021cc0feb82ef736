-- Deneb's calls: the close and the registry step under a limit of activations, by Deneb's document.
use mathlib.Core.Path.{◌≡◌}
use mathlib.Core.Bool.{true, ◌||◌}
use mathlib.Core.List.{List}
use Prim.Native.Nat.{ℕ}
use Rattle.definitions.specs.declared.ExitQueue.{ExitQueue}
use Rattle.definitions.specs.declared.QueueAnswer.{QueueAnswer}
use Rattle.definitions.specs.declared.Rules.{Rules}
use Rattle.definitions.specs.Record.{BeaconState, decode}
use Rattle.definitions.specs.Refusals.{good_settings}
use Rattle.definitions.specs.Rules.{is_altair, good_bellatrix, good_rules, settings_under}
use Rattle.definitions.specs.Close.{registry_step, finalized_epoch_of, state_of, limited_step}
use Rattle.definitions_close.specs.QueueCalls.{QueueCloses}
use Rattle.definitions_deneb.specs.declared.DenebRules.{DenebRules}
use Rattle.definitions_deneb.specs.Calls.{under_bellatrix, limit_of, registry_tests, registry_work, DenebCall, as_bellatrix, deneb_close}
use Rattle.laws.proofs.Tests.{both, in_order-value}
use Rattle.agreement.proofs.Close.{deneb_close-agrees}
use Rattle.agreement.proofs.Registry.{registry}
use Rattle.theorems.specs.Completeness.Calls.{registry_of}
use Rattle.theorems.proofs.Completeness.StepCalls.{step_call, on-registry}
use Rattle.theorems.proofs.FullClose.ByNumber.{limited-by_number}
use Rattle.theorems.proofs.FullClose.Demand2.{limited_close_call}
use Rattle.theorems.proofs.FullClose.QueueCalls.{with-queue}
use Rattle.theorems_deneb.specs.Calls.{DenebCloseCall, step_tests, DenebRegistryCall}

pub deneb_close-call : (c : DenebCall) → DenebCloseCall c (deneb_close c)
unfolding deneb_close settings_under
deneb_close-call c =
    record {
      by_number = limited-by_number (limit_of c.rules) (as_bellatrix c);
      demand2 = limited_close_call (limit_of c.rules) (as_bellatrix c) _ (deneb_close-agrees c.rules.settings c.rules.bellatrix _ (state_of (as_bellatrix c).call));
    }

good-settings : (r : Rules) → good_rules r ≡ true → good_settings r.settings ≡ true
unfolding good_rules
good-settings r h = (both (good_settings r.settings) (is_altair r || good_bellatrix r.bellatrix) h).0

pub deneb_registry_call : (r : DenebRules) (st : BeaconState) (queue : ExitQueue) (opening closing after : List ℕ) (answer : QueueAnswer) → decode opening ≡ st.validators → QueueCloses (registry_tests r st.finality.slot (finalized_epoch_of st) queue opening closing) (registry_work r st.finality.slot (finalized_epoch_of st) opening) queue opening closing after answer → DenebRegistryCall r st queue opening closing after answer
unfolding registry_tests limited_step
deneb_registry_call r st queue opening closing after answer e h =
    with-queue (step_tests r st.finality.slot (finalized_epoch_of st) opening closing) (registry_work r st.finality.slot (finalized_epoch_of st) opening)
    (λ c. step_call (limit_of r) r.settings st registry_of registry_step _ _ _ (registry (limit_of r) r.settings st)
    (λ _ t. let p = in_order-value _ _ _ t in record { shaped = p.shaped 0; good = good-settings (under_bellatrix r) (p.settings 0); small = p.recorded 0 })
    (on-registry st _ _ (rw e at c))) h

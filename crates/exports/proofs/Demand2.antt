-- Demand 2, and the table of refusals by number, of every call of the exported close and of each exported step; `Learnt` is the function's
-- own contract. `st` is any state that has what the step was lent.
use mathlib.Core.Path.{◌≡◌}
use mathlib.Core.List.{List, [], ◌∷◌}
use Prim.Native.Nat.{ℕ}
use contract.Lifetimes.{Lfts}
use borrow.Fn.Kinds.{Dens, res_t, ended_of}
use denote.Triple.Clauses.{AtExit}
use Rattle.definitions.specs.declared.Settings.{Settings}
use Rattle.definitions.specs.Record.{BeaconState, decode}
use Rattle.definitions.specs.Refusals.{registry_tests, effective_balance_tests, slashings_reset_tests, rotation_tests}
use Rattle.definitions.specs.Rules.{settings_under, rewards_tests, slashings_tests}
use Rattle.definitions.specs.RegisterOrder.{registry_to_tests}
use Rattle.definitions.specs.Close.{Step, inactivity_step, rewards_step, registry_step, slashings_step, effective_balances_step, slashings_reset_step, participation_flags_step, finalized_epoch_of}
use Rattle.agreement.specs.Agreement.{document_step, document_step_under}
use Rattle.theorems.specs.Completeness.Calls.{StepCall, registry_of, slashings_of, stopped_of}
use Rattle.theorems.proofs.Completeness.StepCalls.{step-calls, rules-calls}
use Rattle.theorems.specs.FullClose.QueueCalls.{QueueCall, ExitCall}
use Rattle.theorems.specs.StoreHistory.Demand2.{StoreCloseCall}
use Rattle.theorems.proofs.StoreHistory.Demand2.{store_close-call}
use Rattle.theorems.proofs.FullClose.QueueCalls.{queue-calls, exit-call}
use Rattle.theorems.specs.Completeness.Told.{JustificationTold}
use Rattle.theorems.proofs.Completeness.Told.{justification_tells}
use Rattle.exports.proofs.Closes.{Came, called, came_back}
use Rattle.exports.proofs.ExitEpochs.{ExitCame}
use Rattle.exports.proofs.steps.altair_process_justification_and_finalization.Kinds as justification_kinds
use Rattle.exports.proofs.steps.altair_process_justification_and_finalization.Reads as justification
use Rattle.exports.proofs.steps.altair_process_inactivity_updates.Kinds as finalized_kinds
use Rattle.exports.proofs.steps.altair_process_inactivity_updates.Reads as inactivity
use Rattle.exports.proofs.steps.altair_process_rewards_and_penalties.Kinds as rewards_kinds
use Rattle.exports.proofs.steps.altair_process_rewards_and_penalties.Reads as rewards
use Rattle.exports.proofs.steps.altair_process_registry_updates.Kinds as registry_kinds
use Rattle.exports.proofs.steps.altair_process_registry_updates.Reads as registry
use Rattle.exports.proofs.steps.altair_process_registry_updates_to.Kinds as stopped_kinds
use Rattle.exports.proofs.steps.altair_process_registry_updates_to.Reads as stopped
use Rattle.exports.proofs.steps.altair_process_slashings.Kinds as slashings_kinds
use Rattle.exports.proofs.steps.altair_process_slashings.Reads as slashings
use Rattle.exports.proofs.steps.altair_process_effective_balance_updates.Kinds as balances_kinds
use Rattle.exports.proofs.steps.altair_process_effective_balance_updates.Reads as balances
use Rattle.exports.proofs.steps.altair_process_slashings_reset.Kinds as reset_kinds
use Rattle.exports.proofs.steps.altair_process_slashings_reset.Reads as reset
use Rattle.exports.proofs.steps.altair_process_participation_flag_updates.Kinds as flags_kinds
use Rattle.exports.proofs.steps.altair_process_participation_flag_updates.Reads as flags

-- by the store's tests nothing is written; by an entry's rules: the document's record, what comes back by the number, that the pair is the
-- register's before and after (R-8), and that the amounts add up (R-4)
pub demand2_altair_close : (c : Came) → StoreCloseCall (called c) (came_back c)
demand2_altair_close c = rw c.holds (store_close-call (called c))

-- the exit of one validator: its pair, and 8
pub queue_altair_exit : (c : ExitCame) → let a = c.lent in ExitCall a.0 a.1.0 a.1.1.0 a.1.1.1.0 a.1.1.1.1.0.now c.end.1.1.1.1.0.now c.answer
queue_altair_exit c = exit-call _ _ _ _ _ _ _ c.holds

-- 1, 2, 3 and 5
abbrev without_four : List ℕ
without_four = 0 ∷ 1 ∷ 2 ∷ 3 ∷ 5 ∷ []

-- the step that is lent settings, slot and finalized epoch
module _ (k : Step) where
  abbrev Finalized : ((κs : Lfts 2) → Dens κs finalized_kinds.ps → (res_t finalized_kinds.r κs).Denot → AtExit (ended_of 2 finalized_kinds.ps finalized_kinds.r) κs → Type 0) → Type 0
  Finalized contract =
      (κs : Lfts 2) (a : Dens κs finalized_kinds.ps) (r : (res_t finalized_kinds.r κs).Denot) (e : AtExit (ended_of 2 finalized_kinds.ps finalized_kinds.r) κs) → contract κs a r e →
      let opening = a.1.1.1.0.now in let closing = a.1.1.1.1.0.now in
      (st : BeaconState) → a.1.0 ≡ st.finality.slot → a.1.1.0 ≡ finalized_epoch_of st → decode opening ≡ st.validators →
      StepCall a.0 (document_step a.0 st k) st k registry_of without_four (registry_tests a.0 st.finality.slot (finalized_epoch_of st) opening closing) opening closing e.1.1.1.1.0.now r

pub demand2-inactivity : Finalized inactivity_step inactivity.Learnt
demand2-inactivity κs a r e h st p q d = (step-calls a.0 st _ _ _ r).inactivity d (rw (p, q) at h)

-- the registry step, with the pair: refused under 8 for a wrong one alone, and else the document's
pub demand2-registry : (κs : Lfts 2) (a : Dens κs registry_kinds.ps) (r : (res_t registry_kinds.r κs).Denot) (e : AtExit (ended_of 2 registry_kinds.ps registry_kinds.r) κs) → registry.Learnt κs a r e → let opening = a.1.1.1.1.0.now in let closing = a.1.1.1.1.1.0.now in let after = e.1.1.1.1.1.0.now in (st : BeaconState) → a.1.0 ≡ st.finality.slot → a.1.1.0 ≡ finalized_epoch_of st → decode opening ≡ st.validators → let tests = registry_tests a.0 st.finality.slot (finalized_epoch_of st) opening closing in QueueCall (StepCall a.0 (document_step a.0 st registry_step) st registry_step registry_of without_four tests opening closing after) tests a.1.1.1.0 opening closing after r
demand2-registry κs a r e h st p q d = (queue-calls a.0 st _ _ _ _ r).registry d (rw (p, q) at h)

-- with a stop: from it up activation epochs are the opening's, all else is the document's
pub demand2-registry_to : (κs : Lfts 2) (a : Dens κs stopped_kinds.ps) (r : (res_t stopped_kinds.r κs).Denot) (e : AtExit (ended_of 2 stopped_kinds.ps stopped_kinds.r) κs) → stopped.Learnt κs a r e → let opening = a.1.1.1.1.1.0.now in let closing = a.1.1.1.1.1.1.0.now in let after = e.1.1.1.1.1.1.0.now in (st : BeaconState) → a.1.1.0 ≡ st.finality.slot → a.1.1.1.0 ≡ finalized_epoch_of st → decode opening ≡ st.validators → let tests = registry_to_tests a.0 a.1.0 st.finality.slot (finalized_epoch_of st) opening closing in QueueCall (StepCall a.1.0 (document_step a.1.0 st registry_step) st registry_step (stopped_of a.0 st.validators) without_four tests opening closing after) tests a.1.1.1.1.0 opening closing after r
demand2-registry_to κs a r e h st p q d = (queue-calls a.1.0 st _ _ _ _ r).registry_to a.0 d (rw (p, q) at h)

pub demand2-rewards : (κs : Lfts 2) (a : Dens κs rewards_kinds.ps) (r : (res_t rewards_kinds.r κs).Denot) (e : AtExit (ended_of 2 rewards_kinds.ps rewards_kinds.r) κs) → rewards.Learnt κs a r e → let opening = a.1.1.1.0.now in let closing = a.1.1.1.1.0.now in (st : BeaconState) → a.1.0 ≡ st.finality.slot → a.1.1.0 ≡ finalized_epoch_of st → decode opening ≡ st.validators → StepCall (settings_under a.0) (document_step_under a.0 st rewards_step) st rewards_step registry_of without_four (rewards_tests a.0 st.finality.slot (finalized_epoch_of st) opening closing) opening closing e.1.1.1.1.0.now r
demand2-rewards κs a r e h st p q d = (rules-calls a.0 st _ _ _ r).rewards d (rw (p, q) at h)

pub demand2-slashings : (κs : Lfts 3) (a : Dens κs slashings_kinds.ps) (r : (res_t slashings_kinds.r κs).Denot) (e : AtExit (ended_of 3 slashings_kinds.ps slashings_kinds.r) κs) → slashings.Learnt κs a r e → let opening = a.1.1.1.0.now in let closing = a.1.1.1.1.0.now in (st : BeaconState) → a.1.0 ≡ st.finality.slot → a.1.1.0.now ≡ st.slashings → decode opening ≡ st.validators → StepCall (settings_under a.0) (document_step_under a.0 st slashings_step) st slashings_step registry_of without_four (slashings_tests a.0 st.finality.slot st.slashings opening closing) opening closing e.1.1.1.1.0.now r
demand2-slashings κs a r e h st p q d = (rules-calls a.0 st _ _ _ r).slashings d (rw (p, q) at h)

pub demand2-effective_balances : (κs : Lfts 2) (a : Dens κs balances_kinds.ps) (r : (res_t balances_kinds.r κs).Denot) (e : AtExit (ended_of 2 balances_kinds.ps balances_kinds.r) κs) → balances.Learnt κs a r e → let opening = a.1.0.now in let closing = a.1.1.0.now in (st : BeaconState) → decode opening ≡ st.validators → StepCall a.0 (document_step a.0 st effective_balances_step) st effective_balances_step registry_of without_four (effective_balance_tests a.0 opening closing) opening closing e.1.1.0.now r
demand2-effective_balances κs a r e h st d = (step-calls a.0 st _ _ _ r).effective_balances d h

pub demand2-slashings_reset : (κs : Lfts 2) (a : Dens κs reset_kinds.ps) (r : (res_t reset_kinds.r κs).Denot) (e : AtExit (ended_of 2 reset_kinds.ps reset_kinds.r) κs) → reset.Learnt κs a r e → let closing = a.1.1.1.0.now in (st : BeaconState) → a.1.0 ≡ st.finality.slot → a.1.1.0.now ≡ st.slashings → StepCall a.0 (document_step a.0 st slashings_reset_step) st slashings_reset_step slashings_of (0 ∷ 1 ∷ 2 ∷ 3 ∷ []) (slashings_reset_tests a.0 st.finality.slot st.slashings closing) st.slashings closing e.1.1.1.0.now r
demand2-slashings_reset κs a r e h st p q = (step-calls a.0 st [] _ _ r).slashings_reset (rw (p, q) at h)

pub demand2-participation_flags : (κs : Lfts 2) (a : Dens κs flags_kinds.ps) (r : (res_t flags_kinds.r κs).Denot) (e : AtExit (ended_of 2 flags_kinds.ps flags_kinds.r) κs) → flags.Learnt κs a r e → let opening = a.0.now in let closing = a.1.0.now in (s : Settings) (st : BeaconState) → decode opening ≡ st.validators → StepCall s (document_step s st participation_flags_step) st participation_flags_step registry_of (0 ∷ 1 ∷ 3 ∷ []) (rotation_tests opening closing) opening closing e.1.0.now r
demand2-participation_flags κs a r e h s st d = (step-calls s st _ _ _ r).participation_flags d h

-- and the test's number
pub demand2-justification : (κs : Lfts 2) (a : Dens κs justification_kinds.ps) (r : (res_t justification_kinds.r κs).Denot) (e : AtExit (ended_of 2 justification_kinds.ps justification_kinds.r) κs) → justification.Learnt κs a r e → (st : BeaconState) → a.1.0.now ≡ st.block_roots → a.1.1.0 ≡ st.finality → let registry = a.1.1.1.0.now in decode registry ≡ st.validators → JustificationTold a.0 st registry r
demand2-justification κs a r e h st p q d = justification_tells a.0 st _ r d (rw (p, q) at h)

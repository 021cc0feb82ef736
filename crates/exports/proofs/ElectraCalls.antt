-- Demands 1 and 2 of every Electra call; `Learnt` is the function's own contract. `st` is any state that has what the step was lent.
use mathlib.Core.Path.{◌≡◌}
use lib.ListN.{length}
use contract.Lifetimes.{Lfts}
use borrow.Fn.Kinds.{Dens, res_t, ended_of}
use denote.Triple.Clauses.{AtExit}
use Rattle.definitions.specs.Record.{decode}
use Rattle.definitions.specs.Checked.{value}
use Rattle.definitions_electra.specs.Record.{ElectraState, decode_deposits, decode_consolidations}
use Rattle.definitions_electra.specs.Refusals.{registry_tests, slashings_tests, deposits_tests, consolidations_tests, effective_balance_tests, credential_tests, slot_registry_tests, exit_tests}
use Rattle.definitions_electra.specs.Calls.{opening_keys, registry_in}
use Rattle.definitions_electra.specs.Document.Electra.Helpers as helpers
use Rattle.definitions_electra.specs.Document.Electra.EpochProcessing as document
use Rattle.definitions_electra.specs.Document.Electra.EpochProcessing.{finalized_epoch_of}
use Rattle.definitions_electra.specs.Evaluated.Electra.Helpers as helpers'
use Rattle.definitions_electra.specs.Evaluated.Electra.EpochProcessing as evaluated
use Rattle.theorems_electra.specs.Calls.{slot_of, numbers_of, ElectraCall, ChurnCall, DepositsCall, ConsolidationsCall}
use Rattle.theorems_electra.specs.Leaves.{LeafCall, NumberCall}
use Rattle.theorems_electra.proofs.Calls.{registry-calls, exit-calls, slashings-calls, deposits-calls, consolidations-calls, effective_balances-calls}
use Rattle.theorems_electra.proofs.Leaves.{balance_churn_limit-calls, activation_exit_churn_limit-calls, max_effective_balance-calls, exit_churn_calls}
use Rattle.exports.proofs.electra.electra_process_registry_updates.Kinds as registry_kinds
use Rattle.exports.proofs.electra.electra_process_registry_updates.Reads as registry
use Rattle.exports.proofs.electra.electra_process_slashings.Kinds as slashings_kinds
use Rattle.exports.proofs.electra.electra_process_slashings.Reads as slashings
use Rattle.exports.proofs.electra.electra_process_pending_deposits.Kinds as deposits_kinds
use Rattle.exports.proofs.electra.electra_process_pending_deposits.Reads as deposits
use Rattle.exports.proofs.electra.electra_process_pending_consolidations.Kinds as consolidations_kinds
use Rattle.exports.proofs.electra.electra_process_pending_consolidations.Reads as consolidations
use Rattle.exports.proofs.electra.electra_process_effective_balance_updates.Kinds as balances_kinds
use Rattle.exports.proofs.electra.electra_process_effective_balance_updates.Reads as balances
use Rattle.exports.proofs.electra.electra_get_balance_churn_limit.Kinds as limit_kinds
use Rattle.exports.proofs.electra.electra_get_balance_churn_limit.Reads as limit
use Rattle.exports.proofs.electra.electra_get_activation_exit_churn_limit.Kinds as exit_limit_kinds
use Rattle.exports.proofs.electra.electra_get_activation_exit_churn_limit.Reads as exit_limit
use Rattle.exports.proofs.electra.electra_get_max_effective_balance.Kinds as most_kinds
use Rattle.exports.proofs.electra.electra_get_max_effective_balance.Reads as most
use Rattle.exports.proofs.electra.electra_compute_exit_epoch_and_update_churn.Kinds as churn_kinds
use Rattle.exports.proofs.electra.electra_compute_exit_epoch_and_update_churn.Reads as churn
use Rattle.exports.proofs.electra.electra_initiate_validator_exit.Kinds as exit_kinds
use Rattle.exports.proofs.electra.electra_initiate_validator_exit.Reads as exit

-- The steps

module _ (κs : Lfts 2) (a : Dens κs registry_kinds.ps) (r : (res_t registry_kinds.r κs).Denot) (e : AtExit (ended_of 2 registry_kinds.ps registry_kinds.r) κs) where
  pub electra-registry : registry.Learnt κs a r e
      → let opening = a.1.1.1.1.0.now in let closing = a.1.1.1.1.1.0.now in let after = e.1.1.1.1.1.0.now in
      (st : ElectraState) → a.1.0 ≡ slot_of st → a.1.1.0 ≡ finalized_epoch_of st → a.1.1.1.0 ≡ st.churn → decode opening ≡ st.altair.validators
      → ChurnCall (registry_tests a.0 (slot_of st) (finalized_epoch_of st) opening closing) (evaluated.process_registry_updates a.0 st)
      (document.process_registry_updates a.0 st) st opening closing after r
  electra-registry h st p q c d = registry-calls a.0 st _ _ _ r d (rw (p, q, c) at h)

module _ (κs : Lfts 3) (a : Dens κs slashings_kinds.ps) (r : (res_t slashings_kinds.r κs).Denot)
    (e : AtExit (ended_of 3 slashings_kinds.ps slashings_kinds.r) κs) where
  pub electra-slashings : slashings.Learnt κs a r e
      → let opening = a.1.1.1.0.now in let closing = a.1.1.1.1.0.now in let after = e.1.1.1.1.0.now in
      (st : ElectraState) → a.1.0 ≡ slot_of st → a.1.1.0.now ≡ st.altair.slashings → decode opening ≡ st.altair.validators
      → ElectraCall (slashings_tests a.0 (slot_of st) st.altair.slashings opening closing) (evaluated.process_slashings a.0 st)
      (document.process_slashings a.0 st) registry_in opening closing after r
  electra-slashings h st p q d = slashings-calls a.0 st _ _ _ r d (rw (p, q) at h)

module _ (κs : Lfts 7) (a : Dens κs deposits_kinds.ps) (r : (res_t deposits_kinds.r κs).Denot) (e : AtExit (ended_of 7 deposits_kinds.ps deposits_kinds.r) κs) where
  pub electra-deposits : deposits.Learnt κs a r e
      → let b = a.1.1.1.1 in let registry = b.0.now in let queue = b.1.1.0.now in
      let c = b.1.1.1 in let before = c.0.now in let compounding_before = c.1.0.now in let queue_before = c.1.1.0.now in
      let z = e.1.1.1.1.1.1.1 in
      (st : ElectraState) → a.1.0 ≡ slot_of st → a.1.1.0 ≡ finalized_epoch_of st → a.1.1.1.0 ≡ numbers_of st → b.1.0.now ≡ st.compounding
      → decode registry ≡ st.altair.validators → st.pubkeys ≡ opening_keys (length st.altair.validators) → decode_deposits queue ≡ st.pending_deposits
      → DepositsCall
      (deposits_tests a.0 (slot_of st) (finalized_epoch_of st) registry st.compounding queue before compounding_before queue_before c.1.1.1.0.now)
      (evaluated.process_pending_deposits a.0 st) (document.process_pending_deposits a.0 st) (numbers_of st) registry st.compounding queue
      before z.0.now compounding_before z.1.0.now queue_before z.1.1.0.now r
  electra-deposits h st p q n m d k f = deposits-calls a.0 st _ _ _ _ _ _ _ _ _ r d k f (rw (p, q, n, m) at h)

module _ (κs : Lfts 4) (a : Dens κs consolidations_kinds.ps) (r : (res_t consolidations_kinds.r κs).Denot)
    (e : AtExit (ended_of 4 consolidations_kinds.ps consolidations_kinds.r) κs) where
  pub electra-consolidations : consolidations.Learnt κs a r e
      → let registry = a.1.1.0.now in let queue = a.1.1.1.0.now in
      let before = a.1.1.1.1.0.now in let queue_before = a.1.1.1.1.1.0.now in
      (st : ElectraState) → a.1.0 ≡ slot_of st → decode registry ≡ st.altair.validators → decode_consolidations queue ≡ st.pending_consolidations
      → ConsolidationsCall (consolidations_tests a.0 (slot_of st) registry queue before queue_before) (evaluated.process_pending_consolidations a.0 st)
      (document.process_pending_consolidations a.0 st) registry queue before e.1.1.1.1.0.now queue_before e.1.1.1.1.1.0.now r
  electra-consolidations h st p d f = consolidations-calls a.0 st _ _ _ _ _ _ r d f (rw p at h)

module _ (κs : Lfts 3) (a : Dens κs balances_kinds.ps) (r : (res_t balances_kinds.r κs).Denot) (e : AtExit (ended_of 3 balances_kinds.ps balances_kinds.r) κs) where
  pub electra-effective_balances : balances.Learnt κs a r e
      → let opening = a.1.1.0.now in let closing = a.1.1.1.0.now in let after = e.1.1.1.0.now in
      (st : ElectraState) → a.1.0.now ≡ st.compounding → decode opening ≡ st.altair.validators
      → ElectraCall (effective_balance_tests a.0 st.compounding opening closing) (evaluated.process_effective_balance_updates a.0 st)
      (document.process_effective_balance_updates a.0 st) registry_in opening closing after r
  electra-effective_balances h st p d = effective_balances-calls a.0 st _ _ _ r d (rw p at h)

-- The leaves

module _ (κs : Lfts 1) (a : Dens κs exit_kinds.ps) (r : (res_t exit_kinds.r κs).Denot) (e : AtExit (ended_of 1 exit_kinds.ps exit_kinds.r) κs) where
  pub electra-exit : exit.Learnt κs a r e
      → let registry = a.1.1.1.1.0.now in let after = e.1.1.1.1.0.now in
      (st : ElectraState) → a.1.0 ≡ slot_of st → a.1.1.1.0 ≡ st.churn → decode registry ≡ st.altair.validators
      → ChurnCall (exit_tests a.0 (slot_of st) a.1.1.0 registry) (helpers'.initiate_validator_exit a.0 st a.1.1.0)
      (helpers.initiate_validator_exit a.0 st a.1.1.0) st registry registry after r
  electra-exit h st p c d = exit-calls a.0 st _ _ _ r d (rw (p, c) at h)

module _ (κs : Lfts 1) (a : Dens κs limit_kinds.ps) (r : (res_t limit_kinds.r κs).Denot) (e : AtExit (ended_of 1 limit_kinds.ps limit_kinds.r) κs) where
  pub electra-balance_churn_limit : limit.Learnt κs a r e → let registry = a.1.1.0.now in
      NumberCall (slot_registry_tests a.0 a.1.0 registry) (helpers'.get_balance_churn_limit a.0 a.1.0 (decode registry))
      (helpers.get_balance_churn_limit a.0 a.1.0 (decode registry)) r
  electra-balance_churn_limit h = balance_churn_limit-calls _ _ _ _ h

module _ (κs : Lfts 1) (a : Dens κs exit_limit_kinds.ps) (r : (res_t exit_limit_kinds.r κs).Denot)
    (e : AtExit (ended_of 1 exit_limit_kinds.ps exit_limit_kinds.r) κs) where
  pub electra-activation_exit_churn_limit : exit_limit.Learnt κs a r e → let registry = a.1.1.0.now in
      NumberCall (slot_registry_tests a.0 a.1.0 registry) (helpers'.get_activation_exit_churn_limit a.0 a.1.0 (decode registry))
      (helpers.get_activation_exit_churn_limit a.0 a.1.0 (decode registry)) r
  electra-activation_exit_churn_limit h = activation_exit_churn_limit-calls _ _ _ _ h

module _ (κs : Lfts 0) (a : Dens κs most_kinds.ps) (r : (res_t most_kinds.r κs).Denot) (e : AtExit (ended_of 0 most_kinds.ps most_kinds.r) κs) where
  pub electra-max_effective_balance : most.Learnt κs a r e → let m = helpers.get_max_effective_balance a.0.electra a.1.0 in
      NumberCall (credential_tests a.0 a.1.0) (value m) m r
  electra-max_effective_balance h = max_effective_balance-calls _ _ _ h

module _ (κs : Lfts 1) (a : Dens κs churn_kinds.ps) (r : (res_t churn_kinds.r κs).Denot) (e : AtExit (ended_of 1 churn_kinds.ps churn_kinds.r) κs) where
  pub electra_exit_churn : churn.Learnt κs a r e
      → let registry = a.1.1.1.1.0.now in let c = a.1.1.0 in let balance = a.1.1.1.0 in
      LeafCall (slot_registry_tests a.0 a.1.0 registry)
      (helpers'.compute_exit_epoch_and_update_churn a.0 a.1.0 (decode registry) c balance)
      (helpers.compute_exit_epoch_and_update_churn a.0 a.1.0 (decode registry) c balance) c r.churn r.refusal
  electra_exit_churn h = exit_churn_calls _ _ _ _ _ _ h

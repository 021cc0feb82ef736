-- What a step makes of the state that has only what it is lent, and of any other that has it: the same, in what it hands back.
use mathlib.Core.Path.{◌≡◌, refl}
use mathlib.Core.Bool.{Bool, ◌&&◌}
use mathlib.Core.List.{List}
use Prim.Native.Nat.{ℕ}
use lib.Dec.{leb, eqb}
use lib.ListN.{length, get_or}
use Rattle.definitions.specs.Record.{FAR_FUTURE_EPOCH, nobody, decode}
use Rattle.definitions_electra.specs.declared.ElectraRules.{ElectraRules}
use Rattle.definitions_electra.specs.Record.{ElectraState, decode_deposits, decode_consolidations}
use Rattle.definitions_electra.specs.Calls.{opening_keys, registry_work, exit_work, slashings_work, deposits_work, consolidations_work, effective_balances_work}
use Rattle.definitions_electra.specs.Document.Electra.EpochProcessing.{current_epoch_of, finalized_epoch_of}
use Rattle.definitions_electra.specs.Document.Electra.Helpers.{is_eligible_for_activation_queue}
use Rattle.definitions.specs.Rust.Phase0.Helpers.{is_active_validator, is_eligible_for_activation}
use Rattle.definitions_electra.specs.Evaluated.Electra.Helpers.{initiate_validator_exit}
use Rattle.definitions_electra.specs.Evaluated.Electra.EpochProcessing.{update_registry_at, process_registry_updates, process_slashings, queueing, process_pending_deposits, process_pending_consolidations, process_effective_balance_updates}
use Rattle.theorems_electra.specs.Calls.{numbers_of}
use Rattle.theorems_electra.proofs.Alike.{Alike, alike_then, alike-cond, alike_fold}

abbrev pub SameValidators : ElectraState → ElectraState → Type 0
SameValidators a b = a.altair.validators ≡ b.altair.validators

module _ (r : ElectraRules) (st : ElectraState) where
  abbrev slot : ℕ
  slot = st.altair.finality.slot

  pub slashings_frame : (registry : List ℕ) → decode registry ≡ st.altair.validators → Alike SameValidators (slashings_work r slot st.altair.slashings registry) (process_slashings r st)
  unfolding slashings_work process_slashings
  slashings_frame registry d = rw d (alike_then _ (λ total. alike_then _ (λ slashed. alike_then _ (λ product. alike_then _ (λ ws. record { both = refl })))))

  pub balances_frame : (registry : List ℕ) → decode registry ≡ st.altair.validators → Alike SameValidators (effective_balances_work r st.compounding registry) (process_effective_balance_updates r st)
  unfolding effective_balances_work process_effective_balance_updates
  balances_frame registry d = rw d (alike_then _ (λ vs. record { both = refl }))

pub record SameQueue (a b : ElectraState) : Type 0 where
  pub validators : SameValidators a b
  pub consolidations : a.pending_consolidations ≡ b.pending_consolidations

pub consolidations_frame : (r : ElectraRules) (st : ElectraState) (registry consolidations : List ℕ) → decode registry ≡ st.altair.validators → decode_consolidations consolidations ≡ st.pending_consolidations → Alike SameQueue (consolidations_work r st.altair.finality.slot registry consolidations) (process_pending_consolidations r st)
unfolding consolidations_work process_pending_consolidations
consolidations_frame r st registry consolidations d e = rw (d, e) (alike_then _ (λ next. alike_then _ (λ p. record { both = record { validators = refl; consolidations = refl } })))

pub record SameDeposits (a b : ElectraState) : Type 0 where
  pub validators : SameValidators a b
  pub compounding : a.compounding ≡ b.compounding
  pub to_consume : a.deposit_balance_to_consume ≡ b.deposit_balance_to_consume
  pub deposits : a.pending_deposits ≡ b.pending_deposits

pub deposits_frame : (r : ElectraRules) (st : ElectraState) (registry deposits : List ℕ) → decode registry ≡ st.altair.validators → st.pubkeys ≡ opening_keys (length st.altair.validators) → decode_deposits deposits ≡ st.pending_deposits → Alike SameDeposits (deposits_work r st.altair.finality.slot (finalized_epoch_of st) (numbers_of st) registry st.compounding deposits) (process_pending_deposits r st)
unfolding deposits_work process_pending_deposits queueing
deposits_frame r st registry deposits d k e = rw (d, e, k) (alike_then _ (λ q. alike_then _ (λ p. alike_then _ (λ left. record { both = record { validators = refl; compounding = refl; to_consume = refl; deposits = refl } }))))

-- what an exit hands back
pub record SameLeft (a b : ElectraState) : Type 0 where
  pub validators : SameValidators a b
  pub churn : a.churn ≡ b.churn

-- The registry: states that share what its loop reads and writes
pub record SameRegistry (a b : ElectraState) : Type 0 where
  pub slot : a.altair.finality.slot ≡ b.altair.finality.slot
  pub finalized : finalized_epoch_of a ≡ finalized_epoch_of b
  pub validators : SameValidators a b
  pub churn : a.churn ≡ b.churn

abbrev stays : ElectraState → ℕ → Bool
stays st index = eqb (get_or st.altair.validators index nobody).exit_epoch FAR_FUTURE_EPOCH

exit-alike : (r : ElectraRules) (a b : ElectraState) (index : ℕ) → SameRegistry a b → Alike SameRegistry (initiate_validator_exit r a index) (initiate_validator_exit r b index)
unfolding initiate_validator_exit
exit-alike r a b index h =
    rw (h.slot, h.validators, h.churn)
    (alike-cond (stays b index) (alike_then _ (λ after. alike_then _ (λ withdrawable. record { both = record { slot = refl; finalized = h.finalized; validators = refl; churn = refl } }))) (record { both = record { slot = refl; finalized = h.finalized; validators = refl; churn = refl } }))

turn-alike : (r : ElectraRules) (activation : ℕ) (a b : ElectraState) (index : ℕ) → SameRegistry a b → Alike SameRegistry (update_registry_at r activation a index) (update_registry_at r activation b index)
unfolding update_registry_at
turn-alike r activation a b index h =
    let v = get_or b.altair.validators index nobody in
    rw (h.slot, h.finalized, h.validators)
    (alike-cond (is_eligible_for_activation_queue r.electra v) (alike_then _ (λ next. record { both = record { slot = refl; finalized = refl; validators = refl; churn = h.churn } }))
    (alike-cond (is_active_validator v (current_epoch_of r b) && leb v.effective_balance r.settings.ejection_balance) (exit-alike r _ b index (record { slot = refl; finalized = refl; validators = refl; churn = h.churn }))
    (alike-cond (is_eligible_for_activation (finalized_epoch_of b) v) (record { both = record { slot = refl; finalized = refl; validators = refl; churn = h.churn } }) (record { both = record { slot = refl; finalized = refl; validators = refl; churn = h.churn } }))))

pub registry_frame : (r : ElectraRules) (st : ElectraState) (registry : List ℕ) → decode registry ≡ st.altair.validators → Alike SameRegistry (registry_work r st.altair.finality.slot (finalized_epoch_of st) st.churn registry) (process_registry_updates r st)
unfolding registry_work process_registry_updates
registry_frame r st registry d = rw d (alike_then _ (λ activation. alike_fold (turn-alike r activation) _ _ _ (record { slot = refl; finalized = refl; validators = refl; churn = refl })))

pub exit_frame : (r : ElectraRules) (st : ElectraState) (index : ℕ) (registry : List ℕ) → decode registry ≡ st.altair.validators → Alike SameLeft (exit_work r st.altair.finality.slot index st.churn registry) (initiate_validator_exit r st index)
unfolding exit_work initiate_validator_exit
exit_frame r st index registry d =
    rw d
    (alike-cond (stays st index) (alike_then _ (λ after. alike_then _ (λ withdrawable. record { both = record { validators = refl; churn = refl } }))) (record { both = record { validators = refl; churn = refl } }))

-- Agreement of the helpers that several steps call.
use mathlib.Core.Path.{◌≡◌, refl}
use mathlib.Core.Bool.{Bool, true, false, cond}
use mathlib.Core.List.{List}
use Prim.Native.Nat.{ℕ}
use Rattle.definitions.specs.declared.Settings.{Settings}
use Rattle.definitions.specs.Record.{Validator, BeaconState}
use Rattle.definitions.specs.Updates.{with_validators}
use Rattle.definitions.specs.Document.Phase0.Helpers as document
use Rattle.definitions.specs.Document.Phase0.EpochProcessing as document_epoch
use Rattle.definitions.specs.Rust.Phase0.Helpers as rust
use Rattle.definitions.specs.Rust.Phase0.EpochProcessing as rust_epoch
use Rattle.agreement.proofs.Agrees.{Agrees, IsOverflow, value-agrees, bind-agrees, add64-agrees, sub64-agrees, mul64-agrees, sum64-agrees}

pub start-slot : (s : Settings) (epoch : ℕ) → Agrees IsOverflow (rust.compute_start_slot_at_epoch s epoch) (document.compute_start_slot_at_epoch s epoch)
unfolding rust.compute_start_slot_at_epoch document.compute_start_slot_at_epoch
start-slot s epoch = mul64-agrees _ _

pub activation-exit-epoch : (s : Settings) (epoch : ℕ) → Agrees IsOverflow (rust.compute_activation_exit_epoch s epoch) (document.compute_activation_exit_epoch s epoch)
unfolding rust.compute_activation_exit_epoch document.compute_activation_exit_epoch
activation-exit-epoch s epoch = bind-agrees _ (add64-agrees _ _) (add64-agrees _ _)

pub total-balance : (s : Settings) (members : List Validator) → Agrees IsOverflow (rust.get_total_balance s members) (document.get_total_balance s members)
unfolding rust.get_total_balance document.get_total_balance
total-balance s members = bind-agrees _ (sum64-agrees _) value-agrees

pub total_active_balance : (s : Settings) (state_slot : ℕ) (vs : List Validator) → Agrees IsOverflow (rust.get_total_active_balance s state_slot vs) (document.get_total_active_balance s state_slot vs)
unfolding rust.get_total_active_balance document.get_total_active_balance
total_active_balance s state_slot vs = total-balance s _

pub increase_balance : (v : Validator) (delta : ℕ) → Agrees IsOverflow (rust.increase_balance v delta) (document.increase_balance v delta)
unfolding rust.increase_balance document.increase_balance
increase_balance v delta = bind-agrees _ (add64-agrees _ _) value-agrees

pub leak : (s : Settings) (state_slot finalized_epoch : ℕ) → Agrees IsOverflow (rust_epoch.is_in_inactivity_leak s state_slot finalized_epoch) (document_epoch.is_in_inactivity_leak s state_slot finalized_epoch)
unfolding rust_epoch.is_in_inactivity_leak document_epoch.is_in_inactivity_leak rust_epoch.get_finality_delay document_epoch.get_finality_delay
leak s state_slot finalized_epoch = bind-agrees _ (sub64-agrees _ _) value-agrees

-- where a step does nothing the state is the old one
pub kept-validators : (t : Bool) (vs : List Validator) (st : BeaconState) → cond t st (with_validators vs st) ≡ with_validators (cond t st.validators vs) st
kept-validators true vs st = refl
kept-validators false vs st = refl

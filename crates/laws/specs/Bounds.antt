-- What the tests keep inside 64 bits: sums and products of slot, epochs and settings that the Rust evaluates, and that cannot refuse
-- once tests 1, 2 and 3 have passed.
use Rattle.std.specs.Prelude.{◌≡◌, true, List, ℕ, ◌+◌, ◌*◌, ◌/◌, ◌^◌, ◌≤◌, ◌<◌}
use Rattle.definitions.specs.declared.Settings.{Settings}
use Rattle.definitions.specs.declared.Finality.{Finality}
use Rattle.definitions.specs.declared.Rules.{Rules}
use Rattle.definitions.specs.Checked.{value, add64}
use Rattle.definitions.specs.Refusals.{settings_shaped, good_settings, is_small, justification_tests, registry_tests, effective_balance_tests, slashings_reset_tests}
use Rattle.definitions.specs.Rules.{settings_under, rewards_tests, slashings_tests, inactivity_penalty_tests}
use Rattle.definitions.specs.Document.Phase0.Helpers as document
use Rattle.definitions.specs.Document.Phase0.Helpers.{get_current_epoch, get_previous_epoch}
use Rattle.definitions.specs.Rust.Phase0.Helpers as rust
use Rattle.definitions.specs.Close.{Call, close_tests}

-- the tests of settings and slot
pub record Passed (s : Settings) (state_slot : ℕ) : Type 0 where
  pub shaped : settings_shaped s ≡ true
  pub good : good_settings s ≡ true
  pub small : is_small state_slot ≡ true

-- and of the finality part
pub record FinalityPassed (s : Settings) (f : Finality) : Type 0 where
  pub passed : Passed s f.slot
  pub previous_justified : is_small f.previous_justified_checkpoint.epoch ≡ true
  pub current_justified : is_small f.current_justified_checkpoint.epoch ≡ true
  pub finalized : is_small f.finalized_checkpoint.epoch ≡ true

-- the tests of each step that is lent settings ask for this
pub record TestsPassed (s : Settings) : Type 0 where
  pub justification : (roots : List ℕ) (f : Finality) (registry : List ℕ) → justification_tests s roots f registry ≡ value tt → FinalityPassed s f
  pub registry : (state_slot finalized_epoch : ℕ) (opening closing : List ℕ) → registry_tests s state_slot finalized_epoch opening closing ≡ value tt → Passed s state_slot × (is_small finalized_epoch ≡ true)
  pub effective_balances : (opening closing : List ℕ) → effective_balance_tests s opening closing ≡ value tt → (settings_shaped s ≡ true) × (good_settings s ≡ true)
  pub slashings_reset : (state_slot : ℕ) (opening closing : List ℕ) → slashings_reset_tests s state_slot opening closing ≡ value tt → Passed s state_slot

-- and those of the calls that are lent rules ask for it of the settings under them
pub record RulesPassed (r : Rules) : Type 0 where
  pub close : (c : Call) → c.rules ≡ r → close_tests c ≡ value tt → FinalityPassed (settings_under r) c.finality
  pub rewards : (state_slot finalized_epoch : ℕ) (opening closing : List ℕ) → rewards_tests r state_slot finalized_epoch opening closing ≡ value tt → Passed (settings_under r) state_slot × (is_small finalized_epoch ≡ true)
  pub slashings : (state_slot : ℕ) (slashings opening closing : List ℕ) → slashings_tests r state_slot slashings opening closing ≡ value tt → Passed (settings_under r) state_slot
  pub inactivity_penalty : (state_slot : ℕ) (entry : List ℕ) → inactivity_penalty_tests r state_slot entry ≡ value tt → Passed (settings_under r) state_slot

pub record Bounds (s : Settings) (state_slot : ℕ) : Type 0 where
  pub next_epoch : get_current_epoch s state_slot + 1 < 2 ^ 64
  pub activation_exit : get_current_epoch s state_slot + 1 + s.max_seed_lookahead < 2 ^ 64
  pub after_previous : get_previous_epoch s state_slot + 1 < 2 ^ 64
  pub slashing_due : get_current_epoch s state_slot + s.epochs_per_slashings_vector / 2 < 2 ^ 64
  pub finality_test : (epoch : ℕ) → is_small epoch ≡ true → epoch + 3 < 2 ^ 64
  pub previous_start : (get_previous_epoch s state_slot * s.slots_per_epoch ≤ state_slot) × (get_previous_epoch s state_slot * s.slots_per_epoch < 2 ^ 64)
  pub current_start : (get_current_epoch s state_slot * s.slots_per_epoch ≤ state_slot) × (get_current_epoch s state_slot * s.slots_per_epoch < 2 ^ 64)
  pub roots_end : (slot : ℕ) → slot ≤ state_slot → slot + s.slots_per_historical_root < 2 ^ 64

-- and so these give values
pub record Given (s : Settings) (state_slot : ℕ) : Type 0 where
  pub activation_exit : rust.compute_activation_exit_epoch s (get_current_epoch s state_slot) ≡ value (document.compute_activation_exit_epoch s (get_current_epoch s state_slot))
  pub previous_start : rust.compute_start_slot_at_epoch s (get_previous_epoch s state_slot) ≡ value (document.compute_start_slot_at_epoch s (get_previous_epoch s state_slot))
  pub current_start : rust.compute_start_slot_at_epoch s (get_current_epoch s state_slot) ≡ value (document.compute_start_slot_at_epoch s (get_current_epoch s state_slot))
  pub slashing_due : add64 (get_current_epoch s state_slot) (s.epochs_per_slashings_vector / 2) ≡ value (get_current_epoch s state_slot + s.epochs_per_slashings_vector / 2)
  pub roots_end : (slot : ℕ) → slot ≤ state_slot → add64 slot s.slots_per_historical_root ≡ value (slot + s.slots_per_historical_root)

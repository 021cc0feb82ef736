-- Which fields of the state, and of a validator, each of the eight steps writes: `but k st` is st without what step k writes. That a step leaves
-- the rest as it was is proofs/Frame/Frames.antt `frames`.
use Rattle.std.specs.Prelude.{◌≡◌, [], map, ℕ}
use Rattle.definitions.specs.declared.Settings.{Settings}
use Rattle.definitions.specs.declared.ActivationLimit.{ActivationLimit}
use Rattle.definitions.specs.declared.Checkpoint.{Checkpoint}
use Rattle.definitions.specs.declared.Finality.{Finality}
use Rattle.definitions.specs.Record.{Validator, BeaconState}
use Rattle.definitions.specs.Updates.{with_effective_balance, with_eligibility, with_activation, with_exit, with_balance, with_score, with_participation, with_validators, with_finality, with_slashings}
use Rattle.definitions.specs.Checked.{value}
use Rattle.definitions.specs.Close.{Step, justification_step, inactivity_step, rewards_step, registry_step, slashings_step, effective_balances_step, slashings_reset_step, participation_flags_step, limited_step}

-- each validator without some of its fields
abbrev pub each : (Validator → Validator) → BeaconState → BeaconState
each f st = with_validators (map f st.validators) st

-- a slot alone, without bits and checkpoints
abbrev none : Checkpoint
none = record { epoch = 0; root = [] }

abbrev pub slot_alone : Finality → Finality
slot_alone f =
    record {
      slot = f.slot;
      justification_bits = 0;
      previous_justified_checkpoint = none;
      current_justified_checkpoint = none;
      finalized_checkpoint = none;
    }

-- the four epochs of a validator
abbrev pub without_epochs : Validator → Validator
without_epochs v = with_eligibility 0 (with_activation 0 (with_exit 0 0 v))

-- the number of slashings stays too
abbrev pub but : Step → BeaconState → BeaconState
but justification_step st = with_finality (slot_alone st.finality) st
but inactivity_step st = each (with_score 0) st
but rewards_step st = each (with_balance 0) st
but registry_step st = each without_epochs st
but slashings_step st = each (with_balance 0) st
but effective_balances_step st = each (with_effective_balance 0) st
but slashings_reset_step st = with_slashings (map (λ (x : ℕ). 0) st.slashings) st
but participation_flags_step st = each (with_participation 0 0) st

-- whatever the limit of activations
abbrev pub Frames : ActivationLimit → Type 0
Frames limit = (s : Settings) (k : Step) (a b : BeaconState) → limited_step limit s a k ≡ value b → but k b ≡ but k a

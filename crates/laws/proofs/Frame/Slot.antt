-- The slot stays in every step.
use mathlib.Core.Path.{◌≡◌, ap}
use Prim.Native.Nat.{ℕ}
use Rattle.definitions.specs.declared.Settings.{Settings}
use Rattle.definitions.specs.declared.ActivationLimit.{ActivationLimit}
use Rattle.definitions.specs.declared.ActivationLimit.TheVariants.{Churn}
use Rattle.definitions.specs.Record.{BeaconState}
use Rattle.definitions.specs.Checked.{value}
use Rattle.definitions.specs.Close.{Step, justification_step, inactivity_step, rewards_step, registry_step, slashings_step, effective_balances_step, slashings_reset_step, participation_flags_step, step, limited_step}
use Rattle.laws.proofs.Frame.Frames.{limited-frames}

abbrev slot_of : BeaconState → ℕ
slot_of st = st.finality.slot

pub limited-slot : (limit : ActivationLimit) (s : Settings) (k : Step) (a b : BeaconState) → limited_step limit s a k ≡ value b → b.finality.slot ≡ a.finality.slot
limited-slot limit s justification_step a b p = ap slot_of (limited-frames limit s justification_step a b p)
limited-slot limit s inactivity_step a b p = ap slot_of (limited-frames limit s inactivity_step a b p)
limited-slot limit s rewards_step a b p = ap slot_of (limited-frames limit s rewards_step a b p)
limited-slot limit s registry_step a b p = ap slot_of (limited-frames limit s registry_step a b p)
limited-slot limit s slashings_step a b p = ap slot_of (limited-frames limit s slashings_step a b p)
limited-slot limit s effective_balances_step a b p = ap slot_of (limited-frames limit s effective_balances_step a b p)
limited-slot limit s slashings_reset_step a b p = ap slot_of (limited-frames limit s slashings_reset_step a b p)
limited-slot limit s participation_flags_step a b p = ap slot_of (limited-frames limit s participation_flags_step a b p)

-- before Deneb
pub slot_step : (s : Settings) (k : Step) (a b : BeaconState) → step s a k ≡ value b → b.finality.slot ≡ a.finality.slot
slot_step = limited-slot Churn

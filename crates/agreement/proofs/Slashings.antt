-- Agreement of the slashings.
use mathlib.Core.Bool.{Bool, true, false, cond, ◌&&◌}
use Prim.Native.Nat.{ℕ, ◌+◌, ◌/◌}
use lib.Dec.{eqb}
use Rattle.definitions.specs.declared.Settings.{Settings}
use Rattle.definitions.specs.declared.ActivationLimit.{ActivationLimit}
use Rattle.definitions.specs.Record.{Validator, BeaconState, is_slashed}
use Rattle.definitions.specs.Checked.{Checked, value}
use Rattle.definitions.specs.Document.Altair.EpochProcessing as document
use Rattle.definitions.specs.Rust.Altair.EpochProcessing as rust
use Rattle.definitions.specs.Close.{limited_step, slashings_step}
use Rattle.agreement.proofs.Agrees.{Agrees, IsOverflow, value-agrees, bind-agrees, cond-agrees, add64-agrees, mul64-agrees, sum64-agrees, map-agrees}
use Rattle.agreement.proofs.Helpers.{total_active_balance}

-- a test that is evaluated only where another passed
and_agrees : (t : Bool) {m : Checked Bool} {b : Bool} → Agrees IsOverflow m b → Agrees IsOverflow (cond t m (value false)) (t && b)
and_agrees true h = h
and_agrees false h = value-agrees

slashing-due : (s : Settings) (epoch : ℕ) (v : Validator) → Agrees IsOverflow (rust.is_slashing_due s epoch v) (is_slashed v && eqb (epoch + s.epochs_per_slashings_vector / 2) v.withdrawable_epoch)
unfolding rust.is_slashing_due
slashing-due s epoch v = and_agrees (is_slashed v) (bind-agrees _ (add64-agrees _ _) value-agrees)

slash : (s : Settings) (epoch total adjusted : ℕ) (v : Validator) → Agrees IsOverflow (rust.slash s epoch total adjusted v) (document.slash s epoch total adjusted v)
unfolding rust.slash document.slash rust.slashing_penalty
slash s epoch total adjusted v =
    bind-agrees _ (slashing-due s epoch v)
    (cond-agrees (is_slashed v && eqb (epoch + s.epochs_per_slashings_vector / 2) v.withdrawable_epoch)
    (bind-agrees _ (bind-agrees _ (mul64-agrees _ _) (mul64-agrees _ _)) value-agrees)
    value-agrees)

pub slashings : (l : ActivationLimit) (s : Settings) (st : BeaconState) → Agrees IsOverflow (limited_step l s st slashings_step) (document.process_slashings s s.proportional_slashing_multiplier_altair st)
unfolding limited_step rust.process_slashings document.process_slashings
slashings l s st =
    bind-agrees _
    (bind-agrees _ (total_active_balance s _ _)
    (bind-agrees _ (sum64-agrees _)
    (bind-agrees _ (mul64-agrees _ _) (map-agrees (slash s _ _ _) _))))
    value-agrees

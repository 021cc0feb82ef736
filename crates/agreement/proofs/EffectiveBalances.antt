-- Agreement of the effective balances.
use mathlib.Core.Bool.{Bool, true, false, cond, ◌||◌}
use Prim.Native.Nat.{◌+◌, ◌*◌, ◌/◌}
use lib.Dec.{ltb}
use Rattle.definitions.specs.declared.Settings.{Settings}
use Rattle.definitions.specs.declared.ActivationLimit.{ActivationLimit}
use Rattle.definitions.specs.Record.{Validator, BeaconState}
use Rattle.definitions.specs.Checked.{Checked, value}
use Rattle.definitions.specs.Document.Phase0.EpochProcessing as document
use Rattle.definitions.specs.Rust.Phase0.EpochProcessing as rust
use Rattle.definitions.specs.Close.{limited_step, effective_balances_step}
use Rattle.agreement.proofs.Agrees.{Agrees, IsOverflow, value-agrees, bind-agrees, add64-agrees, mul64-agrees, map-agrees}

-- a second test that is evaluated only where the first failed
or_agrees : {A : Type 0} (t u : Bool) {m : Checked A} (x y : A) → Agrees IsOverflow m (cond u x y) → Agrees IsOverflow (cond t (value x) m) (cond (t || u) x y)
or_agrees true u x y h = value-agrees
or_agrees false u x y h = h

pub effective-balance : (s : Settings) (v : Validator) → Agrees IsOverflow (rust.update_effective_balance s (s.effective_balance_increment / s.hysteresis_quotient * s.hysteresis_downward_multiplier) (s.effective_balance_increment / s.hysteresis_quotient * s.hysteresis_upward_multiplier) v) (document.update_effective_balance s v)
unfolding rust.update_effective_balance document.update_effective_balance
effective-balance s v =
    let increment = s.effective_balance_increment / s.hysteresis_quotient in
    let low = ltb (v.balance + increment * s.hysteresis_downward_multiplier) v.effective_balance in
    let high = ltb (v.effective_balance + increment * s.hysteresis_upward_multiplier) v.balance in
    bind-agrees _ (add64-agrees _ _) (or_agrees low high _ _ (bind-agrees _ (add64-agrees _ _) value-agrees))

pub effective-balances : (l : ActivationLimit) (s : Settings) (st : BeaconState) → Agrees IsOverflow (limited_step l s st effective_balances_step) (document.process_effective_balance_updates s st)
unfolding limited_step rust.process_effective_balance_updates document.process_effective_balance_updates
effective-balances l s st =
    bind-agrees _ (bind-agrees _ (mul64-agrees _ _) (bind-agrees _ (mul64-agrees _ _) (map-agrees (effective-balance s) _))) value-agrees

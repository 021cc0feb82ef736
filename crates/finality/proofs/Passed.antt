-- What the tests of the finality leaves give once passed. `x` is what their code answered.
use mathlib.Core.Path.{◌≡◌, sym, ◌∙◌}
use Prim.Native.Nat.{ℕ, ◌^◌, ◌<◌}
use Rattle.definitions.specs.declared.Settings.{Settings}
use Rattle.definitions.specs.Checked.{Checked, value}
use Rattle.definitions.specs.LeafRefusals.{finalized_tests}
use Rattle.laws.proofs.Tests.{in_order-value}
use Rattle.refusals.proofs.Laws.{settings-shaped, good-settings, small}
use Rattle.epochs.proofs.Passed.{SlotPassed}
use Rattle.definitions.specs.Rust.Phase0.EpochProcessing.{get_finality_delay, is_in_inactivity_leak}
use Rattle.arithmetic.proofs.Operations.{OnlyOverflow, only-value, only-sub64, only-bind}

pub record FinalizedPassed (s : Settings) (state_slot finalized_epoch : ℕ) : Type 0 where
  pub slot : SlotPassed s state_slot
  pub finalized : finalized_epoch < 2 ^ 48

pub finalized-passed : (s : Settings) (state_slot finalized_epoch : ℕ) {x : Checked (Unit {0})} → x ≡ finalized_tests s state_slot finalized_epoch → x ≡ value tt → FinalizedPassed s state_slot finalized_epoch
unfolding finalized_tests
finalized-passed s state_slot finalized_epoch e z =
    let p = in_order-value _ _ _ (sym e ∙ z) in
    record {
      slot = record { settings = record { shape = settings-shaped s (p.shaped 0); good = good-settings s (p.settings 0) }; slot = small state_slot (p.recorded 0) };
      finalized = small finalized_epoch (p.recorded 1);
    }

-- the delay and the leak are refused only by overflow
pub only-delay : (s : Settings) (state_slot finalized_epoch : ℕ) → OnlyOverflow (get_finality_delay s state_slot finalized_epoch)
unfolding get_finality_delay
only-delay s state_slot finalized_epoch = only-sub64 _ _

pub only-leak : (s : Settings) (state_slot finalized_epoch : ℕ) → OnlyOverflow (is_in_inactivity_leak s state_slot finalized_epoch)
unfolding is_in_inactivity_leak
only-leak s state_slot finalized_epoch = only-bind (only-delay s state_slot finalized_epoch) (λ delay. only-value _)

-- What the tests of a call that is lent a registry give once passed. `x` is what their code answered.
use mathlib.Core.Bool.{Bool}
use mathlib.Core.List.{List, [], ◌∷◌}
use mathlib.Core.Path.{◌≡◌, sym, ◌∙◌}
use Prim.Native.Nat.{ℕ, ◌/◌, ◌^◌, ◌≤◌, ◌<◌}
use borrow.Author.Tests.{eqb-true, leb-true, le-leb}
use lib.ListN.{length}
use Rattle.definitions.specs.declared.Settings.{Settings}
use Rattle.definitions.specs.Lists.{every}
use Rattle.definitions.specs.Checked.{Checked, value}
use Rattle.definitions.specs.LeafRefusals.{slot_registry_tests, participation_tests}
use Rattle.definitions.specs.Refusals.{in_order, settings_shaped, registry_shaped, is_small, good_settings, good_registry, registry_tests}
use Rattle.definitions.specs.RegisterOrder.{registry_to_tests}
use Rattle.laws.specs.Bounds.{Passed}
use Rattle.laws.proofs.Tests.{InOrder, in_order-value}
use Rattle.refusals.proofs.Laws.{PositiveDivisors, good-settings, RegistryShape, registry-shaped, small}

-- settings, slot and registry
pub record SlotRegistry (s : Settings) (state_slot : ℕ) (registry : List ℕ) : Type 0 where
  pub settings : Passed s state_slot
  pub positive : PositiveDivisors s
  pub shape : RegistryShape registry

-- settings and registry are the first two of 1, slot and registry all of 3
pub slot-registry : (s : Settings) (state_slot : ℕ) (registry : List ℕ) {others : List Bool} → InOrder (settings_shaped s ∷ registry_shaped registry ∷ others) (good_settings s ∷ []) (is_small state_slot ∷ good_registry registry ∷ []) → SlotRegistry s state_slot registry
slot-registry s state_slot registry p =
    record {
      settings = record { shaped = p.shaped 0; good = p.settings 0; small = p.recorded 0 };
      positive = (good-settings s (p.settings 0)).positive;
      shape = registry-shaped registry (p.shaped 1);
    }

pub slot_registry_passed : (s : Settings) (state_slot : ℕ) (registry : List ℕ) {x : Checked (Unit {0})} → x ≡ slot_registry_tests s state_slot registry → x ≡ value tt → SlotRegistry s state_slot registry
unfolding slot_registry_tests
slot_registry_passed s state_slot registry e z = slot-registry s state_slot registry (in_order-value _ _ _ (sym e ∙ z))

pub record ParticipationPassed (s : Settings) (state_slot flag_index epoch : ℕ) (registry : List ℕ) : Type 0 where
  pub others : SlotRegistry s state_slot registry
  pub flag : flag_index ≤ 2

pub participation_passed : (s : Settings) (state_slot flag_index epoch : ℕ) (registry : List ℕ) {x : Checked (Unit {0})} → x ≡ participation_tests s state_slot flag_index epoch registry → x ≡ value tt → ParticipationPassed s state_slot flag_index epoch registry
unfolding participation_tests
participation_passed s state_slot flag_index epoch registry e z =
    let p = in_order-value _ _ _ (sym e ∙ z) in
    record { others = slot-registry s state_slot registry p; flag = leb-true flag_index 2 (p.shaped 2) }

-- with a finalized epoch
module _ (s : Settings) (state_slot finalized_epoch : ℕ) (registry : List ℕ) where
  pub record FinalizedPassed : Type 0 where
    pub settings : Passed s state_slot
    pub finalized : finalized_epoch < 2 ^ 48
    pub shape : RegistryShape registry

  -- settings and registry are the first two of 1
  pub finalized-passed : {others : List Bool} → InOrder (settings_shaped s ∷ registry_shaped registry ∷ others) (good_settings s ∷ []) (is_small state_slot ∷ is_small finalized_epoch ∷ good_registry registry ∷ []) → FinalizedPassed
  finalized-passed p =
      record {
        settings = record { shaped = p.shaped 0; good = p.settings 0; small = p.recorded 0 };
        finalized = small finalized_epoch (p.recorded 1);
        shape = registry-shaped registry (p.shaped 1);
      }

module _ (s : Settings) (state_slot finalized_epoch : ℕ) (opening closing : List ℕ) where
  pub record RegistryPassed : Type 0 where
    pub opened : FinalizedPassed s state_slot finalized_epoch opening
    pub same : length closing ≡ length opening

  pub registry-passed : {x : Checked (Unit {0})} → x ≡ registry_tests s state_slot finalized_epoch opening closing → x ≡ value tt → RegistryPassed
  unfolding registry_tests
  registry-passed e z =
      let p = in_order-value _ _ _ (sym e ∙ z) in
      record { opened = finalized-passed s state_slot finalized_epoch opening p; same = eqb-true (length closing) (length opening) (p.shaped 2) }

-- With a stop
module _ (stop : ℕ) (s : Settings) (state_slot finalized_epoch : ℕ) (opening closing : List ℕ) where
  -- a stop within the registry tests no more than the step
  pub within : stop ≤ length opening / 10 → registry_to_tests stop s state_slot finalized_epoch opening closing ≡ registry_tests s state_slot finalized_epoch opening closing
  unfolding registry_to_tests registry_tests in_order every
  within l = rw (le-leb stop (length opening / 10) l)

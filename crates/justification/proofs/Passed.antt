-- What the step's tests give once passed.
use mathlib.Core.Path.{◌≡◌}
use mathlib.Core.List.{List, [], ◌∷◌}
use Prim.Native.Nat.{ℕ, ◌<◌}
use Rattle.definitions.specs.declared.Finality.{Finality}
use Rattle.definitions.specs.declared.Settings.{Settings}
use Rattle.definitions.specs.Lists.{every}
use Rattle.definitions.specs.Checked.{value}
use Rattle.definitions.specs.Refusals.{in_order, settings_shaped, roots_shaped, registry_shaped, good_settings, good_finality, good_registry, justification_tests}
use Rattle.definitions.specs.LeafRefusals.{weigh_tests}
use Rattle.laws.proofs.Tests.{in_order-value}
use Rattle.refusals.proofs.Laws.{good-settings, RegistryShape, registry-shaped}

pub record JustificationPassed (s : Settings) (roots : List ℕ) (f : Finality) (registry : List ℕ) : Type 0 where
  pub weighs : weigh_tests s roots f ≡ value tt
  pub shape : RegistryShape registry
  pub epoch : 0 < s.slots_per_epoch

pub justification-passed : (s : Settings) (roots : List ℕ) (f : Finality) (registry : List ℕ) → justification_tests s roots f registry ≡ value tt → JustificationPassed s roots f registry
unfolding justification_tests weigh_tests in_order every
justification-passed s roots f registry z =
    let p = in_order-value (settings_shaped s ∷ roots_shaped s roots ∷ registry_shaped registry ∷ []) (good_settings s ∷ []) (good_finality f ∷ good_registry registry ∷ []) z in
    record {
      weighs = rw (p.shaped 0, p.shaped 1, p.settings 0, p.recorded 0);
      shape = registry-shaped registry (p.shaped 2);
      epoch = (good-settings s (p.settings 0)).positive.slots_per_epoch;
    }

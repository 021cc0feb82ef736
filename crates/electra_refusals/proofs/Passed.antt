-- What the tests of the Electra calls give once passed. `x` is what their code answered.
use mathlib.Core.Bool.{true}
use mathlib.Core.List.{List}
use mathlib.Core.Path.{◌≡◌, sym, ◌∙◌}
use Prim.Native.Nat.{ℕ, ◌+◌, ◌*◌, ◌/◌, ◌%◌, ◌^◌, ◌≤◌, ◌<◌}
use native.Mathlib.Omega.{arith}
use borrow.Author.Tests.{ltb-true, leb-true, eqb-true, eqb-false, not-true}
use lib.Dec.{leb, eqb}
use lib.ListN.{length}
use Rattle.definitions.specs.Checked.{Checked, value}
use Rattle.definitions.specs.Refusals.{good_settings}
use Rattle.definitions.specs.Rules.{good_bellatrix}
use Rattle.definitions_electra.specs.declared.ElectraRules.{ElectraRules}
use Rattle.definitions_electra.specs.Refusals.{count_of, deposits_of, deposits_shaped, consolidations_shaped, keys_shaped, indices_shaped, good_electra}
use Rattle.definitions_electra.specs.Refusals.{registry_tests, slashings_tests, deposits_tests, consolidations_tests, effective_balance_tests, slot_registry_tests, exit_tests}
use Rattle.laws.specs.Bounds.{Passed}
use Rattle.laws.proofs.Tests.{both, test, in_order-value}
use Rattle.refusals.proofs.Laws.{PositiveDivisors, good-settings, RegistryShape, registry-shaped}

-- Test 1

pub record DepositsShape (deposits : List ℕ) : Type 0 where
  pub long : length deposits ≡ 5 * deposits_of deposits
  pub few : deposits_of deposits ≤ 2 ^ 24

pub deposits-shaped : (deposits : List ℕ) → deposits_shaped deposits ≡ true → DepositsShape deposits
unfolding deposits_shaped
deposits-shaped xs e =
    let p = both (eqb (length xs % 5) 0) (leb (length xs / 5) (2 ^ 24)) e in
    let fives = eqb-true (length xs % 5) 0 p.0 in
    record { long = omega arith; few = leb-true (length xs / 5) (2 ^ 24) p.1 }

pub record ConsolidationsShape (consolidations : List ℕ) : Type 0 where
  pub long : length consolidations ≡ 2 * (length consolidations / 2)
  pub few : length consolidations / 2 ≤ 2 ^ 24

pub consolidations-shaped : (consolidations : List ℕ) → consolidations_shaped consolidations ≡ true → ConsolidationsShape consolidations
unfolding consolidations_shaped
consolidations-shaped xs e =
    let p = both (eqb (length xs % 2) 0) (leb (length xs / 2) (2 ^ 24)) e in
    let twos = eqb-true (length xs % 2) 0 p.0 in
    record { long = omega arith; few = leb-true (length xs / 2) (2 ^ 24) p.1 }

-- Test 2

pub record GoodElectra (r : ElectraRules) : Type 0 where
  pub settings : good_settings r.settings ≡ true
  pub positive : PositiveDivisors r.settings
  pub pair : good_bellatrix r.bellatrix ≡ true
  pub least : r.settings.effective_balance_increment ≤ r.electra.min_per_epoch_churn_limit_electra
  pub most : 0 < r.electra.max_per_epoch_activation_exit_churn_limit

pub good-electra : (r : ElectraRules) → good_electra r ≡ true → GoodElectra r
unfolding good_electra
good-electra r e =
    let t = test _ e in
    let z = eqb-false r.electra.max_per_epoch_activation_exit_churn_limit 0 (not-true _ (t 4)) in
    record {
      settings = t 0;
      positive = (good-settings r.settings (t 0)).positive;
      pair = t 1;
      least = leb-true _ _ (t 3);
      most = omega arith;
    }

-- The five steps

pub record RegistryPassed (r : ElectraRules) (state_slot finalized_epoch : ℕ) (opening closing : List ℕ) : Type 0 where
  pub settings : Passed r.settings state_slot
  pub good : good_electra r ≡ true
  pub shape : RegistryShape opening
  pub same : length closing ≡ length opening

pub registry-passed : (r : ElectraRules) (state_slot finalized_epoch : ℕ) (opening closing : List ℕ) {x : Checked (Unit {0})} → x ≡ registry_tests r state_slot finalized_epoch opening closing → x ≡ value tt → RegistryPassed r state_slot finalized_epoch opening closing
unfolding registry_tests
registry-passed r state_slot finalized_epoch opening closing e z =
    let p = in_order-value _ _ _ (sym e ∙ z) in
    let good = p.settings 0 in
    record {
      settings = record { shaped = p.shaped 0; good = (good-electra r good).settings; small = p.recorded 0 };
      good = good;
      shape = registry-shaped opening (p.shaped 1);
      same = eqb-true (length closing) (length opening) (p.shaped 2);
    }

pub record SlashingsPassed (r : ElectraRules) (state_slot : ℕ) (slashings opening closing : List ℕ) : Type 0 where
  pub good : good_electra r ≡ true
  pub shape : RegistryShape opening
  pub same : length closing ≡ length opening

pub slashings-passed : (r : ElectraRules) (state_slot : ℕ) (slashings opening closing : List ℕ) {x : Checked (Unit {0})} → x ≡ slashings_tests r state_slot slashings opening closing → x ≡ value tt → SlashingsPassed r state_slot slashings opening closing
unfolding slashings_tests
slashings-passed r state_slot slashings opening closing e z =
    let p = in_order-value _ _ _ (sym e ∙ z) in
    record {
      good = p.settings 0;
      shape = registry-shaped opening (p.shaped 2);
      same = eqb-true (length closing) (length opening) (p.shaped 3);
    }

pub record DepositsPassed (r : ElectraRules) (state_slot finalized_epoch : ℕ) (registry compounding deposits closing_registry closing_compounding closing_deposits work : List ℕ) : Type 0 where
  pub good : good_electra r ≡ true
  pub shape : RegistryShape registry
  pub credentials : length compounding ≡ count_of registry
  pub queue : DepositsShape deposits
  pub keys : keys_shaped registry deposits ≡ true
  pub roomy_registry : length closing_registry ≡ 10 * (count_of registry + deposits_of deposits)
  pub roomy_compounding : length closing_compounding ≡ count_of registry + deposits_of deposits
  pub same : length closing_deposits ≡ length deposits
  pub places : length work ≡ deposits_of deposits

pub deposits-passed : (r : ElectraRules) (state_slot finalized_epoch : ℕ) (registry compounding deposits closing_registry closing_compounding closing_deposits work : List ℕ) {x : Checked (Unit {0})} → x ≡ deposits_tests r state_slot finalized_epoch registry compounding deposits closing_registry closing_compounding closing_deposits work → x ≡ value tt → DepositsPassed r state_slot finalized_epoch registry compounding deposits closing_registry closing_compounding closing_deposits work
unfolding deposits_tests
deposits-passed r state_slot finalized_epoch registry compounding deposits closing_registry closing_compounding closing_deposits work e z =
    let p = in_order-value _ _ _ (sym e ∙ z) in
    record {
      good = p.settings 0;
      shape = registry-shaped registry (p.shaped 1);
      credentials = eqb-true (length compounding) (count_of registry) (p.shaped 2);
      queue = deposits-shaped deposits (p.shaped 3);
      keys = p.shaped 4;
      roomy_registry = eqb-true (length closing_registry) (10 * (count_of registry + deposits_of deposits)) (p.shaped 5);
      roomy_compounding = eqb-true (length closing_compounding) (count_of registry + deposits_of deposits) (p.shaped 6);
      same = eqb-true (length closing_deposits) (length deposits) (p.shaped 7);
      places = eqb-true (length work) (deposits_of deposits) (p.shaped 8);
    }

pub record ConsolidationsPassed (r : ElectraRules) (state_slot : ℕ) (registry consolidations closing_registry closing_consolidations : List ℕ) : Type 0 where
  pub settings : Passed r.settings state_slot
  pub shape : RegistryShape registry
  pub queue : ConsolidationsShape consolidations
  pub indices : indices_shaped registry consolidations ≡ true
  pub same : length closing_registry ≡ length registry
  pub same_queue : length closing_consolidations ≡ length consolidations

pub consolidations-passed : (r : ElectraRules) (state_slot : ℕ) (registry consolidations closing_registry closing_consolidations : List ℕ) {x : Checked (Unit {0})} → x ≡ consolidations_tests r state_slot registry consolidations closing_registry closing_consolidations → x ≡ value tt → ConsolidationsPassed r state_slot registry consolidations closing_registry closing_consolidations
unfolding consolidations_tests
consolidations-passed r state_slot registry consolidations closing_registry closing_consolidations e z =
    let p = in_order-value _ _ _ (sym e ∙ z) in
    record {
      settings = record { shaped = p.shaped 0; good = (good-electra r (p.settings 0)).settings; small = p.recorded 0 };
      shape = registry-shaped registry (p.shaped 1);
      queue = consolidations-shaped consolidations (p.shaped 2);
      indices = p.shaped 3;
      same = eqb-true (length closing_registry) (length registry) (p.shaped 4);
      same_queue = eqb-true (length closing_consolidations) (length consolidations) (p.shaped 5);
    }

pub record BalancesPassed (r : ElectraRules) (compounding opening closing : List ℕ) : Type 0 where
  pub good : good_electra r ≡ true
  pub shape : RegistryShape opening
  pub credentials : length compounding ≡ count_of opening
  pub same : length closing ≡ length opening

pub balances-passed : (r : ElectraRules) (compounding opening closing : List ℕ) {x : Checked (Unit {0})} → x ≡ effective_balance_tests r compounding opening closing → x ≡ value tt → BalancesPassed r compounding opening closing
unfolding effective_balance_tests
balances-passed r compounding opening closing e z =
    let p = in_order-value _ _ _ (sym e ∙ z) in
    record {
      good = p.settings 0;
      shape = registry-shaped opening (p.shaped 1);
      credentials = eqb-true (length compounding) (count_of opening) (p.shaped 2);
      same = eqb-true (length closing) (length opening) (p.shaped 3);
    }

-- The leaves

pub record SlotRegistryPassed (r : ElectraRules) (state_slot : ℕ) (registry : List ℕ) : Type 0 where
  pub settings : Passed r.settings state_slot
  pub good : good_electra r ≡ true
  pub shape : RegistryShape registry

pub slot_registry_passed : (r : ElectraRules) (state_slot : ℕ) (registry : List ℕ) {x : Checked (Unit {0})} → x ≡ slot_registry_tests r state_slot registry → x ≡ value tt → SlotRegistryPassed r state_slot registry
unfolding slot_registry_tests
slot_registry_passed r state_slot registry e z =
    let p = in_order-value _ _ _ (sym e ∙ z) in
    let good = p.settings 0 in
    record {
      settings = record { shaped = p.shaped 0; good = (good-electra r good).settings; small = p.recorded 0 };
      good = good;
      shape = registry-shaped registry (p.shaped 1);
    }

pub record ExitPassed (r : ElectraRules) (state_slot index : ℕ) (registry : List ℕ) : Type 0 where
  pub settings : Passed r.settings state_slot
  pub good : good_electra r ≡ true
  pub shape : RegistryShape registry
  pub inside : index < count_of registry

pub exit-passed : (r : ElectraRules) (state_slot index : ℕ) (registry : List ℕ) {x : Checked (Unit {0})} → x ≡ exit_tests r state_slot index registry → x ≡ value tt → ExitPassed r state_slot index registry
unfolding exit_tests
exit-passed r state_slot index registry e z =
    let p = in_order-value _ _ _ (sym e ∙ z) in
    let good = p.settings 0 in
    record {
      settings = record { shaped = p.shaped 0; good = (good-electra r good).settings; small = p.recorded 0 };
      good = good;
      shape = registry-shaped registry (p.shaped 1);
      inside = ltb-true index (count_of registry) (p.shaped 2);
    }

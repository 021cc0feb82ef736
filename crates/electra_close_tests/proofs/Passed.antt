-- What the tests of the close give once passed. `x` is what their code answered.
use mathlib.Core.Bool.{true}
use mathlib.Core.Path.{◌≡◌, sym, ◌∙◌}
use Prim.Native.Nat.{◌+◌, ◌*◌}
use borrow.Author.Tests.{eqb-true}
use lib.ListN.{length}
use Rattle.definitions.specs.Lists.{every}
use Rattle.definitions.specs.Checked.{Checked, value}
use Rattle.definitions.specs.Refusals.{in_order, settings_shaped, registry_shaped, roots_shaped, good_settings, good_finality, good_registry, justification_tests}
use Rattle.definitions.specs.Rules.{in_place, settings_under, good_rules}
use Rattle.laws.proofs.Tests.{in_order-value}
use Rattle.laws.proofs.Rules.{good-under}
use Rattle.refusals.proofs.Laws.{RegistryShape, registry-shaped}
use Rattle.definitions_electra.specs.declared.ElectraRules.{ElectraRules}
use Rattle.definitions_electra.specs.Refusals.{count_of, deposits_of, keys_shaped, indices_shaped, good_electra, good_compounding, good_deposits}
use Rattle.electra_refusals.proofs.Passed.{good-electra, DepositsShape, deposits-shaped, ConsolidationsShape, consolidations-shaped}
use Rattle.definitions_electra_close.specs.Close.{ElectraCall, electra_tests}

-- the pair in place is what fork 1 goes by
pub in_place-good : (r : ElectraRules) → good_electra r ≡ true → good_settings (in_place r.bellatrix r.settings) ≡ true
unfolding settings_under good_rules
in_place-good r e =
    let g = good-electra r e in
    good-under (record { settings = r.settings; fork = 1; bellatrix = r.bellatrix }) (rw (g.settings, g.pair))

pub record ElectraPassed (c : ElectraCall) : Type 0 where
  pub good : good_electra c.rules ≡ true
  pub shaped : settings_shaped c.rules.settings ≡ true
  pub roots : roots_shaped c.rules.settings c.roots ≡ true
  pub registered : registry_shaped c.registry ≡ true
  pub shape : RegistryShape c.registry
  pub slashings : length c.slashings ≡ c.rules.settings.epochs_per_slashings_vector
  pub credentials : length c.compounding ≡ count_of c.registry
  pub deposits : DepositsShape c.deposits
  pub keys : keys_shaped c.registry c.deposits ≡ true
  pub consolidations : ConsolidationsShape c.consolidations
  pub indices : indices_shaped c.registry c.consolidations ≡ true
  pub roomy_registry : length c.closing_registry ≡ 10 * (count_of c.registry + deposits_of c.deposits)
  pub roomy_compounding : length c.closing_compounding ≡ count_of c.registry + deposits_of c.deposits
  pub same_slashings : length c.closing_slashings ≡ length c.slashings
  pub same_deposits : length c.closing_deposits ≡ length c.deposits
  pub same_consolidations : length c.closing_consolidations ≡ length c.consolidations
  pub roomy_amounts : length c.amounts ≡ 12 * (count_of c.registry + deposits_of c.deposits)
  pub places : length c.places ≡ deposits_of c.deposits
  pub finality : good_finality c.finality ≡ true
  pub good_registry : good_registry c.registry ≡ true
  pub good_compounding : good_compounding c.compounding ≡ true
  pub good_deposits : good_deposits c.deposits ≡ true

pub electra-passed : (c : ElectraCall) {x : Checked (Unit {0})} → x ≡ electra_tests c → x ≡ value tt → ElectraPassed c
unfolding electra_tests
electra-passed c e z =
    let p = in_order-value _ _ _ (sym e ∙ z) in
    record {
      good = p.settings 0;
      shaped = p.shaped 0;
      roots = p.shaped 2;
      registered = p.shaped 1;
      shape = registry-shaped c.registry (p.shaped 1);
      slashings = eqb-true (length c.slashings) c.rules.settings.epochs_per_slashings_vector (p.shaped 3);
      credentials = eqb-true (length c.compounding) (count_of c.registry) (p.shaped 4);
      deposits = deposits-shaped c.deposits (p.shaped 5);
      keys = p.shaped 6;
      consolidations = consolidations-shaped c.consolidations (p.shaped 7);
      indices = p.shaped 8;
      roomy_registry = eqb-true (length c.closing_registry) (10 * (count_of c.registry + deposits_of c.deposits)) (p.shaped 9);
      roomy_compounding = eqb-true (length c.closing_compounding) (count_of c.registry + deposits_of c.deposits) (p.shaped 10);
      same_slashings = eqb-true (length c.closing_slashings) (length c.slashings) (p.shaped 11);
      same_deposits = eqb-true (length c.closing_deposits) (length c.deposits) (p.shaped 12);
      same_consolidations = eqb-true (length c.closing_consolidations) (length c.consolidations) (p.shaped 13);
      roomy_amounts = eqb-true (length c.amounts) (12 * (count_of c.registry + deposits_of c.deposits)) (p.shaped 14);
      places = eqb-true (length c.places) (deposits_of c.deposits) (p.shaped 15);
      finality = p.recorded 0;
      good_registry = p.recorded 1;
      good_compounding = p.recorded 2;
      good_deposits = p.recorded 3;
    }

-- and so do justification's, by the settings with the pair in place
pub justification-passes : (c : ElectraCall) → ElectraPassed c → justification_tests (in_place c.rules.bellatrix c.rules.settings) c.roots c.finality c.registry ≡ value tt
unfolding justification_tests in_order every settings_shaped
justification-passes c p = rw (p.shaped, p.roots, p.registered, in_place-good c.rules p.good, p.finality, p.good_registry)

-- What the tests of the close with amounts tell once passed.
use mathlib.Core.Path.{◌≡◌, refl}
use mathlib.Core.Bool.{Bool, true, false, cond}
use Prim.Native.Nat.{◌*◌, ◌/◌}
use borrow.Author.Tests.{eqb-true}
use lib.ListN.{length}
use Rattle.definitions.specs.declared.ActivationLimit.{ActivationLimit}
use Rattle.definitions.specs.declared.ActivationLimit.TheVariants.{Churn}
use Rattle.definitions.specs.Lists.{all}
use Rattle.definitions.specs.Record.{decode}
use Rattle.definitions.specs.Checked.{Checked, value, refused}
use Rattle.definitions.specs.declared.Refusal.TheVariants.{BadShape}
use Rattle.definitions.specs.Refusals.{roots_shaped, slashings_shaped, registry_shaped, good_finality, good_validator, good_registry}
use Rattle.definitions.specs.Rules.{rules_shaped, good_rules}
use Rattle.definitions.specs.Close.{limited_tests}
use Rattle.definitions_close.specs.Amounts.{amounts_shaped}
use Rattle.definitions_close.specs.FullClose.{FullCall, full_tests, limited_full_tests}
use Rattle.laws.proofs.Checked.{not_value, bound}
use Rattle.refusals.proofs.Laws.{RegistryShape, registry-shaped}
use Rattle.laws.proofs.Tests.{in_order-value}

pub record Passed (c : FullCall) : Type 0 where
  pub rules : rules_shaped c.call.rules ≡ true
  pub registry : RegistryShape c.call.registry
  pub registry_shape : registry_shaped c.call.registry ≡ true
  pub roots : roots_shaped c.call.rules.settings c.call.roots ≡ true
  pub slashings : slashings_shaped c.call.rules.settings c.call.slashings ≡ true
  pub good_rules : good_rules c.call.rules ≡ true
  pub finality : good_finality c.call.finality ≡ true
  pub validators : all good_validator (decode c.call.registry) ≡ true
  pub amounts : length c.amounts ≡ 9 * (length c.call.registry / 10)

close_passed : (by : ActivationLimit) (c : FullCall) → length c.amounts ≡ 9 * (length c.call.registry / 10) → limited_tests by c.call ≡ value tt → Passed c
unfolding limited_tests good_registry
close_passed by c l p =
    let t = in_order-value _ _ _ p in
    record {
      rules = t.shaped 0;
      registry = registry-shaped c.call.registry (t.shaped 1);
      registry_shape = t.shaped 1;
      roots = t.shaped 2;
      slashings = t.shaped 3;
      good_rules = t.settings 0;
      finality = t.recorded 0;
      validators = t.recorded 1;
      amounts = l;
    }

where_shaped : (t : Bool) {m : Checked (Unit {0})} → cond t m (refused BadShape) ≡ value tt → (t ≡ true) × (m ≡ value tt)
where_shaped true p = (refl, p)
where_shaped false p = absurd (not_value p)

pub limited-passed : (by : ActivationLimit) (c : FullCall) → limited_full_tests by c ≡ value tt → Passed c
unfolding limited_full_tests
limited-passed by c p =
    let a = where_shaped (amounts_shaped c.call.registry c.amounts) p in
    let b = bound (limited_tests by c.call) _ a.1 in
    close_passed by c (eqb-true (length c.amounts) (9 * (length c.call.registry / 10)) a.0) b.gave

-- before Deneb
pub full-passed : (c : FullCall) → full_tests c ≡ value tt → Passed c
full-passed = limited-passed Churn

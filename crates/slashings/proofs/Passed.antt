-- What the tests give once passed. `x` is what their code answered.
use mathlib.Core.Bool.{true}
use mathlib.Core.List.{List}
use mathlib.Core.Path.{◌≡◌, sym, ◌∙◌}
use Prim.Native.Nat.{ℕ}
use borrow.Author.Tests.{eqb-true}
use lib.ListN.{length}
use Rattle.definitions.specs.declared.Settings.{Settings}
use Rattle.definitions.specs.declared.Rules.{Rules}
use Rattle.definitions.specs.Checked.{Checked, value}
use Rattle.definitions.specs.Refusals.{good_settings, slashings_reset_tests}
use Rattle.definitions.specs.Rules.{settings_under, slashings_tests}
use Rattle.laws.proofs.Rules.{good-under}
use Rattle.laws.specs.Bounds.{Passed}
use Rattle.laws.proofs.Tests.{in_order-value}
use Rattle.refusals.proofs.Laws.{RegistryShape, registry-shaped}

pub record SlashingsPassed (r : Rules) (opening closing : List ℕ) : Type 0 where
  pub good : good_settings (settings_under r) ≡ true
  pub shape : RegistryShape opening
  pub same : length closing ≡ length opening

pub slashings-passed : (r : Rules) (state_slot : ℕ) (slashings opening closing : List ℕ) {x : Checked (Unit {0})} → x ≡ slashings_tests r state_slot slashings opening closing → x ≡ value tt → SlashingsPassed r opening closing
unfolding slashings_tests
slashings-passed r state_slot slashings opening closing e z =
    let p = in_order-value _ _ _ (sym e ∙ z) in
    record { good = good-under r (p.settings 0); shape = registry-shaped opening (p.shaped 2); same = eqb-true (length closing) (length opening) (p.shaped 3) }

pub record ResetPassed (s : Settings) (state_slot : ℕ) (opening closing : List ℕ) : Type 0 where
  pub settings : Passed s state_slot
  pub long : length opening ≡ s.epochs_per_slashings_vector
  pub same : length closing ≡ length opening

pub reset-passed : (s : Settings) (state_slot : ℕ) (opening closing : List ℕ) {x : Checked (Unit {0})} → x ≡ slashings_reset_tests s state_slot opening closing → x ≡ value tt → ResetPassed s state_slot opening closing
unfolding slashings_reset_tests
reset-passed s state_slot opening closing e z =
    let p = in_order-value _ _ _ (sym e ∙ z) in
    record {
      settings = record { shaped = p.shaped 0; good = p.settings 0; small = p.recorded 0 };
      long = eqb-true (length opening) s.epochs_per_slashings_vector (p.shaped 1);
      same = eqb-true (length closing) (length opening) (p.shaped 2);
    }

-- What the tests give once passed. `x` is what their code answered.
use mathlib.Core.Bool.{true}
use mathlib.Core.List.{List}
use mathlib.Core.Path.{◌≡◌, sym, ◌∙◌}
use Prim.Native.Nat.{ℕ}
use borrow.Author.Tests.{eqb-true}
use lib.ListN.{length}
use Rattle.definitions.specs.declared.Settings.{Settings}
use Rattle.definitions.specs.Checked.{Checked, value}
use Rattle.definitions.specs.Refusals.{good_settings, effective_balance_tests}
use Rattle.laws.proofs.Tests.{in_order-value}
use Rattle.refusals.proofs.Laws.{RegistryShape, registry-shaped}

pub record EffectiveBalancePassed (s : Settings) (opening closing : List ℕ) : Type 0 where
  pub good : good_settings s ≡ true
  pub shape : RegistryShape opening
  pub same : length closing ≡ length opening

pub effective_balance-passed : (s : Settings) (opening closing : List ℕ) {x : Checked (Unit {0})} → x ≡ effective_balance_tests s opening closing → x ≡ value tt → EffectiveBalancePassed s opening closing
unfolding effective_balance_tests
effective_balance-passed s opening closing e z =
    let p = in_order-value _ _ _ (sym e ∙ z) in
    record { good = p.settings 0; shape = registry-shaped opening (p.shaped 1); same = eqb-true (length closing) (length opening) (p.shaped 2) }

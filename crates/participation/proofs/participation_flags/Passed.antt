-- What the tests give once passed. `x` is what their code answered.
use mathlib.Core.List.{List}
use mathlib.Core.Path.{◌≡◌, sym, ◌∙◌}
use Prim.Native.Nat.{ℕ}
use borrow.Author.Tests.{eqb-true}
use lib.ListN.{length}
use Rattle.definitions.specs.Checked.{Checked, value}
use Rattle.definitions.specs.Refusals.{rotation_tests}
use Rattle.laws.proofs.Tests.{in_order-value}
use Rattle.refusals.proofs.Laws.{RegistryShape, registry-shaped}

pub record RotationPassed (opening closing : List ℕ) : Type 0 where
  pub shape : RegistryShape opening
  pub same : length closing ≡ length opening

pub rotation_passed : (opening closing : List ℕ) {x : Checked (Unit {0})} → x ≡ rotation_tests opening closing → x ≡ value tt → RotationPassed opening closing
unfolding rotation_tests
rotation_passed opening closing e z =
    let p = in_order-value _ _ _ (sym e ∙ z) in
    record { shape = registry-shaped opening (p.shaped 0); same = eqb-true (length closing) (length opening) (p.shaped 1) }

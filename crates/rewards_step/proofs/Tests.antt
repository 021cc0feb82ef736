-- What the step's tests give once passed. `x` is what their code answered.
use mathlib.Core.Path.{◌≡◌, sym, ◌∙◌}
use mathlib.Core.Bool.{true}
use mathlib.Core.List.{List}
use Prim.Native.Nat.{ℕ}
use borrow.Author.Tests.{eqb-true}
use lib.ListN.{length}
use Rattle.definitions.specs.declared.Rules.{Rules}
use Rattle.definitions.specs.Checked.{Checked, value}
use Rattle.definitions.specs.Refusals.{good_settings}
use Rattle.definitions.specs.Rules.{settings_under, rewards_tests}
use Rattle.laws.proofs.Rules.{good-under}
use Rattle.laws.proofs.Tests.{in_order-value}
use Rattle.refusals.proofs.Laws.{RegistryShape, registry-shaped}

pub record RewardsPassed (r : Rules) (opening closing : List ℕ) : Type 0 where
  pub good : good_settings (settings_under r) ≡ true
  pub shape : RegistryShape opening
  pub same : length closing ≡ length opening

pub rewards-passed : (r : Rules) (state_slot finalized_epoch : ℕ) (opening closing : List ℕ) {x : Checked (Unit {0})} → x ≡ rewards_tests r state_slot finalized_epoch opening closing → x ≡ value tt → RewardsPassed r opening closing
unfolding rewards_tests
rewards-passed r state_slot finalized_epoch opening closing e z =
    let p = in_order-value _ _ _ (sym e ∙ z) in
    record { good = good-under r (p.settings 0); shape = registry-shaped opening (p.shaped 1); same = eqb-true (length closing) (length opening) (p.shaped 2) }

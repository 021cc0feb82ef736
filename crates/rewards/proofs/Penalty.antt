-- What the tests of get_inactivity_penalty_deltas give once passed. `x` is what their code answered.
use mathlib.Core.Path.{◌≡◌, sym, ◌∙◌}
use mathlib.Core.List.{List}
use Prim.Native.Nat.{ℕ}
use borrow.Author.Tests.{eqb-true}
use lib.ListN.{length}
use Rattle.definitions.specs.declared.Rules.{Rules}
use Rattle.definitions.specs.Checked.{Checked, value}
use Rattle.definitions.specs.Rules.{settings_under, inactivity_penalty_tests}
use Rattle.laws.proofs.Tests.{in_order-value}
use Rattle.laws.proofs.Rules.{good-under}
use Rattle.refusals.proofs.Laws.{GoodSettings, good-settings}

pub record PenaltyPassed (r : Rules) (entry : List ℕ) : Type 0 where
  pub settings : GoodSettings (settings_under r)
  pub long : length entry ≡ 10

pub penalty-passed : (r : Rules) (state_slot : ℕ) (entry : List ℕ) {x : Checked (Unit {0})} → x ≡ inactivity_penalty_tests r state_slot entry → x ≡ value tt → PenaltyPassed r entry
unfolding inactivity_penalty_tests
penalty-passed r state_slot entry e z =
    let p = in_order-value _ _ _ (sym e ∙ z) in
    record { settings = good-settings (settings_under r) (good-under r (p.settings 0)); long = eqb-true (length entry) 10 (p.shaped 1) }

-- Tests of a total to divide by, of settings and of one validator's ten numbers: what they give once passed.
use mathlib.Core.Bool.{true, not}
use mathlib.Core.List.{List}
use mathlib.Core.Path.{◌≡◌, sym, ◌∙◌}
use Prim.Native.Nat.{ℕ, ◌<◌}
use native.Mathlib.Omega.{arith}
use borrow.Author.Tests.{eqb-false, not-true}
use lib.Dec.{eqb}
use Rattle.definitions.specs.declared.Settings.{Settings}
use Rattle.definitions.specs.Checked.{Checked, value}
use Rattle.definitions.specs.LeafRefusals.{total_tests, total_entry_tests}
use Rattle.laws.proofs.Tests.{in_order-value}
use Rattle.refusals.proofs.Laws.{settings-shaped, GoodSettings, good-settings}
use Rattle.leaf_refusals.proofs.Passed.{good-entry, SettingsEntry}

module _ (s : Settings) (total : ℕ) where
  positive : not (eqb total 0) ≡ true → 0 < total
  positive h = let z = eqb-false total 0 (not-true _ h) in omega arith

  pub record TotalPassed : Type 0 where
    pub total-positive : 0 < total
    pub settings : GoodSettings s

  pub total-passed : {x : Checked (Unit {0})} → x ≡ total_tests s total → x ≡ value tt → TotalPassed
  unfolding total_tests
  total-passed e z =
      let p = in_order-value _ _ _ (sym e ∙ z) in
      record { total-positive = positive (p.shaped 1); settings = good-settings s (p.settings 0) }

  -- with an entry
  module _ (entry : List ℕ) {x : Checked (Unit {0})} (e : x ≡ total_entry_tests s total entry) (z : x ≡ value tt) where
    pub entry_total_not_zero : 0 < total
    unfolding total_entry_tests
    entry_total_not_zero = positive ((in_order-value _ _ _ (sym e ∙ z)).shaped 1)

    pub total_entry_passed : SettingsEntry s entry
    unfolding total_entry_tests
    total_entry_passed =
        let p = in_order-value _ _ _ (sym e ∙ z) in
        record { shape = settings-shaped s (p.shaped 0); settings = good-settings s (p.settings 0); own = good-entry entry (p.shaped 2) (p.recorded 0) }

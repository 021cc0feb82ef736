-- The tests of get_flag_index_deltas: what they give once passed.
use mathlib.Core.List.{List}
use mathlib.Core.Path.{◌≡◌, sym, ◌∙◌}
use Prim.Native.Nat.{ℕ, ◌/◌, ◌≤◌, ◌<◌}
use borrow.Author.Tests.{leb-true, ltb-true}
use lib.ListN.{length}
use Rattle.definitions.specs.declared.Settings.{Settings}
use Rattle.definitions.specs.Checked.{Checked, value}
use Rattle.definitions.specs.LeafRefusals.{flag_deltas_tests}
use Rattle.laws.proofs.Tests.{in_order-value}
use Rattle.leaf_refusals.proofs.registry_refusals.Passed.{FinalizedPassed, finalized-passed}

module _ (s : Settings) (state_slot finalized_epoch flag_index index : ℕ) (registry : List ℕ) where
  pub record FlagPassed : Type 0 where
    pub opened : FinalizedPassed s state_slot finalized_epoch registry
    pub flag : flag_index ≤ 2
    pub inside : index < length registry / 10

  pub flag-passed : {x : Checked (Unit {0})} → x ≡ flag_deltas_tests s state_slot finalized_epoch flag_index index registry → x ≡ value tt → FlagPassed
  unfolding flag_deltas_tests
  flag-passed e z =
      let p = in_order-value _ _ _ (sym e ∙ z) in
      record {
        opened = finalized-passed s state_slot finalized_epoch registry p;
        flag = leb-true flag_index 2 (p.shaped 2);
        inside = ltb-true index (length registry / 10) (p.shaped 3);
      }

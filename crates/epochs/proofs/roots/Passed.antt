-- What the lookup's tests give once passed.
use mathlib.Core.Path.{◌≡◌, sym, ◌∙◌}
use mathlib.Core.List.{List}
use Prim.Native.Nat.{ℕ, ◌*◌}
use borrow.Author.Tests.{eqb-true}
use lib.ListN.{length}
use Rattle.definitions.specs.declared.Settings.{Settings}
use Rattle.definitions.specs.Checked.{Checked, value}
use Rattle.definitions.specs.LeafRefusals.{root_tests}
use Rattle.laws.proofs.Tests.{in_order-value}
use Rattle.refusals.proofs.Laws.{settings-shaped, good-settings, small}
use Rattle.epochs.proofs.Passed.{SlotPassed}

pub record RootPassed (s : Settings) (roots : List ℕ) (state_slot : ℕ) : Type 0 where
  pub long : length roots ≡ 32 * s.slots_per_historical_root
  pub slot : SlotPassed s state_slot

pub root-passed : (s : Settings) (roots : List ℕ) (state_slot : ℕ) {x : Checked (Unit {0})} → x ≡ root_tests s roots state_slot → x ≡ value tt → RootPassed s roots state_slot
unfolding root_tests
root-passed s roots state_slot e z =
    let p = in_order-value _ _ _ (sym e ∙ z) in
    record {
      long = eqb-true _ _ (p.shaped 1);
      slot = record { settings = record { shape = settings-shaped s (p.shaped 0); good = good-settings s (p.settings 0) }; slot = small state_slot (p.recorded 0) };
    }

-- What the weighing's tests give once passed.
use mathlib.Core.Path.{◌≡◌}
use mathlib.Core.List.{List}
use Prim.Native.Nat.{ℕ, ◌*◌}
use borrow.Author.Tests.{eqb-true}
use lib.ListN.{length}
use Rattle.definitions.specs.declared.Finality.{Finality}
use Rattle.definitions.specs.declared.Settings.{Settings}
use Rattle.definitions.specs.Checked.{value}
use Rattle.definitions.specs.LeafRefusals.{weigh_tests}
use Rattle.laws.proofs.Tests.{in_order-value}
use Rattle.refusals.proofs.Laws.{settings-shaped, good-settings, GoodFinality, good-finality}
use Rattle.epochs.proofs.Passed.{SettingsPassed}

pub record WeighPassed (s : Settings) (roots : List ℕ) (f : Finality) : Type 0 where
  pub settings : SettingsPassed s
  pub long : length roots ≡ 32 * s.slots_per_historical_root
  pub finality : GoodFinality f

pub weigh-passed : (s : Settings) (roots : List ℕ) (f : Finality) → weigh_tests s roots f ≡ value tt → WeighPassed s roots f
unfolding weigh_tests
weigh-passed s roots f z =
    let p = in_order-value _ _ _ z in
    record {
      settings = record { shape = settings-shaped s (p.shaped 0); good = good-settings s (p.settings 0) };
      long = eqb-true _ _ (p.shaped 1);
      finality = good-finality f (p.recorded 0);
    }

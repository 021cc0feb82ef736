-- What the tests give once passed.
use mathlib.Core.Path.{◌≡◌}
use mathlib.Core.List.{List}
use Prim.Native.Nat.{ℕ, ◌*◌, ◌/◌, ◌^◌, ◌<◌}
use native.Mathlib.Omega.{arith}
use borrow.Author.Tests.{eqb-true, ne_eqb}
use lib.ListN.{length}
use Rattle.definitions.specs.declared.Finality.{Finality}
use Rattle.definitions.specs.declared.Settings.{Settings}
use Rattle.definitions.specs.Checked.{value}
use Rattle.definitions.specs.Rust.Phase0.Helpers.{get_current_epoch, get_previous_epoch}
use Rattle.laws.proofs.Tests.{in_order-value}
use Rattle.refusals.proofs.Laws.{settings-shaped, good-settings, RegistryShape, registry-shaped, GoodFinality, good-finality}
use Rattle.definitions_votes.specs.Votes.{votes_tests}

pub record VotesPassed (s : Settings) (roots : List ℕ) (f : Finality) (registry marks : List ℕ) : Type 0 where
  pub epoch : 0 < s.slots_per_epoch
  pub small_roots : s.slots_per_historical_root < 2 ^ 48
  pub some_root : 0 < s.slots_per_historical_root
  pub long : length roots ≡ 32 * s.slots_per_historical_root
  pub shape : RegistryShape registry
  pub marked : length marks ≡ length registry / 10
  pub finality : GoodFinality f

pub votes-passed : (s : Settings) (roots : List ℕ) (f : Finality) (registry marks : List ℕ) → votes_tests s roots f registry marks ≡ value tt → VotesPassed s roots f registry marks
unfolding votes_tests
votes-passed s roots f registry marks z =
    let p = in_order-value _ _ _ z in
    let good = good-settings s (p.settings 0) in
    record {
      epoch = good.positive.slots_per_epoch;
      small_roots = good.small.slots_per_historical_root;
      some_root = (settings-shaped s (p.shaped 0)).roots.least;
      long = eqb-true _ _ (p.shaped 1);
      shape = registry-shaped registry (p.shaped 2);
      marked = eqb-true _ _ (p.shaped 3);
      finality = good-finality f (p.recorded 0);
    }

-- after epoch 1 the previous epoch is an earlier one
pub previous-earlier : (s : Settings) (slot : ℕ) {current previous : ℕ} → current ≡ get_current_epoch s slot → previous ≡ get_previous_epoch s slot → 1 < current → previous < current
unfolding get_previous_epoch
previous-earlier s slot e d l =
    let n = ne_eqb (get_current_epoch s slot) 0 (λ z. omega (arith, e)) in
    let f = rw n at d in
    omega (arith, e, f)

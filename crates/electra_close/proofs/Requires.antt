-- What the parts of the close require, once its tests are passed.
use mathlib.Core.Path.{◌≡◌, refl, sym, ◌∙◌}
use mathlib.Core.Bool.{true}
use mathlib.Core.List.{List}
use Prim.Native.Nat.{ℕ, ◌*◌, ◌^◌}
use borrow.Author.Tests.{lt-ltb}
use native.Mathlib.Omega.{arith}
use lib.ListN.{length}
use Rattle.definitions.specs.Checked.{Checked, value}
use Rattle.definitions.specs.Refusals.{settings_shaped}
use Rattle.refusals.proofs.Laws.{good-finality}
use Rattle.definitions_electra.specs.Refusals.{count_of, keys_shaped}
use Rattle.definitions_electra_close.specs.Close.{ElectraCall, electra_state_of}
use Rattle.electra_deposits.specs.Room.{keyed}
use Rattle.electra_consolidations.proofs.Closing.{placed_of}
use Rattle.electra_close_tests.proofs.Passed.{ElectraPassed, in_place-good, justification-passes}
use Rattle.electra_front.specs.declared.Front.{Front}
use Rattle.electra_close.specs.Finish.{FinishLent}
use Rattle.electra_close.specs.Steps.{StepsLent, StepsRan}

module _ (c : ElectraCall) (p : ElectraPassed c) where
  tens : length c.registry ≡ 10 * length c.compounding
  tens = let q = p.shape.long in omega (arith, q, p.credentials)

  count : count_of c.registry ≡ length c.compounding
  count = sym p.credentials

  keys : keyed (length c.compounding) c.deposits ≡ true
  unfolding keys_shaped keyed
  keys = let q = p.keys in rw count at q

  pub steps-lent : StepsLent c.rules c.finality c.registry c.compounding c.roots c.deposits c.consolidations c.closing_registry c.amounts c.places
  steps-lent =
      let q = placed_of c.registry c.consolidations p.indices in
      record {
        good = p.good;
        finality = p.finality;
        justification = justification-passes c p;
        tens = tens;
        fives = p.deposits.long;
        keys = keys;
        twos = p.consolidations.long;
        within = rw count at q;
        room = omega (arith, p.roomy_registry, p.credentials);
        rows = omega (arith, p.roomy_amounts, p.credentials);
        table = p.places;
      }

  pub finish-lent : {r : Checked Front} {f : Front} {registry₁ amounts₁ places₁ : List ℕ} → StepsRan c.rules (electra_state_of c) (length c.compounding) c.deposits c.consolidations c.closing_registry registry₁ c.amounts amounts₁ r → r ≡ value f → length registry₁ ≡ length c.closing_registry → length amounts₁ ≡ length c.amounts → length places₁ ≡ length c.places → FinishLent c.rules c.finality.slot f.index f.done c.compounding c.slashings c.deposits c.consolidations registry₁ c.closing_compounding c.closing_slashings c.closing_deposits c.closing_consolidations amounts₁ places₁
  unfolding settings_shaped
  finish-lent s z a b e =
      let h = s.ran.held _ z in
      record {
        good = p.good;
        passed = record { shaped = p.shaped; good = in_place-good c.rules p.good; small = lt-ltb c.finality.slot (2 ^ 48) (good-finality _ p.finality).slot };
        vector = p.slashings;
        few = h.few;
        most = h.most;
        fives = p.deposits.long;
        keys = keys;
        twos = p.consolidations.long;
        registry = omega (arith, a, p.roomy_registry, p.credentials);
        credentials = omega (arith, p.roomy_compounding, p.credentials);
        slashed = p.same_slashings;
        queue = p.same_deposits;
        rest = p.same_consolidations;
        rows = omega (arith, b, p.roomy_amounts, p.credentials);
        table = e ∙ p.places;
      }

-- One epoch's test and root: the ways that it ends.
use mathlib.Core.Path.{◌≡◌}
use mathlib.Core.Bool.{true, false}
use mathlib.Core.List.{List}
use Prim.Native.Nat.{ℕ, ◌*◌, ◌<◌}
use native.Mathlib.Omega.{arith}
use native.Mathlib.Nat.{mod-lt}
use lib.ListN.{length, length-take, length-drop}
use Rattle.std.specs.declared.option.Option.TheVariants.{Some, None}
use Rattle.definitions.specs.declared.Settings.{Settings}
use Rattle.definitions.specs.Checked.{value, refused, bind}
use Rattle.definitions.specs.declared.Refusal.{Refusal}
use Rattle.definitions.specs.Document.Phase0.Helpers as document
use Rattle.definitions.specs.Rust.Phase0.Helpers.{get_block_root}
use Rattle.definitions.specs.Rust.Phase0.EpochProcessing.{is_justified, root_where}
use Rattle.arithmetic.proofs.Operations.{OnlyOverflow, only-mul64, only-bind, only-value}
use Rattle.weighing.specs.Tests.{test_epoch}

pub only-justified : (target total : ℕ) → OnlyOverflow (is_justified target total)
unfolding is_justified
only-justified target total = only-bind (only-mul64 _ _) (λ left. only-bind (only-mul64 _ _) (λ right. only-value _))

-- a root that is there has 32 bytes
pub root-long : (s : Settings) (roots : List ℕ) (epoch : ℕ) → length roots ≡ 32 * s.slots_per_historical_root → 0 < s.slots_per_historical_root → length (document.get_block_root s roots epoch) ≡ 32
unfolding document.get_block_root document.get_block_root_at_slot
root-long s roots epoch l p = simp (length-take, length-drop) (omega (arith, mod-lt (document.compute_start_slot_at_epoch s epoch) p))

module _ (s : Settings) (roots : List ℕ) (state_slot epoch target total : ℕ) where
  pub test-over : {p : Refusal} → is_justified target total ≡ refused p → test_epoch s roots state_slot epoch target total ≡ refused p
  unfolding test_epoch bind
  test-over h = rw h

  pub test-failed : is_justified target total ≡ value false → test_epoch s roots state_slot epoch target total ≡ value None
  unfolding test_epoch root_where bind
  test-failed h = rw h

  module _ (h : is_justified target total ≡ value true) where
    pub test-refused : {p : Refusal} → get_block_root s roots state_slot epoch ≡ refused p → test_epoch s roots state_slot epoch target total ≡ refused p
    unfolding test_epoch root_where bind
    test-refused e = rw (h, e)

    pub test-passed : {root : List ℕ} → get_block_root s roots state_slot epoch ≡ value root → test_epoch s roots state_slot epoch target total ≡ value (Some root)
    unfolding test_epoch root_where bind
    test-passed e = rw (h, e)

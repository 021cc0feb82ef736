-- Charged, by whether the epoch is the genesis one.
use mathlib.Core.List.{List}
use mathlib.Core.Path.{◌≡◌}
use Prim.Native.Nat.{ℕ}
use borrow.Author.Tests.{eq-eqb, ne_eqb}
use lib.ListN.{length}
use Rattle.definitions.specs.declared.Settings.{Settings}
use Rattle.definitions.specs.Lists.{filter}
use Rattle.definitions.specs.Record.{Validator}
use Rattle.definitions.specs.Document.Phase0.Helpers.{get_current_epoch, get_previous_epoch}
use Rattle.definitions.specs.Document.Phase0.EpochProcessing.{is_eligible}
use Rattle.definitions.specs.Close.{charged}

module _ (s : Settings) (state_slot : ℕ) (vs : List Validator) {current : ℕ} (at : current ≡ get_current_epoch s state_slot) where
  pub charged-none : current ≡ 0 → 0 ≡ charged s state_slot vs
  unfolding charged
  charged-none genesis = rw (← at, eq-eqb _ _ genesis)

  pub charged-some : {previous count : ℕ} → (current ≡ 0 → ⊥) → previous ≡ get_previous_epoch s state_slot → count ≡ length (filter (is_eligible previous) vs) → count ≡ charged s state_slot vs
  unfolding charged
  charged-some later before count = rw (← at, ne_eqb _ _ later, ← before) count

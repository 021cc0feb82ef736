-- The leak at the genesis epoch, and later.
use mathlib.Core.Path.{◌≡◌}
use mathlib.Core.Bool.{false}
use Prim.Native.Nat.{ℕ}
use borrow.Author.Tests.{eq-eqb, ne_eqb}
use Rattle.definitions.specs.declared.Settings.{Settings}
use Rattle.definitions.specs.Checked.{value}
use Rattle.definitions.specs.Rust.Phase0.Helpers.{get_current_epoch}
use Rattle.definitions.specs.Rust.Phase0.EpochProcessing.{is_in_inactivity_leak}
use Rattle.write_steps.specs.Numbers.{leak_of}

module _ (s : Settings) (slot fin : ℕ) where
  pub leak-none : get_current_epoch s slot ≡ 0 → leak_of s slot fin ≡ value false
  unfolding leak_of
  leak-none z = rw (eq-eqb (get_current_epoch s slot) 0 z)

  pub leak-some : (get_current_epoch s slot ≡ 0 → ⊥) → leak_of s slot fin ≡ is_in_inactivity_leak s slot fin
  unfolding leak_of
  leak-some n = rw (ne_eqb (get_current_epoch s slot) 0 n)

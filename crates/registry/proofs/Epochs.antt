-- The step's epochs, once the tests have passed.
use mathlib.Core.Path.{◌≡◌}
use mathlib.Core.Bool.{true}
use Prim.Native.Nat.{ℕ, ◌+◌, ◌^◌, ◌<◌}
use native.Mathlib.Omega.{arith}
use Rattle.definitions.specs.declared.Settings.{Settings}
use Rattle.definitions.specs.Record.{FAR_FUTURE_EPOCH}
use Rattle.definitions.specs.Checked.{value, bind}
use Rattle.definitions.specs.Refusals.{good_settings}
use Rattle.definitions.specs.Rust.Phase0.Helpers.{get_current_epoch, compute_activation_exit_epoch}
use Rattle.refusals.proofs.Laws.{good-settings}
use Rattle.laws.proofs.Bounds.{current-epoch}
use Rattle.laws.proofs.Fits.{add64-fits}

pub record Epochs (s : Settings) (state_slot : ℕ) : Type 0 where
  pub small : get_current_epoch s state_slot < 2 ^ 48
  pub fits : get_current_epoch s state_slot + 1 + s.max_seed_lookahead < FAR_FUTURE_EPOCH
  pub least : compute_activation_exit_epoch s (get_current_epoch s state_slot) ≡ value (get_current_epoch s state_slot + 1 + s.max_seed_lookahead)

pub epochs : (s : Settings) (state_slot : ℕ) → good_settings s ≡ true → state_slot < 2 ^ 48 → Epochs s state_slot
unfolding compute_activation_exit_epoch bind
epochs s state_slot good l =
    let p = current-epoch s state_slot in
    let q : s.max_seed_lookahead < 2 ^ 48 = (good-settings s good).small.max_seed_lookahead in
    let e = get_current_epoch s state_slot in
    record { small = omega arith; fits = omega arith; least = rw (add64-fits e 1 (omega arith)) (add64-fits (e + 1) s.max_seed_lookahead (omega arith)) }

-- The step by its adjusted balance.
use mathlib.Core.Path.{◌≡◌, refl, sym}
use mathlib.Core.List.{List}
use Prim.Native.Nat.{ℕ, min}
use Rattle.definitions.specs.declared.Settings.{Settings}
use Rattle.definitions.specs.Record.{Validator}
use Rattle.definitions.specs.Checked.{Checked, value, refused, bind, mul64, sum64, map_checked}
use Rattle.definitions.specs.Rust.Phase0.Helpers.{get_current_epoch, get_total_active_balance}
use Rattle.definitions.specs.Rust.Altair.EpochProcessing.{slash, process_slashings}
use Rattle.arithmetic.proofs.Operations.{OnlyOverflow, only-value, only-sum64, only-mul64, only-bind}
use Rattle.slashings.specs.Adjusted.{adjusted_balance}

module _ (multiplier total : ℕ) (ys : List ℕ) where
  pub only-adjusted : OnlyOverflow (adjusted_balance multiplier total ys)
  unfolding adjusted_balance
  only-adjusted = only-bind (only-sum64 _) (λ slashed. only-bind (only-mul64 _ _) (λ product. only-value _))

  then : (k : ℕ → Checked (List Validator)) → bind (adjusted_balance multiplier total ys) k ≡ bind (sum64 ys) (λ slashed. bind (mul64 slashed multiplier) (λ product. k (min product total)))
  unfolding adjusted_balance bind
  then k = summed (sum64 ys)
    where
      multiplied : (m : Checked ℕ) → bind (bind m (λ product. value (min product total))) k ≡ bind m (λ product. k (min product total))
      multiplied (value product) = refl
      multiplied (refused r) = refl

      summed : (m : Checked ℕ) → bind (bind m (λ slashed. bind (mul64 slashed multiplier) (λ product. value (min product total)))) k ≡ bind m (λ slashed. bind (mul64 slashed multiplier) (λ product. k (min product total)))
      summed (value slashed) = multiplied (mul64 slashed multiplier)
      summed (refused r) = refl

pub slashings-by : (s : Settings) (multiplier slot : ℕ) (ys : List ℕ) (vs : List Validator) → process_slashings s multiplier slot ys vs ≡ bind (get_total_active_balance s slot vs) (λ total. bind (adjusted_balance multiplier total ys) (λ adjusted. map_checked (slash s (get_current_epoch s slot) total adjusted) vs))
unfolding process_slashings bind
slashings-by s multiplier slot ys vs = go (get_total_active_balance s slot vs)
  where
    by : ℕ → ℕ → Checked (List Validator)
    by total adjusted = map_checked (slash s (get_current_epoch s slot) total adjusted) vs

    go : (m : Checked ℕ) → bind m (λ total. bind (sum64 ys) (λ slashed. bind (mul64 slashed multiplier) (λ product. by total (min product total)))) ≡ bind m (λ total. bind (adjusted_balance multiplier total ys) (by total))
    go (value total) = sym (then multiplier total ys (by total))
    go (refused r) = refl

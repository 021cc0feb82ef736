-- Effective balances and flags of a registry in two parts: those of the opening, and those whom the deposits have added.
use mathlib.Core.Path.{◌≡◌, refl, ap₂}
use mathlib.Core.List.{List, [], ◌∷◌, ◌++◌}
use Prim.Native.Nat.{ℕ, zero, suc, ◌-◌, ◌<◌}
use native.Mathlib.Omega.{arith}
use lib.ListN.{length, get_or}
use Rattle.definitions.specs.Record.{Validator}
use Rattle.definitions.specs.Checked.{Checked, value, refused, bind}
use Rattle.definitions.specs.Rust.Altair.EpochProcessing.{process_participation_flag_updates}
use Rattle.laws_close.specs.Nine.{balance_at}
use Rattle.definitions_electra.specs.declared.ElectraRules.{ElectraRules}
use Rattle.definitions_electra.specs.Evaluated.Electra.EpochProcessing.{update_effective_balance, update_effective_balances}
use Rattle.definitions_electra_close.specs.Amounts.{deposit_amounts}

pub balances-split : (r : ElectraRules) (cs ds : List ℕ) (vs ws : List Validator) → length cs ≡ length vs → update_effective_balances r (cs ++ ds) (vs ++ ws) ≡ bind (update_effective_balances r cs vs) (λ us. bind (update_effective_balances r ds ws) (λ xs. value (us ++ xs)))
unfolding update_effective_balances bind
balances-split r [] ds [] ws e = whole (update_effective_balances r ds ws)
  where
    whole : (m : Checked (List Validator)) → m ≡ bind m (λ xs. value xs)
    whole (value xs) = refl
    whole (refused p) = refl
balances-split r (c ∷ cs) ds [] ws e = absurd (omega (arith, e))
balances-split r [] ds (v ∷ vs) ws e = absurd (omega (arith, e))
balances-split r (c ∷ cs) ds (v ∷ vs) ws e = rw (balances-split r cs ds vs ws (omega (arith, e))) (go (update_effective_balance r c v) (update_effective_balances r cs vs) (update_effective_balances r ds ws))
  where
    go : (m : Checked Validator) (x y : Checked (List Validator)) → bind m (λ w. bind (bind x (λ us. bind y (λ xs. value (us ++ xs)))) (λ us. value (w ∷ us))) ≡ bind (bind m (λ w. bind x (λ us. value (w ∷ us)))) (λ us. bind y (λ xs. value (us ++ xs)))
    go (refused p) x y = refl
    go (value w) (refused p) y = refl
    go (value w) (value us) (value xs) = refl
    go (value w) (value us) (refused p) = refl

pub flags-split : (vs ws : List Validator) → process_participation_flag_updates (vs ++ ws) ≡ process_participation_flag_updates vs ++ process_participation_flag_updates ws
unfolding process_participation_flag_updates
flags-split [] ws = refl
flags-split (v ∷ vs) ws = ap₂ ◌∷◌ refl (flags-split vs ws)

-- what was deposited, of a registry in two parts
pub deposited-split : (vs us ws : List Validator) → length vs ≡ length us → deposit_amounts vs (us ++ ws) ≡ deposit_amounts vs us ++ deposit_amounts [] ws
unfolding deposit_amounts
deposited-split [] [] ws e = refl
deposited-split (v ∷ vs) [] ws e = absurd (omega (arith, e))
deposited-split [] (u ∷ us) ws e = absurd (omega (arith, e))
deposited-split (v ∷ vs) (u ∷ us) ws e = ap₂ ◌∷◌ refl (deposited-split vs us ws (omega (arith, e)))

-- what was added to the balance; of a new validator all of it
pub deposited-at : (vs ws : List Validator) (i : ℕ) → i < length ws → get_or (deposit_amounts vs ws) i 0 ≡ balance_at ws i - balance_at vs i
unfolding deposit_amounts
deposited-at vs [] i l = absurd (omega arith)
deposited-at [] (w ∷ ws) zero l = omega arith
deposited-at [] (w ∷ ws) (suc i) l = deposited-at [] ws i (omega arith)
deposited-at (v ∷ vs) (w ∷ ws) zero l = refl
deposited-at (v ∷ vs) (w ∷ ws) (suc i) l = deposited-at vs ws i (omega arith)

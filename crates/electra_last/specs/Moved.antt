-- Pending consolidations and effective balances, one after the other.
use Rattle.std.specs.Prelude.{◌≡◌, List, ℕ, ◌*◌, ◌/◌, ◌≤◌, length}
use Rattle.definitions.specs.Record.{Validator, encode}
use Rattle.definitions.specs.Checked.{Checked, value, bind}
use Rattle.definitions_electra.specs.declared.ElectraRules.{ElectraRules}
use Rattle.definitions_electra.specs.Document.Electra.EpochProcessing.{Consolidating}
use Rattle.definitions_electra.specs.Evaluated.Electra.EpochProcessing.{update_effective_balances}
use Rattle.electra_consolidations.specs.Consolidations.{consolidations}
use Rattle.electra_consolidations.specs.Moves.{moved_to, movements, Framed}

pub record Balanced : Type 0 where
  pub moved : Consolidating
  pub balanced : List Validator

unfoldable pub moved_by : ElectraRules → ℕ → List ℕ → List Validator → List ℕ → Checked Balanced
moved_by r next compounding vs pairs =
    bind (consolidations next vs pairs) (λ p. bind (update_effective_balances r compounding p.validators) (λ ws. value (record { moved = p; balanced = ws })))

-- where it is not refused: the registry, and the amounts where n rows are lent
pub record MovedHeld (next n : ℕ) (vs : List Validator) (pairs : List ℕ) (b : Balanced) (after before amounts : List ℕ) : Type 0 where
  pub registry : after ≡ encode b.balanced
  pub books : 12 * n ≤ length before → movements next n vs pairs before ≡ value (moved_to n b.moved.validators b.moved.next_pending_consolidation amounts)

-- how many consolidations are done
pub record MovedRan (next n : ℕ) (vs : List Validator) (pairs : List ℕ) (m : Checked Balanced) (after before amounts : List ℕ) (r : Checked ℕ) : Type 0 where
  pub is : r ≡ bind m (λ b. value b.moved.next_pending_consolidation)
  pub most : (count : ℕ) → r ≡ value count → count ≤ length pairs / 2
  pub framed : Framed n before amounts
  pub held : (b : Balanced) → m ≡ value b → MovedHeld next n vs pairs b after before amounts

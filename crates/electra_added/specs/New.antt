-- Step 8 at those whom the deposits add, who stand behind the n of the opening.
use Rattle.std.specs.Prelude.{◌≡◌, List, ℕ, drop}
use Rattle.definitions.specs.Record.{Validator}
use Rattle.definitions.specs.Checked.{Checked, value, done}
use Rattle.definitions_electra.specs.declared.ElectraRules.{ElectraRules}
use Rattle.definitions_electra.specs.Record.{ElectraState}
use Rattle.definitions_electra.specs.Evaluated.Electra.EpochProcessing.{update_effective_balances}
use Rattle.electra_steps.specs.Last.{Six, six_by}
use Rattle.electra_steps.specs.Finds.{Finds}

abbrev pub new_updates : ElectraRules → ℕ → Six → Checked (List Validator)
new_updates r n x = update_effective_balances r (drop n x.processing.registry.compounding) (drop n x.processing.registry.validators)

-- of every state that the deposits may be lent of, where they are not refused
pub record NewRefusal (r : ElectraRules) (n : ℕ) (deposits : List ℕ) (index : ℕ) (answer : Checked (Unit {0})) : Type 0 where
  pub tests : (st : ElectraState) → Finds n deposits st → (x : Six) → six_by r st ≡ value x → index ≡ x.processing.next_deposit_index →
      answer ≡ done (new_updates r n x)

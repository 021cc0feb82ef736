-- The step by its adjusted balance, and the number of increments in a total.
use mathlib.Core.Path.{◌≡◌}
use mathlib.Core.List.{List, []}
use Prim.Native.Nat.{ℕ, ◌*◌, ◌/◌, ◌≤◌, ◌<◌, max}
use native.Mathlib.Omega.{arith}
use native.Mathlib.Nat.{le-div_iff_mul-le}
use Rattle.definitions.specs.declared.Settings.{Settings}
use Rattle.definitions.specs.Record.{Validator, decode}
use Rattle.definitions.specs.Checked.{value, sum64}
use Rattle.definitions.specs.Rust.Phase0.Helpers.{get_total_balance}
use Rattle.laws.proofs.Checked.{bound, value_same, bind-bind}
use Rattle.laws_electra.proofs.Cases.{bind-given}
use Rattle.slashings.specs.Adjusted.{adjusted_balance}
use Rattle.definitions_electra.specs.declared.ElectraRules.{ElectraRules}
use Rattle.definitions_electra.specs.Record.{ElectraState}
use Rattle.definitions_electra.specs.Calls.{slashings_work, lent_state, lent_finality, no_churn, no_deposit_numbers}
use Rattle.definitions_electra.specs.Evaluated.Electra.EpochProcessing.{process_slashings}
use Rattle.laws_electra.proofs.Registry.{in_state}
use Rattle.electra_slashings.specs.Slashed.{slashed_registry}

-- a total is at least one increment
pub some_increments : (s : Settings) (members : List Validator) {total : ℕ} → get_total_balance s members ≡ value total → 0 < s.effective_balance_increment → 0 < total / s.effective_balance_increment
unfolding get_total_balance
some_increments s members {total} h p =
    let b = bound (sum64 _) (λ total. value (max s.effective_balance_increment total)) h in
    let e : max s.effective_balance_increment b.first ≡ total = value_same b.then in
    let l : 1 * s.effective_balance_increment ≤ total = omega arith in
    (le-div_iff_mul-le p).1 l

-- what the step is lent, as a state
abbrev pub lent : ℕ → List ℕ → List ℕ → ElectraState
lent state_slot slashings registry = lent_state (lent_finality state_slot 0) (decode registry) slashings [] no_churn no_deposit_numbers [] []

-- the step, of any state
pub step_by_lem : (r : ElectraRules) (st : ElectraState) → process_slashings r st ≡ in_state st (slashed_registry r.settings r.bellatrix.proportional_slashing_multiplier_bellatrix st.altair.finality.slot st.altair.slashings st.altair.validators)
unfolding process_slashings slashed_registry adjusted_balance
step_by_lem r st = simp (bind-bind, bind-given)

pub work-by : (r : ElectraRules) (state_slot : ℕ) (slashings registry : List ℕ) → slashings_work r state_slot slashings registry ≡ in_state (lent state_slot slashings registry) (slashed_registry r.settings r.bellatrix.proportional_slashing_multiplier_bellatrix state_slot slashings (decode registry))
unfolding slashings_work
work-by r state_slot slashings registry = step_by_lem r (lent state_slot slashings registry)

-- The churn limits of a record, and the one number that stands for one of them: under rules that pass test 2 a limit is never 0, so that 0 can say
-- that the total left 64 bits.
use mathlib.Core.Path.{◌≡◌, refl, sym, ap}
use mathlib.Core.Bool.{true}
use mathlib.Core.List.{List}
use Prim.Native.Nat.{ℕ, ◌-◌, ◌/◌, ◌%◌, ◌≤◌, ◌<◌, max}
use native.Mathlib.Omega.{arith}
use native.Mathlib.Nat.{mod-lt}
use borrow.Author.Tests.{ne_eqb}
use Rattle.std.specs.Prelude.{IsErr, IsErrAnd}
use Rattle.definitions.specs.declared.Settings.{Settings}
use Rattle.definitions.specs.Record.{Validator}
use Rattle.definitions.specs.Checked.{Checked, value, refused, bind, settle}
use Rattle.definitions.specs.declared.Refusal.{Refusal}
use Rattle.definitions.specs.declared.Refusal.TheVariants.{Overflow}
use Rattle.definitions.specs.Rust.Phase0.Helpers.{get_current_epoch, get_active_validator_indices, get_total_balance, get_total_active_balance}
use Rattle.arithmetic.proofs.Operations.{OnlyOverflow, only-value, only-bind}
use Rattle.arithmetic.proofs.Laws.{next, passes-on}
use Rattle.totals.proofs.Sums.{only-total}
use Rattle.electra_refusals.proofs.Passed.{good-electra}
use Rattle.definitions_electra.specs.declared.ElectraRules.{ElectraRules}
use Rattle.definitions_electra.specs.Refusals.{good_electra}
use Rattle.definitions_electra.specs.Document.Electra.Helpers.{balance_churn_limit, activation_exit_churn_limit}
use Rattle.definitions_electra.specs.Evaluated.Electra.Helpers.{get_activation_exit_churn_limit}
use Rattle.electra_registry.specs.Turns.{limit_of}

-- A limit k from the total active balance, which answered t
module _ (s : Settings) (state_slot : ℕ) (vs : List Validator) (k : ℕ → ℕ) {epoch : ℕ} (now : epoch ≡ get_current_epoch s state_slot) {t : Checked ℕ} (h : t ≡ get_total_balance s (get_active_validator_indices vs epoch)) where
  total : t ≡ get_total_active_balance s state_slot vs
  unfolding get_total_active_balance
  total = rw now at h

  pub limit-told : {x : ℕ} → t ≡ value x → {y : ℕ} → y ≡ k x → value y ≡ bind (get_total_active_balance s state_slot vs) (λ total. value (k total))
  limit-told e {y} i = next _ total e (ap value i)

  pub limit-over : {p : Refusal} {r : Checked ℕ} → t ≡ refused p → IsErr r × IsErrAnd r (λ q. q ≡ p) → r ≡ bind (get_total_active_balance s state_slot vs) (λ total. value (k total))
  limit-over e i = passes-on _ total e i

-- at least the increment, rounded down to it, is not 0
rounded : (a inc : ℕ) → 0 < inc → inc ≤ a → 0 < a - a % inc
rounded a inc p l = let m = mod-lt a p in omega (arith, m)

pub limit_not_zero : (r : ElectraRules) (total : ℕ) → 0 < r.settings.effective_balance_increment → r.settings.effective_balance_increment ≤ r.electra.min_per_epoch_churn_limit_electra → 0 < r.electra.max_per_epoch_activation_exit_churn_limit → 0 < activation_exit_churn_limit r total
unfolding activation_exit_churn_limit balance_churn_limit
limit_not_zero r total p l m =
    let churn = max r.electra.min_per_epoch_churn_limit_electra (total / r.settings.churn_limit_quotient) in
    let k = rounded churn r.settings.effective_balance_increment p (omega arith) in
    omega (arith, k)

pub only-limit : (r : ElectraRules) (state_slot : ℕ) (vs : List Validator) → OnlyOverflow (get_activation_exit_churn_limit r state_slot vs)
unfolding get_activation_exit_churn_limit get_total_active_balance
only-limit r state_slot vs = only-bind (only-total r.settings _) (λ t. only-value _)

-- the limit as one number, and back
pub limit-good : (r : ElectraRules) (state_slot : ℕ) (vs : List Validator) → good_electra r ≡ true → limit_of (settle (get_activation_exit_churn_limit r state_slot vs) 0) ≡ get_activation_exit_churn_limit r state_slot vs
unfolding get_activation_exit_churn_limit bind limit_of
limit-good r state_slot vs good = go (get_total_active_balance r.settings state_slot vs) (only-limit r state_slot vs).why
  where
    go : (t : Checked ℕ) → ((q : Refusal) → bind t (λ total. value (activation_exit_churn_limit r total)) ≡ refused q → q ≡ Overflow) → limit_of (settle (bind t (λ total. value (activation_exit_churn_limit r total))) 0) ≡ bind t (λ total. value (activation_exit_churn_limit r total))
    go (value total) o =
        let g = good-electra r good in
        rw (ne_eqb (activation_exit_churn_limit r total) 0 (λ z. omega (arith, limit_not_zero r total g.positive.effective_balance_increment g.least g.most, z)))
    go (refused q) o = ap refused (sym (o q refl))

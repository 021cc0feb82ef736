-- What the four ask for before the pass: where one of these is not a number, they are refused by 5.
use mathlib.Core.Path.{◌≡◌, refl, sym, ap, ◌∙◌}
use mathlib.Core.Bool.{true, false, true≢false}
use mathlib.Core.List.{List}
use Prim.Native.Nat.{ℕ}
use native.Mathlib.Omega.{arith}
use Rattle.definitions.specs.declared.Settings.{Settings}
use Rattle.definitions.specs.Record.{Validator, decode}
use Rattle.definitions.specs.Checked.{Checked, value, refused}
use Rattle.definitions.specs.declared.Refusal.TheVariants.{Overflow}
use Rattle.definitions.specs.Rules.{in_place}
use Rattle.definitions.specs.Rust.Phase0.Helpers.{is_active_validator, get_current_epoch, get_previous_epoch, get_total_active_balance, get_active_validator_indices}
use Rattle.laws.proofs.Checked.{not_value, value_same, bound}
use Rattle.arithmetic.proofs.Operations.{OnlyOverflow, only-value, only-bind}
use Rattle.arithmetic.proofs.Laws.{bind-refused}
use Rattle.slashings.specs.Adjusted.{adjusted_balance}
use Rattle.slashings.proofs.Adjusted.{only-adjusted}
use Rattle.registry.proofs.Epochs.{Epochs}
use Rattle.definitions_electra.specs.declared.ElectraRules.{ElectraRules}
use Rattle.definitions_electra.specs.declared.ExitChurn.{ExitChurn}
use Rattle.definitions_electra.specs.Refusals.{good_electra}
use Rattle.electra_registry.specs.Updates.{numbers_of, Exiting}
use Rattle.electra_slashings.specs.Slashed.{slashed_registry}
use Rattle.survey.specs.declared.Findings.{Findings}
use Rattle.survey.specs.Sums.{active_at, balance_of}
use Rattle.survey.specs.Found.{Finds, all_fit}
use Rattle.write_turn.specs.Sweep.{sweep}
use Rattle.write_turn.specs.Written.{churn_with}
use Rattle.write_turn.proofs.Sweeps.Pure.{only-map}
use Rattle.write_turn.proofs.Sweeps.Fused.{only-sweep}
use Rattle.write_steps.proofs.Made.{plain-fit}
use Rattle.write_steps.proofs.Only.{only-inactivity, only-rewards, only-active}
use Rattle.write_steps.proofs.Accepted.{Gave, total-gave, adjusted-any, Summed, summed}
use Rattle.electra_first.specs.Paid.{paid_by}
use Rattle.electra_first.specs.Taken.{exits_of, taken_by}
use Rattle.electra_first.specs.First.{Four, four_by, FourRan}
use Rattle.electra_first.proofs.Turning.{left, only-turn_later, only_slash_later, swept_total}
use Rattle.electra_first.proofs.Fused.{total-same, exits_swept}
use Rattle.electra_first.proofs.Booked.{ways}

pub record Accepted (r : ElectraRules) (s : Settings) (slot fin : ℕ) (slashings : List ℕ) (vs : List Validator) : Type 0 where
  pub sums : Summed s slot fin vs
  pub adjusted : (total : ℕ) → Gave (adjusted_balance r.bellatrix.proportional_slashing_multiplier_bellatrix total slashings)

-- a sum of the survey has left 64 bits
pub over-accepted : (r : ElectraRules) (s : Settings) {slot now : ℕ} (fin : ℕ) (slashings : List ℕ) → slot ≡ now → (xs : List ℕ) {kept : List ℕ} {found : Findings} → Finds s (get_current_epoch s now) (get_previous_epoch s now) xs kept found → all_fit found.over ≡ false → Accepted r s slot fin slashings (decode xs) → ⊥
over-accepted r s fin slashings same xs h over g = true≢false (sym (plain-fit h (rw same at g.sums.plain)) ∙ over)

module _ (r : ElectraRules) (s : Settings) (slot fin : ℕ) (slashings : List ℕ) (churn : ExitChurn) (is : s ≡ in_place r.bellatrix r.settings) (good : good_electra r ≡ true) (ep : Epochs r.settings slot) (vs : List Validator) where
  only-exits : (paid : List Validator) → OnlyOverflow (exits_of r slot fin churn paid)
  only-exits paid = rw (exits_swept r slot fin churn paid good ep) (only-bind (only-sweep (only-turn_later (numbers_of r slot fin paid)) churn paid) (λ m. only-value _))

  only-slashed : (ws : List Validator) → OnlyOverflow (slashed_registry r.settings r.bellatrix.proportional_slashing_multiplier_bellatrix slot slashings ws)
  unfolding slashed_registry
  only-slashed ws = only-bind (only-active r.settings slot ws) (λ total. only-bind (only-adjusted _ _ _) (λ a. only-map (only_slash_later r.settings _ _) ws))

  only-four : OnlyOverflow (four_by r s slot fin slashings churn vs)
  unfolding four_by paid_by taken_by
  only-four =
      only-bind (only-bind (only-inactivity s slot fin vs) (λ scored. only-bind (only-rewards s slot _ fin scored) (λ paid. only-value _))) (λ p.
      only-bind (only-bind (only-exits p.paid) (λ e. only-bind (only-slashed e.validators) (λ ws. only-value _))) (λ t. only-value _))

  accepted : {f : Four} → four_by r s slot fin slashings churn vs ≡ value f → Accepted r s slot fin slashings vs
  unfolding slashed_registry get_total_active_balance get_active_validator_indices is_active_validator
  accepted {f} e =
      let y = ways r s slot fin slashings churn vs e in
      let paid = f.paid.paid in
      let n = numbers_of r slot fin paid in
      let total = bound (get_total_active_balance r.settings slot f.taken.updated.validators) _ y.slashes in
      let adjusted = bound (adjusted_balance r.bellatrix.proportional_slashing_multiplier_bellatrix total.first slashings) _ total.then in
      let m = bound (sweep (churn_with n) churn paid) left (sym (exits_swept r slot fin churn paid good ep) ∙ y.exits) in
      let kept = swept_total n churn paid m.gave r.settings slot refl ep.small (omega arith) in
      let held = ap (λ (x : Exiting). get_total_active_balance r.settings slot x.validators) (value_same m.then) in
      let active : Gave (balance_of (active_at (get_current_epoch s slot)) paid) = total-gave s _ (sym (total-same r is slot paid) ∙ sym kept ∙ held ∙ total.gave) in
      record {
        sums = summed s slot fin vs f.paid.scored paid y.scores y.rewards active;
        adjusted = λ other. adjusted-any r.bellatrix.proportional_slashing_multiplier_bellatrix total.first other slashings adjusted.gave;
      }

  not_accepted : (Accepted r s slot fin slashings vs → ⊥) → four_by r s slot fin slashings churn vs ≡ refused Overflow
  not_accepted n = go (four_by r s slot fin slashings churn vs) refl
    where
      go : (m : Checked Four) → four_by r s slot fin slashings churn vs ≡ m → m ≡ refused Overflow
      go (value f) e = absurd (n (accepted e))
      go (refused q) e = ap refused (only-four.why q e)

  pub four-refused : (Accepted r s slot fin slashings vs → ⊥) → {after amounts : List ℕ} {x : Checked ExitChurn} → x ≡ refused Overflow → FourRan s slot fin (four_by r s slot fin slashings churn vs) after amounts x
  four-refused n h =
      let e = not_accepted n in
      record { is = h ∙ sym (bind-refused _ e); held = λ f q. absurd (not_value (sym e ∙ q)); books = λ f q. absurd (not_value (sym e ∙ q)) }

-- The four steps over the registry are one pass, by the totals of the opening.
use mathlib.Core.Path.{◌≡◌, refl, sym, ap, ◌∙◌}
use mathlib.Core.Bool.{Bool, true}
use mathlib.Core.List.{List}
use Prim.Native.Nat.{ℕ, ◌/◌}
use native.Mathlib.Omega.{arith}
use Rattle.definitions.specs.declared.Settings.{Settings}
use Rattle.definitions.specs.Record.{Validator, encode}
use Rattle.definitions.specs.Checked.{Checked, value, refused, bind, map_checked}
use Rattle.definitions.specs.Rules.{in_place}
use Rattle.definitions.specs.Document.Phase0.Helpers.{compute_epoch_at_slot}
use Rattle.definitions.specs.Rust.Phase0.Helpers.{get_current_epoch, get_previous_epoch, get_total_balance, get_total_active_balance}
use Rattle.definitions.specs.Rust.Altair.EpochProcessing.{process_inactivity_updates, process_rewards_and_penalties, is_slashing_due}
use Rattle.laws.proofs.Encode.{decode-encode}
use Rattle.slashings.specs.Adjusted.{adjusted_balance}
use Rattle.balances.specs.declared.effective_balances.Thresholds.{Thresholds}
use Rattle.registry.proofs.Epochs.{Epochs}
use Rattle.definitions_electra.specs.declared.ElectraRules.{ElectraRules}
use Rattle.definitions_electra.specs.declared.ExitChurn.{ExitChurn}
use Rattle.definitions_electra.specs.Refusals.{good_electra}
use Rattle.definitions_electra.specs.Calls.{registry_work}
use Rattle.definitions_electra.specs.Evaluated.Electra.Helpers.{get_activation_exit_churn_limit}
use Rattle.definitions_electra.specs.Evaluated.Electra.EpochProcessing.{slash}
use Rattle.electra_registry.specs.declared.updates.RegistryNumbers.{RegistryNumbers}
use Rattle.electra_registry.specs.Updates.{numbers_of, Exiting}
use Rattle.electra_registry.proofs.Loop.{registry-text}
use Rattle.electra_slashings.specs.Slashed.{slashed_registry}
use Rattle.survey.specs.declared.Totals.{Totals}
use Rattle.survey.specs.Sums.{TotalsOf}
use Rattle.write_turn.specs.Sweep.{Moved, sweep, last}
use Rattle.write_turn.specs.declared.Plan.{Plan}
use Rattle.write_turn.specs.Written.{pay_of, churn_with, turn_later, later_with}
use Rattle.write_turn.proofs.Sweeps.Fused.{swept_first, swept_last, keeping}
use Rattle.arithmetic.proofs.Operations.{only-value, only-bind}
use Rattle.write_steps.specs.Numbers.{plan_of, leak_of}
use Rattle.write_steps.proofs.Leak.{leak-some}
use Rattle.write_steps.proofs.Only.{only_pay}
use Rattle.write_steps.proofs.Kept.{totals-kept}
use Rattle.write_steps.proofs.Tracked.{pay_bare}
use Rattle.write_steps.proofs.Steps.{pays}
use Rattle.electra_first.specs.Paid.{Paid, paid_by}
use Rattle.electra_first.specs.Taken.{exits_of, taken_by}
use Rattle.electra_first.specs.First.{Four, four_by}
use Rattle.electra_first.specs.Numbers.{numbers_by}
use Rattle.electra_first.proofs.Turning.{left, turns_swept, only-turn_later, only_slash_later, swept_total}

-- what the pass leaves
abbrev pub out : Four → Checked (Moved ExitChurn (List Validator))
out f = value (record { carry = f.taken.updated.churn; held = f.taken.lessened })

-- The settings with the pair in place have the same epoch, total and slashing
module _ (r : ElectraRules) {s : Settings} (is : s ≡ in_place r.bellatrix r.settings) where
  pub epoch-same : (slot : ℕ) → get_current_epoch r.settings slot ≡ get_current_epoch s slot
  unfolding get_current_epoch compute_epoch_at_slot
  epoch-same slot = ap (λ (t : Settings). get_current_epoch t slot) (sym is)

  pub total-same : (slot : ℕ) (vs : List Validator) → get_total_active_balance r.settings slot vs ≡ get_total_active_balance s slot vs
  unfolding get_total_active_balance get_total_balance get_current_epoch compute_epoch_at_slot
  total-same slot vs = ap (λ (t : Settings). get_total_active_balance t slot vs) (sym is)

  slash-same : (epoch per_increment : ℕ) → slash r.settings epoch per_increment ≡ slash s epoch per_increment
  unfolding slash is_slashing_due
  slash-same epoch per_increment = ap (λ (t : Settings). slash t epoch per_increment) (sym is)

-- the registry step of any validators
pub exits_swept : (r : ElectraRules) (slot fin : ℕ) (churn : ExitChurn) (vs : List Validator) → good_electra r ≡ true → Epochs r.settings slot → exits_of r slot fin churn vs ≡ bind (sweep (churn_with (numbers_of r slot fin vs)) churn vs) left
unfolding exits_of registry_work
exits_swept r slot fin churn vs good ep = (rw (decode-encode vs) at (registry-text r slot fin churn (encode vs) good ep)) ∙ turns_swept (numbers_of r slot fin vs) churn vs

numbers-are : (r : ElectraRules) (slot fin : ℕ) (vs : List Validator) {total : ℕ} → get_total_active_balance r.settings slot vs ≡ value total → numbers_of r slot fin vs ≡ numbers_by r (get_current_epoch r.settings slot) fin total
unfolding get_activation_exit_churn_limit bind
numbers-are r slot fin vs h = rw h

module _ (r : ElectraRules) (s : Settings) (slot fin : ℕ) (slashings : List ℕ) (churn : ExitChurn) where
  abbrev multiplier : ℕ
  multiplier = r.bellatrix.proportional_slashing_multiplier_bellatrix

  abbrev slashed : List Validator → Checked (List Validator)
  slashed ws = slashed_registry r.settings r.bellatrix.proportional_slashing_multiplier_bellatrix slot slashings ws

  -- the registry step and slashings
  abbrev last_two : List Validator → Checked (Moved ExitChurn (List Validator))
  last_two paid = bind (exits_of r slot fin churn paid) (λ e. bind (slashed e.validators) (keeping e.churn))

  taken_out : (p : Paid) (m : Checked Exiting) → bind (bind (bind m (λ e. bind (slashed e.validators) (λ ws. value (record { updated = e; lessened = ws })))) (λ t. value (record { paid = p; taken = t }))) out ≡ bind m (λ e. bind (slashed e.validators) (keeping e.churn))
  unfolding bind
  taken_out p (refused q) = refl
  taken_out p (value e) = by (slashed e.validators)
    where
      by : (m : Checked (List Validator)) → bind (bind (bind m (λ ws. value (record { updated = e; lessened = ws }))) (λ t. value (record { paid = p; taken = t }))) out ≡ bind m (keeping e.churn)
      by (value ws) = refl
      by (refused q) = refl

  paid-out : (m : Checked Paid) → bind (bind m (λ p. bind (taken_by r slot fin slashings churn p.paid) (λ t. value (record { paid = p; taken = t })))) out ≡ bind m (λ p. last_two p.paid)
  unfolding bind taken_by
  paid-out (refused q) = refl
  paid-out (value p) = taken_out p (exits_of r slot fin churn p.paid)

  rewards-out : (scored : List Validator) (m : Checked (List Validator)) → bind (bind m (λ paid. value (record { scored = scored; paid = paid }))) (λ (p : Paid). last_two p.paid) ≡ bind m last_two
  unfolding bind
  rewards-out scored (value paid) = refl
  rewards-out scored (refused q) = refl

  scores-out : (m : Checked (List Validator)) → bind (bind m (λ scored. bind (process_rewards_and_penalties s s.inactivity_penalty_quotient_altair slot fin scored) (λ paid. value (record { scored = scored; paid = paid })))) (λ (p : Paid). last_two p.paid) ≡ bind (bind m (process_rewards_and_penalties s s.inactivity_penalty_quotient_altair slot fin)) last_two
  unfolding bind
  scores-out (value scored) = rewards-out scored (process_rewards_and_penalties s s.inactivity_penalty_quotient_altair slot fin scored)
  scores-out (refused q) = refl

  -- paid, then both
  grouped : (vs : List Validator) → bind (four_by r s slot fin slashings churn vs) out ≡ bind (bind (process_inactivity_updates s slot fin vs) (process_rewards_and_penalties s s.inactivity_penalty_quotient_altair slot fin)) last_two
  unfolding four_by paid_by
  grouped vs = paid-out (paid_by s slot fin vs) ∙ scores-out (process_inactivity_updates s slot fin vs)

  module _ (is : s ≡ in_place r.bellatrix r.settings) (good : good_electra r ≡ true) (ep : Epochs r.settings slot) (eps : Epochs s slot) (vs : List Validator) {t : Totals} (totals : TotalsOf s (get_current_epoch s slot) (get_previous_epoch s slot) vs t) (leaking : Bool) (leak : leak_of s slot fin ≡ value leaking) (adjusted : ℕ) (times : adjusted_balance multiplier t.active slashings ≡ value adjusted) (a b c : Checked ℕ) where
    abbrev current : ℕ
    current = get_current_epoch s slot

    abbrev per_increment : ℕ
    per_increment = adjusted / (t.active / s.effective_balance_increment)

    abbrev none : Thresholds
    none = record { downward = 0; upward = 0 }

    abbrev pub plan : Plan
    plan = plan_of s (get_current_epoch s slot) (get_previous_epoch s slot) leaking t a b c (adjusted / (t.active / s.effective_balance_increment)) 0 0

    abbrev pub numbers : RegistryNumbers
    numbers = numbers_by r (get_current_epoch s slot) fin t.active

    pub paid-all : bind (process_inactivity_updates s slot fin vs) (process_rewards_and_penalties s s.inactivity_penalty_quotient_altair slot fin) ≡ map_checked (pay_of s plan) vs
    paid-all = pays s slot fin eps t leaking a b c per_increment none vs totals (λ n. sym (leak-some s slot fin n) ∙ leak)

    module _ (paid : List Validator) (e : map_checked (pay_of s plan) vs ≡ value paid) where
      paid-total : get_total_active_balance r.settings slot paid ≡ value t.active
      unfolding get_total_active_balance
      paid-total = total-same r is slot paid ∙ (totals-kept (pay_of s plan) vs e (pay_bare s plan) s (get_current_epoch s slot) (get_previous_epoch s slot) totals).active

      numbers-same : numbers_of r slot fin paid ≡ numbers
      numbers-same = numbers-are r slot fin paid paid-total ∙ ap (λ (k : ℕ). numbers_by r k fin t.active) (epoch-same r is slot)

      exits : exits_of r slot fin churn paid ≡ bind (sweep (churn_with numbers) churn paid) left
      exits = rw numbers-same at (exits_swept r slot fin churn paid good ep)

      slashes : {m : Moved ExitChurn (List Validator)} → sweep (churn_with numbers) churn paid ≡ value m → slashed m.held ≡ map_checked (slash s current per_increment) m.held
      unfolding slashed_registry bind
      slashes {m} k =
          let total = swept_total numbers churn paid k r.settings slot (sym (epoch-same r is slot)) eps.small (omega arith) ∙ paid-total in
          rw (total, times, epoch-same r is slot, slash-same r is current (adjusted / (t.active / r.settings.effective_balance_increment)))
          (ap (λ (x : Settings). map_checked (slash s current (adjusted / (t.active / x.effective_balance_increment))) m.held) (sym is))

      later-two : last_two paid ≡ last (sweep (churn_with numbers)) (map_checked (slash s current per_increment)) churn paid
      unfolding bind
      later-two = rw exits (go (sweep (churn_with numbers) churn paid) refl)
        where
          go : (m : Checked (Moved ExitChurn (List Validator))) → sweep (churn_with numbers) churn paid ≡ m → bind (bind m left) (λ e. bind (slashed e.validators) (keeping e.churn)) ≡ bind m (λ m. bind (map_checked (slash s current per_increment) m.held) (keeping m.carry))
          go (value m) k = rw (slashes k)
          go (refused q) k = refl

    pub four_swept : bind (four_by r s slot fin slashings churn vs) out ≡ sweep (later_with s plan numbers) churn vs
    unfolding bind
    four_swept =
        grouped vs
        ∙ ap (λ (m : Checked (List Validator)). bind m last_two) paid-all
        ∙ go (map_checked (pay_of s plan) vs) refl
        ∙ sym (swept_first (only_pay s plan) (λ c v. only-bind (only-turn_later numbers c v) (λ m. only-bind (only_slash_later s _ _ _) (λ w. only-value _))) churn vs)
      where
        go : (m : Checked (List Validator)) → map_checked (pay_of s plan) vs ≡ m → bind m last_two ≡ bind m (sweep (turn_later s plan numbers) churn)
        go (value paid) e = later-two paid e ∙ sym (swept_last (only-turn_later numbers) (only_slash_later s current per_increment) churn paid)
        go (refused q) e = refl

-- The nine numbers that the pass fills are those of the steps, by the plan of an accepted close.
use mathlib.Core.Path.{◌≡◌, sym, ap, subst, ◌∙◌}
use mathlib.Core.Bool.{Bool}
use mathlib.Core.List.{List, [], ◌∷◌, ◌++◌}
use Prim.Native.Nat.{ℕ, ◌+◌, ◌-◌, ◌*◌, ◌/◌, ◌<◌}
use native.Mathlib.Omega.{arith}
use lib.ListN.{length, get_or, take, drop}
use Rattle.definitions.specs.declared.Settings.{Settings}
use Rattle.definitions.specs.declared.ActivationLimit.{ActivationLimit}
use Rattle.definitions.specs.Record.{Validator, decode, nobody}
use Rattle.definitions.specs.Checked.{Checked, value, map_checked}
use Rattle.definitions.specs.Rust.Phase0.Helpers.{get_current_epoch, get_previous_epoch}
use Rattle.definitions.specs.Rust.Phase0.EpochProcessing.{is_in_inactivity_leak}
use Rattle.laws.proofs.Encode.{length-decode}
use Rattle.arithmetic.proofs.Laws.{bind-value}
use Rattle.definitions_close.specs.Amounts.{nines}
use Rattle.laws_close.specs.Nine.{nine_of}
use Rattle.laws_close.proofs.Amounts.Lists.{each-length, each_at}
use Rattle.laws_close.proofs.Amounts.Nines.{Eights, nine-at, nines-long, nine_ext}
use Rattle.laws_close.proofs.Amounts.Way.{Way, by-rewards, by-slashings, filled-ninth}
use Rattle.balances.specs.declared.effective_balances.Thresholds.{Thresholds}
use Rattle.registry.proofs.Epochs.{Epochs}
use Rattle.survey.specs.declared.Totals.{Totals}
use Rattle.survey.specs.Sums.{TotalsOf}
use Rattle.write_turn.specs.declared.Plan.{Plan}
use Rattle.write_turn.specs.Written.{pay_of}
use Rattle.write_pass.specs.Filled.{eight_by, nine_by, nine_at, Filled}
use Rattle.write_steps.specs.Numbers.{plan_of, leak_of, BookedBy}
use Rattle.write_steps.specs.RegistrySteps.{registry_steps}
use Rattle.write_steps.proofs.Leak.{leak-some}
use Rattle.write_steps.proofs.Eights.{eight_is as eights-are}
use Rattle.write_steps.proofs.Steps.{pays}
use Rattle.full_close.specs.StepAmounts.{step_amounts}
use Rattle.full_close.proofs.Booking.Way.{way, updated-long}

module _ {by : ActivationLimit} {s : Settings} {slot fin : ℕ} {ys : List ℕ} {vs ws : List Validator} (w : Way by s slot fin ys vs ws) where
  -- the nine numbers of the steps
  abbrev pub nine_lists : List ℕ
  nine_lists = nines (by-rewards w).eights (by-slashings w).ninths

  pub step-amounts : step_amounts by s slot fin ys vs ≡ value nine_lists
  unfolding step_amounts
  step-amounts = bind-value _ w.scores ∙ bind-value _ (by-rewards w).are ∙ bind-value _ w.pays ∙ bind-value _ w.registers ∙ bind-value _ (by-slashings w).are

  eights : Eights (by-rewards w).eights (by-slashings w).ninths
  eights =
      record {
        long = omega (arith, (by-rewards w).long, (by-slashings w).long, (by-rewards w).same, updated-long w);
        eight = λ i l. (by-rewards w).eight i (omega (arith, l, (by-rewards w).long));
      }

  module _ (ep : Epochs s slot) {t : Totals} (totals : TotalsOf s (get_current_epoch s slot) (get_previous_epoch s slot) vs t) (leaking : Bool) (leak : leak_of s slot fin ≡ value leaking) (a b c : Checked ℕ) (adjusted : ℕ) (thresholds : Thresholds) where
    abbrev current : ℕ
    current = get_current_epoch s slot

    abbrev previous : ℕ
    previous = get_previous_epoch s slot

    abbrev plan : Plan
    plan = plan_of s current previous leaking t a b c adjusted thresholds.downward thresholds.upward

    leaks : (current ≡ 0 → ⊥) → is_in_inactivity_leak s slot fin ≡ value leaking
    leaks n = sym (leak-some s slot fin n) ∙ leak

    paid-all : map_checked (pay_of s plan) vs ≡ value w.paid
    paid-all = sym (pays s slot fin ep t leaking a b c adjusted thresholds vs totals leaks) ∙ bind-value _ w.scores ∙ w.pays

    paid-long : length w.paid ≡ length vs
    paid-long = each-length (pay_of s plan) vs paid-all

    scored-long : length w.scored ≡ length vs
    scored-long = sym (by-rewards w).same ∙ paid-long

    module _ (i : ℕ) (l : i < length vs) where
      abbrev v : Validator
      v = get_or vs i nobody

      paid-at : pay_of s plan v ≡ value (get_or w.paid i nobody)
      paid-at = each_at (pay_of s plan) nobody nobody vs paid-all i l

      eight_is : eight_by s plan v ≡ value (get_or (by-rewards w).eights i [])
      eight_is = eights-are s slot fin vs w.scored w.scores scored-long totals leaking leak a b c adjusted thresholds.downward thresholds.upward (by-rewards w).are i l

      nine-is : nine_by s plan v (get_or ws i nobody) ≡ nine_of nine_lists i
      unfolding nine_by
      nine-is =
          rw (eight_is, paid-at)
          (ap (λ (x : ℕ). get_or (by-rewards w).eights i [] ++ (x ∷ [])) (sym (filled-ninth w i l))
          ∙ sym (nine-at (by-rewards w).eights (by-slashings w).ninths eights i (omega (arith, l, (by-rewards w).long, scored-long))))

    nine-long : (i : ℕ) → 9 * i + 9 - 9 * i ≡ 9
    nine-long i = omega arith

    -- a list that has the nine numbers of each
    pub filled : (n : ℕ) → length vs ≡ n → {xs : List ℕ} → length xs ≡ 9 * n → ((i : ℕ) → i < n → nine_at xs i ≡ nine_by s plan (get_or vs i nobody) (get_or ws i nobody)) → step_amounts by s slot fin ys vs ≡ value xs
    filled n e {xs} long nine =
        step-amounts
        ∙ ap value (sym (nine_ext n xs nine_lists long (nines-long (by-rewards w).eights (by-slashings w).ninths eights ∙ ap (λ (k : ℕ). 9 * k) ((by-rewards w).long ∙ scored-long ∙ e))
        (λ i l. ap (λ (k : ℕ). take k (drop (9 * i) xs)) (sym (nine-long i)) ∙ nine i l ∙ nine-is i (omega (arith, l, e)))))

-- By a plan as the code has it
pub steps-booked : (by : ActivationLimit) (s : Settings) (slot fin : ℕ) (ys opening closing : List ℕ) → Epochs s slot → length opening ≡ 10 * (length opening / 10) → registry_steps by s slot fin ys (decode opening) ≡ value (decode closing) → {xs : List ℕ} → BookedBy s slot fin ys opening closing xs → step_amounts by s slot fin ys (decode opening) ≡ value xs
steps-booked by s slot fin ys opening closing ep long gave {xs} h =
    let made = h.planned in
    let p = h.plan in
    filled (way by s slot fin ys (decode opening) gave) ep h.summed made.leaking made.leak p.shared.per_increment p.shared.denominator p.product made.adjusted made.thresholds (length opening / 10) (length-decode (length opening / 10) opening long) h.filled.long
    (subst (λ (k : Plan). Filled s k opening closing xs) made.makes.is h.filled).nine

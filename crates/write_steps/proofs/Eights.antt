-- The eight numbers that the pass books of a validator are those of the rewards step on the registry that the scores left.
use mathlib.Core.Path.{◌≡◌, refl, sym, ap, ◌∙◌}
use mathlib.Core.Bool.{Bool, true, false, true≢false}
use mathlib.Core.List.{List, [], map}
use Prim.Native.Nat.{ℕ, ◌<◌}
use native.Mathlib.Omega.{arith}
use borrow.Author.Tests.{eqb-true, eq-eqb, ne_eqb}
use lib.Dec.{eqb}
use lib.ListN.{length, get_or, replicate}
use Rattle.definitions.specs.declared.Settings.{Settings}
use Rattle.definitions.specs.Record.{Validator, nobody}
use Rattle.definitions.specs.Checked.{Checked, value, bind, map_checked}
use Rattle.definitions.specs.Rust.Phase0.Helpers.{get_current_epoch, get_previous_epoch, get_total_active_balance}
use Rattle.definitions.specs.Rust.Phase0.EpochProcessing.{is_in_inactivity_leak}
use Rattle.definitions.specs.Rust.Altair.Helpers.{get_unslashed_participating_indices, flag_totals}
use Rattle.definitions.specs.Rust.Altair.EpochProcessing.{all_deltas, process_inactivity_updates}
use Rattle.laws.proofs.Checked.{value_same}
use Rattle.definitions_close.specs.Amounts.{booked, booked_by_rewards}
use Rattle.laws_close.proofs.Amounts.Lists.{each_at, at_map}
use Rattle.rewards.specs.Shared.{totals_of}
use Rattle.survey.specs.declared.Totals.{Totals}
use Rattle.survey.specs.Sums.{TotalsOf}
use Rattle.write_turn.specs.declared.Plan.{Plan}
use Rattle.write_turn.specs.Planned.{scored_by}
use Rattle.write_pass.specs.Filled.{eight_by}
use Rattle.write_steps.specs.Numbers.{plan_of, leak_of}
use Rattle.write_steps.proofs.Leak.{leak-some}
use Rattle.write_steps.proofs.Kept.{score-keeps, totals-kept}
use Rattle.write_steps.proofs.Rewards.{scores}

module _ (s : Settings) (slot fin : ℕ) (vs scored : List Validator) (scored-is : process_inactivity_updates s slot fin vs ≡ value scored) (scored-long : length scored ≡ length vs) {t : Totals} (totals : TotalsOf s (get_current_epoch s slot) (get_previous_epoch s slot) vs t) (leaking : Bool) (leak : leak_of s slot fin ≡ value leaking) (a b c : Checked ℕ) (adjusted downward upward : ℕ) {es : List (List ℕ)} (are : booked_by_rewards s s.inactivity_penalty_quotient_altair slot fin scored ≡ value es) (i : ℕ) (l : i < length vs) where
  abbrev current : ℕ
  current = get_current_epoch s slot

  abbrev previous : ℕ
  previous = get_previous_epoch s slot

  abbrev plan : Plan
  plan = plan_of s (get_current_epoch s slot) (get_previous_epoch s slot) leaking t a b c adjusted downward upward

  eight-first : current ≡ 0 → eight_by s plan (get_or vs i nobody) ≡ value (get_or es i [])
  unfolding eight_by booked_by_rewards
  eight-first z =
      let zeros : List ℕ = replicate 8 0 in
      let same : map (λ v. zeros) scored ≡ es = value_same (rw (eq-eqb current 0 z) at are) in
      rw (eq-eqb current 0 z) (ap value (sym (at_map (λ v. zeros) nobody [] scored i (omega (arith, l, scored-long))) ∙ ap (λ (es : List (List ℕ)). get_or es i []) same))

  module _ (n : current ≡ 0 → ⊥) where
    leaks : is_in_inactivity_leak s slot fin ≡ value leaking
    leaks = sym (leak-some s slot fin n) ∙ leak

    scored-all : map_checked (scored_by s plan) vs ≡ value scored
    scored-all = sym (scores s s.inactivity_penalty_quotient_altair slot fin refl n refl leaks vs) ∙ scored-is

    -- the eight numbers of a validator as the scores left it
    eight_of : Validator → Checked (List ℕ)
    eight_of u = bind (all_deltas s plan.quotient current previous (totals_of plan.shared plan.source) (totals_of plan.shared plan.target) (totals_of plan.shared plan.head) u) (λ ds. value (booked u.balance ds))

    -- the rewards read the totals of the registry that the scores left, which are the opening's
    booked-all : booked_by_rewards s s.inactivity_penalty_quotient_altair slot fin scored ≡ map_checked eight_of scored
    unfolding booked_by_rewards flag_totals get_unslashed_participating_indices get_total_active_balance bind eight_of
    booked-all =
        let h = totals-kept (scored_by s plan) vs scored-all (score-keeps s current previous leaking) s current previous totals in
        rw (ne_eqb current 0 n, h.source, h.active, leaks, h.target, h.head)

    eight-later : eight_by s plan (get_or vs i nobody) ≡ value (get_or es i [])
    unfolding eight_by bind eight_of
    eight-later =
        let scored-at = each_at (scored_by s plan) nobody nobody vs scored-all i l in
        let booked-at = each_at eight_of nobody [] scored (sym booked-all ∙ are) i (omega (arith, l, scored-long)) in
        rw (ne_eqb current 0 n, scored-at) booked-at

  pub eight_is : eight_by s plan (get_or vs i nobody) ≡ value (get_or es i [])
  eight_is = go (eqb current 0) refl
    where
      go : (q : Bool) → eqb current 0 ≡ q → eight_by s plan (get_or vs i nobody) ≡ value (get_or es i [])
      go true q = eight-first (eqb-true current 0 q)
      go false q = eight-later (λ z. true≢false (sym (eq-eqb current 0 z) ∙ q))

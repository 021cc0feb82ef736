-- What the code's ways through the steps need of what was found.
use mathlib.Core.Path.{◌≡◌, refl, sym, ap, subst, ◌∙◌}
use mathlib.Core.Bool.{Bool, true, false, true≢false}
use mathlib.Core.List.{List}
use Prim.Native.Nat.{ℕ, ◌*◌, ◌/◌, ◌≤◌, max}
use native.Mathlib.Omega.{arith}
use borrow.Author.Tests.{eq-eqb}
use lib.Dec.{eqb}
use lib.ListN.{length}
use Rattle.definitions.specs.declared.Settings.{Settings}
use Rattle.definitions.specs.Lists.{every}
use Rattle.definitions.specs.Record.{Validator, decode}
use Rattle.definitions.specs.Checked.{Checked, value, refused, code_of, done}
use Rattle.definitions.specs.declared.Refusal.{Refusal}
use Rattle.definitions.specs.declared.Refusal.TheVariants.{Overflow}
use Rattle.definitions.specs.Rust.Phase0.Helpers.{get_current_epoch, get_previous_epoch, get_validator_churn_limit}
use Rattle.laws.proofs.Checked.{number_not_zero, not_value, refused_same, value_same}
use Rattle.arithmetic.proofs.Operations.{OnlyOverflow}
use Rattle.arithmetic.proofs.Laws.{carried}
use Rattle.std.specs.Prelude.{IsErr, IsErrAnd}
use Rattle.laws.proofs.Encode.{length-decode}
use Rattle.definitions.specs.declared.ExitQueue.{ExitQueue}
use Rattle.exit_queue.specs.Queue.{Tracks, start_pair}
use Rattle.exit_queue.proofs.Tracks.{tracks-few, tracks-start}
use Rattle.registry.specs.Updates.{least_exit}
use Rattle.registry.proofs.Epochs.{Epochs}
use Rattle.slashings.specs.Adjusted.{adjusted_balance}
use Rattle.balances.specs.declared.effective_balances.Thresholds.{Thresholds}
use Rattle.balances.specs.Thresholds.{thresholds_of}
use Rattle.survey.specs.declared.Sums.{Sums}
use Rattle.survey.specs.declared.Totals.{Totals}
use Rattle.survey.specs.declared.Findings.{Findings}
use Rattle.survey.specs.Sums.{balance_of, PlainSums, raised_to}
use Rattle.survey.specs.Found.{PlainSum, Finds, all_fit}
use Rattle.survey.proofs.Raised.{raised-totals}
use Rattle.survey.proofs.Found.{plain-sums}
use Rattle.write_turn.specs.declared.Plan.{Plan}
use Rattle.write_steps.specs.Numbers.{leak_of, Makes, PlanFor, Lacks, Plans, Found}

pub queue-few : {least : ℕ} (xs : List ℕ) {q : ExitQueue} → length xs ≡ 10 * (length xs / 10) → Tracks least (decode xs) q → q.number ≤ length xs
queue-few xs h t = let f = tracks-few t in omega (arith, length-decode (length xs / 10) xs h)

-- a total is at least an increment
-- From the survey

-- a sum that is a number has not gone over
zero_over : {p : Validator → Bool} {vs : List Validator} {sum over : ℕ} → PlainSum p vs sum over → {x : ℕ} → balance_of p vs ≡ value x → eqb over 0 ≡ true
zero_over {p} {vs} {sum} {over} h e = go (eqb over 0) refl
  where
    go : (t : Bool) → eqb over 0 ≡ t → t ≡ true
    go true q = refl
    go false q = absurd (not_value (sym (h.past (λ z. true≢false (sym (eq-eqb over 0 z) ∙ q))) ∙ e))

module _ {s : Settings} {current previous : ℕ} {xs kept : List ℕ} {r : Findings} (h : Finds s current previous xs kept r) where
  pub plain-fit : {t : Sums} → PlainSums current previous (decode xs) t → all_fit r.over ≡ true
  unfolding all_fit every
  plain-fit g =
      rw (zero_over h.active g.active, zero_over h.source g.source, zero_over h.target g.target, zero_over h.head g.head, zero_over h.current_target g.current_target)

-- what the steps ask for, where no sum has gone over
pub found_all : (s : Settings) (slot : ℕ) → Epochs s slot → (xs : List ℕ) {kept : List ℕ} {r : Findings} → Finds s (get_current_epoch s slot) (get_previous_epoch s slot) xs kept r → all_fit r.over ≡ true → {t : Totals} → t ≡ raised_to s.effective_balance_increment r.sums → {limit : ℕ} → limit ≡ max s.min_per_epoch_churn_limit (r.active / s.churn_limit_quotient) → {q : ExitQueue} → q ≡ start_pair (least_exit s (get_current_epoch s slot)) r.queue → Found s slot (decode xs) t limit q
unfolding get_validator_churn_limit
found_all s slot ep xs h fit t l q =
    record {
      totals = rw t (raised-totals s (plain-sums h fit));
      churn = sym (l ∙ ap (λ (n : ℕ). max s.min_per_epoch_churn_limit (n / s.churn_limit_quotient)) h.number);
      queue = rw q (tracks-start ep.fits h.queue);
    }

-- what answers 0 passed
pub passed-code : {A : Type 0} (m : Checked A) → code_of m ≡ 0 → done m ≡ value tt
passed-code (value a) e = refl
passed-code (refused p) e = absurd (number_not_zero p e)

-- The plan, or that there is none
module _ {s : Settings} {slot fin : ℕ} {t : Totals} {ys : List ℕ} where
  pub plan-made : {leaking : Bool} → leak_of s slot fin ≡ value leaking → {adjusted : ℕ} → adjusted_balance s.proportional_slashing_multiplier_altair t.active ys ≡ value adjusted → {thresholds : Thresholds} → thresholds_of s ≡ value thresholds → {p : Plan} → Makes s (get_current_epoch s slot) (get_previous_epoch s slot) leaking t adjusted thresholds.downward thresholds.upward p → Plans s slot fin t ys (value p)
  plan-made {leaking} l {adjusted} a {thresholds} h {p} m =
      let by : PlanFor s slot fin t ys p = record { leaking = leaking; adjusted = adjusted; thresholds = thresholds; leak = l; times = a; limits = h; makes = m } in
      record { given = λ r e. subst (λ (k : Plan). PlanFor s slot fin t ys k) (value_same e) by; why = λ q e. absurd (not_value (sym e)); none = λ q e. absurd (not_value (sym e)) }

  -- one of the three, m, is refused: by 5, as each of them can only be
  pub plan_lacks : {A : Type 0} {m n : Checked A} → OnlyOverflow m → (m ≡ refused Overflow → Lacks s slot fin t ys) → n ≡ m → {p : Refusal} → n ≡ refused p → {r : Checked Plan} → IsErr r × IsErrAnd r (λ q. q ≡ p) → Plans s slot fin t ys r
  plan_lacks o lacks h {p} e carries =
      let why = o.why p (sym h ∙ e) in
      rw (carried _ carries, why) (record { given = λ r e. absurd (not_value e); why = λ q e. sym (refused_same e); none = λ q e'. lacks (sym h ∙ e ∙ ap refused why) })

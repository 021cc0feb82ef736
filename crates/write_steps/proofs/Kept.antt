-- The totals do not read what scores and rewards write.
use mathlib.Core.Path.{◌≡◌, refl, sym, ap, ◌∙◌}
use mathlib.Core.Bool.{Bool, true, false, cond}
use mathlib.Core.List.{List}
use Prim.Native.Nat.{ℕ}
use Rattle.definitions.specs.declared.Settings.{Settings}
use Rattle.definitions.specs.Checked.{Checked, value, refused, bind, map_checked}
use Rattle.definitions.specs.Lists.{filter}
use Rattle.definitions.specs.Record.{Validator}
use Rattle.definitions.specs.Updates.{with_score, with_balance}
use Rattle.definitions.specs.Rust.Phase0.EpochProcessing.{is_eligible}
use Rattle.definitions.specs.Rust.Phase0.Helpers.{is_active_validator, get_active_validator_indices, get_total_balance}
use Rattle.definitions.specs.Rust.Altair.Helpers.{is_unslashed_participating, FlagTotals}
use Rattle.definitions.specs.Rust.Altair.EpochProcessing.{moved_score, recovered_score, update_inactivity_score, reward_and_penalize}
use Rattle.laws.proofs.Checked.{not_value, value_same, bound}
use Rattle.laws.proofs.Loops.Filtered.{sum64-filter}
use Rattle.rates.specs.Balances.{rewarded_balance}
use Rattle.rates.proofs.reward_balances.Rewarded.{rewarded, not_rewarded}
use Rattle.survey.specs.declared.Totals.{Totals}
use Rattle.survey.specs.Sums.{weight, active_at, TotalsOf}
use Rattle.laws.proofs.Frame.Entries.{kept_map, Keeps}

-- a validator but for its balance and score
abbrev pub bare : Validator → Validator
bare v = with_score 0 (with_balance 0 v)

-- f leaves what h reads as it is
pub score-keeps : (s : Settings) (current previous : ℕ) (leaking : Bool) → Keeps (update_inactivity_score s current previous leaking) bare
unfolding update_inactivity_score
score-keeps s current previous leaking v w e = go (is_eligible previous v) e
  where
    m : Checked ℕ
    m = moved_score s (is_unslashed_participating current 1 previous v) v.inactivity_score

    go : (t : Bool) → cond t (bind m (λ score. value (with_score (recovered_score s leaking score) v))) (value v) ≡ value w → bare w ≡ bare v
    go true e = let b = bound m (λ score. value (with_score (recovered_score s leaking score) v)) e in ap bare (sym (value_same b.then))
    go false e = ap bare (sym (value_same e))

pub reward_keeps : (s : Settings) (quotient current previous : ℕ) (source target head : FlagTotals) → Keeps (reward_and_penalize s quotient current previous source target head) bare
reward_keeps s quotient current previous source target head v w e = go (rewarded_balance s quotient current previous source target head v) refl
  where
    go : (m : Checked ℕ) → rewarded_balance s quotient current previous source target head v ≡ m → bare w ≡ bare v
    go (value x) h = ap bare (value_same (sym e ∙ rewarded s quotient current previous source target head v h))
    go (refused p) h = absurd (not_value (sym (not_rewarded s quotient current previous source target head v h) ∙ e))

module _ (f : Validator → Checked Validator) (vs : List Validator) {ws : List Validator} (e : map_checked f vs ≡ value ws) where
  -- over those that pass a test
  pub kept-total : (s : Settings) (p : Validator → Bool) → Keeps f (weight p) → get_total_balance s (filter p ws) ≡ get_total_balance s (filter p vs)
  unfolding get_total_balance
  kept-total s p k =
      rw (sum64-filter p (λ v. v.effective_balance) ws, sum64-filter p (λ v. v.effective_balance) vs, kept_map f (weight p) k vs e)

  pub totals-kept : Keeps f bare → (s : Settings) (current previous : ℕ) {t : Totals} → TotalsOf s current previous vs t → TotalsOf s current previous ws t
  unfolding is_unslashed_participating is_active_validator get_active_validator_indices
  totals-kept k s current previous t =
      record {
        active = kept-total s (active_at current) (λ v w q. ap (weight (active_at current)) (k v w q)) ∙ t.active;
        source = kept-total s (is_unslashed_participating current 0 previous) (λ v w q. ap (weight (is_unslashed_participating current 0 previous)) (k v w q)) ∙ t.source;
        target = kept-total s (is_unslashed_participating current 1 previous) (λ v w q. ap (weight (is_unslashed_participating current 1 previous)) (k v w q)) ∙ t.target;
        head = kept-total s (is_unslashed_participating current 2 previous) (λ v w q. ap (weight (is_unslashed_participating current 2 previous)) (k v w q)) ∙ t.head;
      }

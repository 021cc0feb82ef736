-- Justification by the survey's sums.
use mathlib.Core.Path.{◌≡◌, refl, sym, ◌∙◌}
use mathlib.Core.Bool.{Bool, true, false, cond, true≢false}
use mathlib.Core.List.{List}
use Prim.Native.Nat.{ℕ}
use borrow.Author.Tests.{eq-eqb, eqb-true}
use lib.Dec.{eqb}
use Rattle.definitions.specs.declared.Settings.{Settings}
use Rattle.definitions.specs.declared.Total.{Total}
use Rattle.definitions.specs.declared.Refusal.TheVariants.{Overflow}
use Rattle.definitions.specs.Checked.{Checked, value, refused}
use Rattle.definitions.specs.Lists.{filter}
use Rattle.definitions.specs.Record.{Validator, decode}
use Rattle.definitions.specs.Raised.{total_with_raised}
use Rattle.definitions.specs.Rust.Phase0.Helpers.{get_current_epoch, get_previous_epoch, get_active_validator_indices}
use Rattle.definitions.specs.Rust.Altair.Helpers.{get_unslashed_participating_indices}
use Rattle.totals.specs.Totals.{total_from}
use Rattle.totals.proofs.WithRaised.{total_of-sum, total-over}
use Rattle.totals.specs.Flags.{ThreeTotals}
use Rattle.survey.specs.declared.Findings.{Findings}
use Rattle.survey.specs.Found.{PlainSum, Finds}
use Rattle.registry_close.specs.Worked.{total_of}

total-says : (s : Settings) (p : Validator → Bool) (vs : List Validator) {sum over : ℕ} → PlainSum p vs sum over → total_of s.effective_balance_increment sum over ≡ total_with_raised s (filter p vs)
unfolding total_of
total-says s p vs {sum} {over} h = go (eqb over 0) refl
  where
    go : (t : Bool) → eqb over 0 ≡ t → cond t (value (total_from s.effective_balance_increment sum)) (refused Overflow) ≡ total_with_raised s (filter p vs)
    go true e = total_of-sum s (filter p vs) (h.fits (eqb-true over 0 e)) refl
    go false e = total-over s (filter p vs) (h.past (λ z. true≢false (sym (eq-eqb over 0 z) ∙ e))) refl

pub totals-found : (s : Settings) (slot : ℕ) (xs : List ℕ) {kept : List ℕ} {r : Findings} → Finds s (get_current_epoch s slot) (get_previous_epoch s slot) xs kept r → {a b c : Checked Total} → a ≡ total_of s.effective_balance_increment r.sums.active r.over.active → b ≡ total_of s.effective_balance_increment r.sums.target r.over.target → c ≡ total_of s.effective_balance_increment r.sums.current_target r.over.current_target → ThreeTotals s slot (decode xs) a b c
unfolding get_unslashed_participating_indices get_active_validator_indices
totals-found s slot xs h a b c =
    record {
      of_active = a ∙ total-says s _ (decode xs) h.active;
      of_previous = b ∙ total-says s _ (decode xs) h.target;
      of_current = c ∙ total-says s _ (decode xs) h.current_target;
    }

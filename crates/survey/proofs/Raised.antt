-- The totals, from the plain sums.
use Rattle.std.proofs.Common.{◌≡◌, ℕ, max, List, map}
use Rattle.definitions.specs.declared.Settings.{Settings}
use Rattle.definitions.specs.Checked.{value, bind, sum64}
use Rattle.definitions.specs.Record.{Validator}
use Rattle.definitions.specs.Rust.Phase0.Helpers.{get_active_validator_indices, get_total_balance}
use Rattle.survey.specs.declared.Sums.{Sums}
use Rattle.survey.specs.Sums.{PlainSums, raised_to, TotalsOf}

total : (s : Settings) (members : List Validator) {x : ℕ} → sum64 (map (λ v. v.effective_balance) members) ≡ value x → get_total_balance s members ≡ value (max s.effective_balance_increment x)
unfolding get_total_balance bind
total s members h = rw h

pub raised-totals : (s : Settings) {current previous : ℕ} {vs : List Validator} {t : Sums} → PlainSums current previous vs t → TotalsOf s current previous vs (raised_to s.effective_balance_increment t)
unfolding get_active_validator_indices
raised-totals s p =
    record {
      active = total s _ p.active;
      source = total s _ p.source;
      target = total s _ p.target;
      head = total s _ p.head;
    }

-- The sums of a survey, of one validator and of all.
use Rattle.std.specs.Prelude.{◌≡◌, ℕ, max, Bool, cond, List, map}
use Rattle.definitions.specs.declared.Settings.{Settings}
use Rattle.definitions.specs.Checked.{Checked, value, sum64}
use Rattle.definitions.specs.Lists.{filter}
use Rattle.definitions.specs.Record.{Validator}
use Rattle.definitions.specs.Rust.Phase0.Helpers.{is_active_validator, get_active_validator_indices, get_total_balance}
use Rattle.definitions.specs.Rust.Altair.Helpers.{TIMELY_SOURCE_FLAG_INDEX, TIMELY_TARGET_FLAG_INDEX, TIMELY_HEAD_FLAG_INDEX, is_unslashed_participating}
use Rattle.survey.specs.declared.Sums.{Sums}
use Rattle.survey.specs.declared.Totals.{Totals}

-- a validator's weight where it passes a test
abbrev pub weight : (Validator → Bool) → Validator → ℕ
weight p v = cond (p v) v.effective_balance 0

abbrev pub active_at : ℕ → Validator → Bool
active_at epoch v = is_active_validator v epoch

-- one validator's own part of each sum
abbrev pub sums_of : ℕ → ℕ → Validator → Sums
sums_of current previous v =
    record {
      active = weight (active_at current) v;
      source = weight (is_unslashed_participating current TIMELY_SOURCE_FLAG_INDEX previous) v;
      target = weight (is_unslashed_participating current TIMELY_TARGET_FLAG_INDEX previous) v;
      head = weight (is_unslashed_participating current TIMELY_HEAD_FLAG_INDEX previous) v;
      current_target = weight (is_unslashed_participating current TIMELY_TARGET_FLAG_INDEX current) v;
    }

-- the plain sum of the effective balances of those that pass a test
abbrev pub balance_of : (Validator → Bool) → List Validator → Checked ℕ
balance_of p vs = sum64 (map (λ v. v.effective_balance) (filter p vs))

-- t holds the plain sums, none of which leaves 64 bits
pub record PlainSums (current previous : ℕ) (vs : List Validator) (t : Sums) : Type 0 where
  pub active : balance_of (active_at current) vs ≡ value t.active
  pub source : balance_of (is_unslashed_participating current TIMELY_SOURCE_FLAG_INDEX previous) vs ≡ value t.source
  pub target : balance_of (is_unslashed_participating current TIMELY_TARGET_FLAG_INDEX previous) vs ≡ value t.target
  pub head : balance_of (is_unslashed_participating current TIMELY_HEAD_FLAG_INDEX previous) vs ≡ value t.head
  pub current_target : balance_of (is_unslashed_participating current TIMELY_TARGET_FLAG_INDEX current) vs ≡ value t.current_target

abbrev pub raised_to : ℕ → Sums → Totals
raised_to increment t =
    record {
      active = max increment t.active;
      source = max increment t.source;
      target = max increment t.target;
      head = max increment t.head;
    }

-- t holds the totals, none of which leaves 64 bits
pub record TotalsOf (s : Settings) (current previous : ℕ) (vs : List Validator) (t : Totals) : Type 0 where
  pub active : get_total_balance s (get_active_validator_indices vs current) ≡ value t.active
  pub source : get_total_balance s (filter (is_unslashed_participating current TIMELY_SOURCE_FLAG_INDEX previous) vs) ≡ value t.source
  pub target : get_total_balance s (filter (is_unslashed_participating current TIMELY_TARGET_FLAG_INDEX previous) vs) ≡ value t.target
  pub head : get_total_balance s (filter (is_unslashed_participating current TIMELY_HEAD_FLAG_INDEX previous) vs) ≡ value t.head

-- What one pass over the opening registry finds.
use Rattle.std.specs.Prelude.{◌≡◌, ℕ, ◌+◌, ◌%◌, ◌^◌, Bool, cond, List, [], ◌∷◌, length, ◌==◌, ◌≢◌, nat_lt}
use Rattle.definitions.specs.declared.Settings.{Settings}
use Rattle.definitions.specs.Checked.{value, refused}
use Rattle.definitions.specs.declared.Refusal.TheVariants.{BadRecord, Overflow}
use Rattle.definitions.specs.Record.{Validator, decode}
use Rattle.definitions.specs.Refusals.{good_validator, good_registry}
use Rattle.definitions.specs.Rust.Phase0.Helpers.{get_active_validator_indices}
use Rattle.definitions.specs.Rust.Altair.Helpers.{TIMELY_SOURCE_FLAG_INDEX, TIMELY_TARGET_FLAG_INDEX, TIMELY_HEAD_FLAG_INDEX, is_unslashed_participating}
use Rattle.laws.specs.Cut.{eligible_now}
use Rattle.selection.specs.Keep.{Smallest}
use Rattle.exit_queue.specs.Queue.{Tracks, joined}
use Rattle.survey.specs.declared.Sums.{Sums}
use Rattle.survey.specs.declared.Overs.{Overs}
use Rattle.survey.specs.declared.Findings.{Findings}
use Rattle.survey.specs.Sums.{active_at, sums_of, balance_of}
use Rattle.definitions.specs.Lists.{every}

-- a plain sum: a number where `over` is 0, and else it has left 64 bits
pub record PlainSum (p : Validator → Bool) (vs : List Validator) (sum over : ℕ) : Type 0 where
  pub fits : over ≡ 0 → balance_of p vs ≡ value sum
  pub past : (over ≢ 0) → balance_of p vs ≡ refused Overflow

-- Everything that the steps ask of the whole registry. `kept` has the epochs since which those that wait do, those that become eligible in this close too
pub record Finds (s : Settings) (current previous : ℕ) (registry kept : List ℕ) (r : Findings) : Type 0 where
  pub tested : r.tested ≡ cond (good_registry registry) (value tt) (refused BadRecord)
  pub active : PlainSum (active_at current) (decode registry) r.sums.active r.over.active
  pub source : PlainSum (is_unslashed_participating current TIMELY_SOURCE_FLAG_INDEX previous) (decode registry) r.sums.source r.over.source
  pub target : PlainSum (is_unslashed_participating current TIMELY_TARGET_FLAG_INDEX previous) (decode registry) r.sums.target r.over.target
  pub head : PlainSum (is_unslashed_participating current TIMELY_HEAD_FLAG_INDEX previous) (decode registry) r.sums.head r.over.head
  pub current_target : PlainSum (is_unslashed_participating current TIMELY_TARGET_FLAG_INDEX current) (decode registry) r.sums.current_target r.over.current_target
  pub number : r.active ≡ length (get_active_validator_indices (decode registry) current)
  pub queue : Tracks 0 (decode registry) r.queue
  pub waiting : Smallest 64 (eligible_now s current (decode registry)) kept

-- With one more validator seen

unfoldable pub over_after : ℕ → ℕ → ℕ → ℕ
over_after over sum weight = cond (nat_lt (sum + weight) (2 ^ 64)) over 1

abbrev pub sums_after : Sums → Sums → Sums
sums_after t own =
    record {
      active = (t.active + own.active) % 2 ^ 64;
      source = (t.source + own.source) % 2 ^ 64;
      target = (t.target + own.target) % 2 ^ 64;
      head = (t.head + own.head) % 2 ^ 64;
      current_target = (t.current_target + own.current_target) % 2 ^ 64;
    }

abbrev pub overs_after : Overs → Sums → Sums → Overs
overs_after over t own =
    record {
      active = over_after over.active t.active own.active;
      source = over_after over.source t.source own.source;
      target = over_after over.target t.target own.target;
      head = over_after over.head t.head own.head;
      current_target = over_after over.current_target t.current_target own.current_target;
    }

unfoldable pub found_after : ℕ → ℕ → Findings → Validator → Findings
found_after current previous r v =
    record {
      tested = cond (good_validator v) r.tested (refused BadRecord);
      sums = sums_after r.sums (sums_of current previous v);
      over = overs_after r.over r.sums (sums_of current previous v);
      active = r.active + cond (active_at current v) 1 0;
      queue = joined r.queue v.exit_epoch;
    }

-- whether no sum has left 64 bits
unfoldable pub all_fit : Overs → Bool
all_fit over =
    every ((over.active == 0) ∷ (over.source == 0) ∷ (over.target == 0) ∷ (over.head == 0) ∷ (over.current_target == 0) ∷ [])

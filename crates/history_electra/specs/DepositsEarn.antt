-- "Deposits start earning", for every list of Electra's closes. Events.antt has premises and claim; here an event is a close by its own definition.
use Rattle.std.specs.Prelude.{Bool, List, map, ℕ, ◌-◌, ◌%◌, min}
use Rattle.definitions.specs.Checked.{Checked, value, bind, code_of, settle}
use Rattle.definitions.specs.Refusals.{after_tests}
use Rattle.definitions_electra.specs.declared.ElectraRules.{ElectraRules}
use Rattle.definitions_electra.specs.Loops.{fold_until_checked}
use Rattle.definitions_electra.specs.Record.{ElectraState, registry_of}
use Rattle.definitions_electra.specs.Document.Electra.EpochProcessing.{started, deposits_stop}
use Rattle.definitions_electra.specs.Evaluated.Electra.EpochProcessing.{queueing, process_deposit, close_up_to, process_epoch}
use Rattle.history_electra.specs.Events.{Event, Premises, Least, Claim}

-- the smallest churn limit that the settings allow: whatever the total active balance, `get_activation_exit_churn_limit` is not below
unfoldable pub smallest_churn : ElectraRules → ℕ
smallest_churn r =
    let least = r.electra.min_per_epoch_churn_limit_electra in
    min r.electra.max_per_epoch_activation_exit_churn_limit (least - least % r.settings.effective_balance_increment)

-- A close as it is called: what it goes by, what its tests say, and the record handed in
pub record Close : Type 0 where
  pub rules : ElectraRules
  pub tests : Checked (Unit {0})
  pub opening : ElectraState
  pub others_stay : Bool

-- the closed record, or the refusal
abbrev pub closed : Close → Checked ElectraState
closed c = after_tests c.tests (process_epoch c.rules c.opening)

-- next_deposit_index as pending deposits, the sixth step, comes to its end
unfoldable pub next_deposit : ElectraRules → ElectraState → Checked ℕ
next_deposit r st =
    bind (close_up_to 5 r st) (λ slashed.
    bind (queueing r slashed) (λ q.
    bind (fold_until_checked (deposits_stop r q) (process_deposit r q) (started (registry_of slashed)) slashed.pending_deposits) (λ p.
    value p.next_deposit_index)))

abbrev pub event : Close → Event
event c =
    record {
      opening = c.opening;
      returned = settle (closed c) c.opening;
      refusal = code_of (closed c);
      slots = c.rules.settings.slots_per_epoch;
      number = c.rules.electra.max_pending_deposits_per_epoch;
      churn = smallest_churn c.rules;
      moved = settle (next_deposit c.rules c.opening) 0;
      others_stay = c.others_stay;
    }

abbrev pub DepositsEarn : Type 0
DepositsEarn =
    (s p c : ℕ) (start : ElectraState) (closes : List Close) → let events = map event closes in
    Premises start events → Least s p c events → Claim s p c start events

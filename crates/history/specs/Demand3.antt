-- Demand 3: "For every list of whole closes, each as demand 2 gives it, refused ones included". Events.antt has premises and claim; here an event
-- is a whole close by its own definition, and the settings stay. 02, R-3: "demand 3 stands, whichever fork each close names", and with which pair.
use Rattle.std.specs.Prelude.{◌≡◌, Bool, List, map, ◌/◌, ◌≤◌, length, replicate}
use Rattle.definitions.specs.declared.Settings.{Settings}
use Rattle.definitions.specs.Record.{BeaconState, decode}
use Rattle.definitions.specs.Updates.{with_finality, with_validators, with_slashings}
use Rattle.definitions.specs.Close.{Call, Outcome, state_of, close}
use Rattle.history.specs.Events as events
use Rattle.history.specs.Events.{Event, Claim}

-- A close as it was called, "Roots and closing buffers are lent anew, with any contents and length", and as it came back
pub record Close : Type 0 where
  pub call : Call
  pub outcome : Outcome
  pub others_stay : Bool

-- the record that it returned: finality as answered, registry and slashings as in the closing buffers, roots as lent
abbrev pub returned_by : Call → Outcome → BeaconState
returned_by c out =
    with_finality out.finality (with_validators (decode out.closing_registry) (with_slashings out.closing_slashings (state_of c)))

abbrev pub event : Close → Event
event c =
    record {
      opening = state_of c.call;
      returned = returned_by c.call c.outcome;
      refusal = c.outcome.refusal;
      -- "The epoch of a close is slot / slots_per_epoch"
      epoch = c.call.finality.slot / c.call.rules.settings.slots_per_epoch;
      lookahead = c.call.rules.settings.max_seed_lookahead;
      -- "The smallest activation churn limit that the settings allow is min_per_epoch_churn_limit"
      churn = c.call.rules.settings.min_per_epoch_churn_limit;
      others_stay = c.others_stay;
    }

pub record Premises (s : Settings) (start : BeaconState) (closes : List Close) : Type 0 where
  -- "m, at least 1"
  pub churn : 1 ≤ s.min_per_epoch_churn_limit
  -- "Settings stay": the nineteen; fork and pair may be any at each close
  pub stay : map (λ c. c.call.rules.settings) closes ≡ replicate (length closes) s
  pub list : events.Premises start (map event closes)

-- a close of the definition
abbrev pub close_of : Bool × Call → Close
close_of c = record { call = c.1; outcome = close c.1; others_stay = c.0 }

-- "from any record"; after each refusal what others did stays or not
abbrev pub Demand3 : Type 0
Demand3 =
    (s : Settings) (start : BeaconState) (calls : List (Bool × Call)) → let closes = map close_of calls in
    Premises s start closes → Claim s.min_per_epoch_churn_limit start (map event closes)

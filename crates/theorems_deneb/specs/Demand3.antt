-- Document 03, F-1: "Demand 3 over lists in which each close names any fork: m, at least 1, is at most min_per_epoch_churn_limit of every close, and at
-- most max_per_epoch_activation_churn_limit of every Deneb close". history has premises and claim.
use Rattle.std.specs.Prelude.{Bool, List, map, ℕ, ◌/◌, min}
use Rattle.definitions.specs.Record.{BeaconState}
use Rattle.definitions.specs.Close.{state_of}
use Rattle.definitions_close.specs.FullClose.{FullOutcome}
use Rattle.definitions_deneb.specs.Calls.{DenebCall, as_bellatrix, deneb_close}
use Rattle.history.specs.Events.{Event, Least, Premises, Claim}
use Rattle.history.specs.Demand3.{returned_by, event}
use Rattle.theorems.specs.FullClose.ByNumber.{plain_outcome}
use Rattle.theorems.specs.StoreHistory.Demand3.{AnyClose, close_of}

pub data ForkClose : Type 0 where
  -- Altair's or Bellatrix's, with a store: whole, by steps, or a file on a shelf
  earlier : AnyClose → ForkClose
  deneb : DenebCall → ForkClose

-- a Deneb close as demand 3 sees it, with a reading of what stands if it was refused
abbrev pub deneb_event : Bool → DenebCall → FullOutcome → Event
deneb_event others_stay c o =
    let s = c.rules.settings in
    record {
      opening = state_of (as_bellatrix c).call;
      returned = returned_by (as_bellatrix c).call (plain_outcome o);
      refusal = o.refusal;
      epoch = c.finality.slot / s.slots_per_epoch;
      lookahead = s.max_seed_lookahead;
      -- "the smallest activation churn limit the settings allow"
      churn = min c.rules.max_per_epoch_activation_churn_limit s.min_per_epoch_churn_limit;
      others_stay = others_stay;
    }

abbrev pub event_of : Bool × ForkClose → Event
event_of (others_stay, earlier c) = event (close_of (others_stay, c))
event_of (others_stay, deneb c) = deneb_event others_stay c (deneb_close c)

-- settings may be any at each close: m is at least 1, and at most the limit of every accepted one
abbrev pub ForkDemand3 : Type 0
ForkDemand3 =
    (m : ℕ) (start : BeaconState) (calls : List (Bool × ForkClose)) → let events = map event_of calls in
    Least m events → Premises start events → Claim m start events

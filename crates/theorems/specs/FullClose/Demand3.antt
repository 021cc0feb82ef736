-- Demand 3 of full closes: history has premises and claim. What others do to the pair between two closes is free: a wrong one is refused.
use Rattle.std.specs.Prelude.{Bool, List, map}
use Rattle.definitions.specs.declared.Settings.{Settings}
use Rattle.definitions.specs.Record.{BeaconState}
use Rattle.definitions_close.specs.FullClose.{FullCall, FullOutcome, full_close}
use Rattle.history.specs.Events.{Claim}
use Rattle.history.specs.Demand3.{Close, event, Premises}
use Rattle.theorems.specs.FullClose.ByNumber.{plain_outcome}

-- a full close as demand 3 sees it: as it was called and as it came back, with a reading of what stands if it was refused
abbrev pub close_by : Bool → FullCall → FullOutcome → Close
close_by others_stay c o = record { call = c.call; outcome = plain_outcome o; others_stay = others_stay }

abbrev pub full_close_of : Bool × FullCall → Close
full_close_of c = close_by c.0 c.1 (full_close c.1)

abbrev pub FullDemand3 : Type 0
FullDemand3 =
    (s : Settings) (start : BeaconState) (calls : List (Bool × FullCall)) → let closes = map full_close_of calls in
    Premises s start closes → Claim s.min_per_epoch_churn_limit start (map event closes)

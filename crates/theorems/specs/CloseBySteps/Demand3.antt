-- 02, R-9: "demand 3 whatever exit orders come, hold provided that between the calls of one close nobody else changes what it was lent or handed
-- back, and the next close of that record begins only after it has ended." history, Events.antt, has premises and claim.
use Rattle.std.specs.Prelude.{◌≡◌, Bool, List, map, ℕ}
use Rattle.definitions.specs.Record.{BeaconState}
use Rattle.definitions.specs.Close.{Outcome}
use Rattle.definitions_close.specs.FullClose.{FullCall}
use Rattle.history.specs.Events.{Least, Premises, Claim}
use Rattle.history.specs.Demand3.{Close, event}
use Rattle.theorems.specs.FullClose.Demand3.{full_close_of}
use Rattle.theorems.specs.CloseBySteps.Desk.{Desk, Act, acts, NotBegun}

-- a close by steps: any calls, in turn or not, turned away or not, with any orders; it has ended, refused at any call or by the ninth
pub record BySteps : Type 0 where
  pub whole : FullCall
  pub desk : Desk
  pub begins : NotBegun whole desk
  pub list : List Act
  pub ended : (acts whole desk list).running.done ≡ 9

-- what came of it, from the desk after the last call
abbrev pub outcome_from : Desk → Outcome
outcome_from last =
    let answer = last.running.answer in
    record {
      refusal = answer.refusal;
      finality = answer.finality;
      raised = answer.raised;
      closing_registry = last.closing_registry;
      closing_slashings = last.closing_slashings;
    }

-- a whole close, or one by steps; the reading of what stands if it was refused beside it
pub data AnyClose : Type 0 where
  wholly : FullCall → AnyClose
  by_steps : BySteps → AnyClose

abbrev pub close_of : Bool × AnyClose → Close
close_of (others_stay, wholly c) = full_close_of (others_stay, c)
close_of (others_stay, by_steps b) =
    record { call = b.whole.call; outcome = outcome_from (acts b.whole b.desk b.list); others_stay = others_stay }

-- m at most the smallest churn limit that the settings of an accepted close allow
abbrev pub Demand3BySteps : Type 0
Demand3BySteps =
    (m : ℕ) (start : BeaconState) (calls : List (Bool × AnyClose)) → let events = map event (map close_of calls) in
    Least m events → Premises start events → Claim m start events

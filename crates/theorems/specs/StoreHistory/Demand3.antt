-- Demand 3 of closes with stores, whole or by steps, and of files on shelves; the store may be any at each close and so may grow between them:
-- history has premises and claim. 02, R-10: "A run of closes that crosses entries takes m as the smallest among those used."
use Rattle.std.specs.Prelude.{Bool, List, map, ◌≡◌, ℕ}
use Rattle.definitions.specs.declared.Rules.{Rules}
use Rattle.definitions.specs.Record.{BeaconState}
use Rattle.definitions.specs.Checked.{settle}
use Rattle.definitions_close.specs.FullClose.{FullOutcome}
use Rattle.definitions_close.specs.Store.{no_rules}
use Rattle.definitions_close.specs.StoreClose.{StoreCall, call_by, rules_for, store_close}
use Rattle.history.specs.Events.{Least, Premises, Claim}
use Rattle.history.specs.Demand3.{Close, event}
use Rattle.theorems.specs.FullClose.Demand3.{close_by}
use Rattle.theorems.specs.CloseBySteps.Desk.{Desk, Act}
use Rattle.theorems.specs.CloseBySteps.Demand3.{outcome_from}
use Rattle.theorems.specs.StoreHistory.Steps.{acts, NotBegun}
use Rattle.theorems.specs.Shelf.Files.{OnShelf, Defined, whole, outcome_of}

-- those of the entry that a close uses; an accepted one uses one
abbrev pub rules_used : StoreCall → Rules
rules_used c = settle (rules_for c) no_rules

-- a close with a store as demand 3 sees it: by the rules used, with a reading of what stands if it was refused
abbrev pub close_with : Bool → StoreCall → FullOutcome → Close
close_with others_stay c o = close_by others_stay (call_by c (rules_used c)) o

abbrev pub store_close_of : Bool × StoreCall → Close
store_close_of c = close_with c.0 c.1 (store_close c.1)

-- a close by steps, as it was called and as it came back: any calls, in turn or not, with any orders; it has ended, refused at any call or by the ninth
pub record StoreBySteps : Type 0 where
  pub whole : StoreCall
  pub desk : Desk
  pub begins : NotBegun whole desk
  pub list : List Act
  pub last : Desk
  pub came : last ≡ acts whole desk list
  pub ended : last.running.done ≡ 9

pub data AnyClose : Type 0 where
  wholly : StoreCall → AnyClose
  by_steps : StoreBySteps → AnyClose
  -- a file on a shelf, whose part holds the record: Shelf/Files.antt
  on_shelf : (f : OnShelf) → Defined f → AnyClose

abbrev pub close_of : Bool × AnyClose → Close
close_of (others_stay, wholly c) = store_close_of (others_stay, c)
close_of (others_stay, by_steps b) =
    record { call = (call_by b.whole (rules_used b.whole)).call; outcome = outcome_from b.last; others_stay = others_stay }
close_of (others_stay, on_shelf f d) = close_by others_stay (whole f) (outcome_of f)

-- m is at least 1 and at most min_per_epoch_churn_limit of every entry that an accepted close uses: `Least`
abbrev pub StoreDemand3 : Type 0
StoreDemand3 =
    (m : ℕ) (start : BeaconState) (calls : List (Bool × AnyClose)) → let events = map event (map close_of calls) in
    Least m events → Premises start events → Claim m start events

-- 02, R-14, of runs in which closes go by stores, whole or by steps, or are files on shelves, and exit orders are carried out with a store:
-- history, ExitEpochs.antt, has premises and claim, ExitCalls/ the calls by rules.
use Rattle.std.specs.Prelude.{List, map, ◌≡◌}
use Rattle.definitions.specs.declared.Rules.{Rules}
use Rattle.definitions.specs.Record.{Validator}
use Rattle.definitions.specs.Checked.{settle}
use Rattle.definitions_close.specs.FullClose.{FullOutcome}
use Rattle.definitions_close.specs.Orders.{NinthOutcome}
use Rattle.definitions_close.specs.Store.{no_rules}
use Rattle.definitions_close.specs.StoreClose.{StoreCall, call_by, store_close}
use Rattle.definitions_close.specs.StoreSteps.{StoreNinthCall, ninth_by, ninth_rules, store_carry_out}
use Rattle.theorems.specs.CloseBySteps.Desk.{Desk, Act, Closed}
use Rattle.history.specs.ExitEpochs.{Event, Premises, Claim}
use Rattle.theorems.specs.ExitCalls.ExitCalls as calls
use Rattle.theorems.specs.StoreHistory.Steps.{acts, NotBegun}
use Rattle.theorems.specs.StoreHistory.Demand3.{rules_used}
use Rattle.theorems.specs.Shelf.Files as shelf
use Rattle.theorems.specs.Shelf.Files.{OnShelf, whole, outcome_of}

-- as it was called and as it came back
pub data Called : Type 0 where
  -- a whole close
  storing : StoreCall → FullOutcome → Called
  -- a close by steps, up to its ninth call: any calls, in turn or not, with whatever orders, from one desk to another
  stepping : StoreCall → Desk → List Act → Desk → Called
  -- exit orders carried out, by the ninth call
  carrying : StoreNinthCall → NinthOutcome → Called
  -- a file on a shelf
  shelving : OnShelf → Called
  -- any other call of a run
  other : calls.Called → Called

-- those of the entry that a ninth call uses; one that carries an order out uses one
abbrev pub ninth_rules_used : StoreNinthCall → Rules
ninth_rules_used c = settle (ninth_rules c) no_rules

-- the churn limit met is that of the entry used
abbrev pub event : Called → Event
event (storing c o) = calls.close_event (call_by c (rules_used c)) o.closing_registry o.refusal
event (stepping c d list after) = calls.close_event (call_by c (rules_used c)) after.closing_registry after.running.answer.refusal
event (carrying c o) = calls.event (calls.carrying (ninth_by c (ninth_rules_used c)) o)
event (shelving f) = calls.close_event (whole f) (outcome_of f).closing_registry f.answer
event (other c) = calls.event c

-- it came back as its definition says
abbrev pub Defined : Called → Type 0
Defined (storing c o) = o ≡ store_close c
Defined (stepping c d list after) = NotBegun c d × (after ≡ acts c d list) × Closed after
Defined (carrying c o) = o ≡ store_carry_out c
Defined (shelving f) = shelf.Defined f
Defined (other c) = calls.Defined c

abbrev pub StoreExitCalls : Type 0
StoreExitCalls =
    (start : List Validator) (calls : List ((c : Called) × Defined c)) → let events = map (λ c. event c.0) calls in
    Premises start events → Claim start events

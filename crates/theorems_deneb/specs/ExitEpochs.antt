-- Document 03, F-1: "R-14 over such lists: the churn limit of exits." history, ExitEpochs.antt, has premises and claim.
use Rattle.std.specs.Prelude.{◌≡◌, List, map}
use Rattle.definitions.specs.Record.{Validator}
use Rattle.definitions_close.specs.FullClose.{FullOutcome}
use Rattle.definitions_deneb.specs.Calls.{DenebCall, as_bellatrix, deneb_close}
use Rattle.history.specs.ExitEpochs.{Event, Premises, Claim}
use Rattle.theorems.specs.ExitCalls.ExitCalls.{close_event}
use Rattle.theorems.specs.StoreHistory.ExitEpochs as store

-- as it was called and as it came back
pub data Called : Type 0 where
  -- any call of a run before Deneb, exits of one validator among them
  earlier : store.Called → Called
  deneb : DenebCall → FullOutcome → Called

abbrev pub event : Called → Event
event (earlier c) = store.event c
event (deneb c o) = close_event (as_bellatrix c) o.closing_registry o.refusal

-- it came back as its definition says
abbrev pub Defined : Called → Type 0
Defined (earlier c) = store.Defined c
Defined (deneb c o) = o ≡ deneb_close c

abbrev pub ForkExitCalls : Type 0
ForkExitCalls =
    (start : List Validator) (calls : List ((c : Called) × Defined c)) → let events = map (λ c. event c.0) calls in
    Premises start events → Claim start events

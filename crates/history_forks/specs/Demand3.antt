-- Document 03, F-3: "Demand 3 over lists of closes in which each names any fork, Electra's included, a validator being followed through the forks".
-- history has premises and claim; an Electra close is an event of the same kind. Words in quotation marks are the document's.
use Rattle.std.specs.Prelude.{◌≡◌, ◌≢◌, Bool, false, List, [], ◌++◌, map, ℕ, ◌+◌, ◌*◌, ◌/◌, ◌^◌, ◌<◌, T, eqb, length, take}
use Rattle.definitions.specs.Lists.{filter}
use Rattle.definitions.specs.Record.{BeaconState, decode, FAR_FUTURE_EPOCH as FAR}
use Rattle.definitions_electra_close.specs.Close.{ElectraCall, electra_state_of, ElectraOutcome, electra_close}
use Rattle.history.specs.Events.{activation, waits, Event, accepts, accepted, standing, Least, Premises, Claim}
use Rattle.theorems_deneb.specs.Demand3 as deneb

-- an Electra close returned finality as answered, and of the closing registry as many validators as answered
abbrev pub returned_by : ElectraCall → ElectraOutcome → BeaconState
returned_by c o =
    record {
      finality = o.answer.finality;
      validators = decode (take (10 * o.answer.validators) o.closing_registry);
      slashings = o.closing_slashings;
      block_roots = c.roots;
    }

-- an Electra close as demand 3 sees it, with a reading of what stands if it was refused. The record is Altair's part: "to deposits, consolidations,
-- credentials and queues", which are beside it, others may do "anything" between closes.
abbrev pub electra_event : Bool → ElectraCall → ElectraOutcome → Event
electra_event others_stay c o =
    let s = c.rules.settings in
    record {
      opening = (electra_state_of c).altair;
      returned = returned_by c o;
      refusal = o.answer.refusal;
      epoch = c.finality.slot / s.slots_per_epoch;
      lookahead = s.max_seed_lookahead;
      -- it has no limit, and no register holds so many: m is not held down
      churn = 2 ^ 64;
      others_stay = others_stay;
    }

pub data AnyClose : Type 0 where
  -- Altair's to Deneb's
  earlier : deneb.ForkClose → AnyClose
  -- Electra's, and so Fulu's: as it was called, as it came back, and that this is its definition's
  electra : (c : ElectraCall) (o : ElectraOutcome) → o ≡ electra_close c → AnyClose

abbrev pub event_of : Bool × AnyClose → Event
event_of (others_stay, earlier c) = deneb.event_of (others_stay, c)
event_of (others_stay, electra c o came) = electra_event others_stay c o

-- an Electra close that is accepted
abbrev pub accepted_electra : Bool × AnyClose → Bool
accepted_electra (others_stay, earlier c) = false
accepted_electra (others_stay, electra c o came) = accepts (electra_event others_stay c o)

-- "whoever waits is activated by the next accepted Electra close": a validator that waits at the start or after any close has its activation epoch
-- once an Electra close is accepted, and from then on. One of the closes since then gave it. `event` and `is_electra` say what a close is.
abbrev pub NextElectra : {C : Type 0} → (C → Event) → (C → Bool) → BeaconState → List C → Type 0
NextElectra {C} event is_electra start closes =
    let after : List C → BeaconState = λ cs. standing start (map event cs) in
    (before since later rest : List C) (i : ℕ) → closes ≡ before ++ since ++ later ++ rest
    → T (waits (after before) i) → filter is_electra since ≢ []
    → let x = activation (after (before ++ since)) i in let then = after (before ++ since ++ later) in
    (x ≢ FAR) × (filter (λ e. eqb (e.epoch + 1 + e.lookahead) x) (accepted (map event since)) ≢ [])
    × (i < length then.validators) × (activation then i ≡ x)

pub record ForkClaim (m : ℕ) (start : BeaconState) (closes : List (Bool × AnyClose)) : Type 0 where
  -- floor(k / m) + 1 further closes of whatever fork, "and finality as before"
  pub demand3 : Claim m start (map event_of closes)
  pub next : NextElectra event_of accepted_electra start closes

-- settings may be any at each close: m is at least 1, and at most the limit of every accepted close that has one
abbrev pub Demand3 : Type 0
Demand3 =
    (m : ℕ) (start : BeaconState) (closes : List (Bool × AnyClose)) → let events = map event_of closes in
    Least m events → Premises start events → ForkClaim m start closes

-- 02, R-14: "Show, over any run of accepted closes and exit orders", as they are called once R-4, R-8 and R-9 have landed. history,
-- ExitEpochs.antt, has events, premises and claim. Words in quotation marks are the request's.
use Rattle.std.specs.Prelude.{◌≡◌, cond, ◌&&◌, not, List, [], ◌∷◌, map, ℕ, eqb}
use Rattle.definitions.specs.declared.Settings.{Settings}
use Rattle.definitions.specs.declared.ExitQueue.{ExitQueue}
use Rattle.definitions.specs.declared.QueueAnswer.{QueueAnswer}
use Rattle.definitions.specs.Lists.{all}
use Rattle.definitions.specs.Record.{Validator, decode, FAR_FUTURE_EPOCH as FAR}
use Rattle.definitions.specs.Checked.{code_of}
use Rattle.definitions.specs.Rules.{settings_under}
use Rattle.definitions.specs.Rust.Phase0.Helpers.{get_validator_churn_limit, initiate_validator_exit}
use Rattle.definitions_close.specs.FullClose.{FullCall, settings_of, FullOutcome, full_close}
use Rattle.definitions_close.specs.QueueCalls.{exit_queue_tests, QueueCloses}
use Rattle.definitions_close.specs.Orders.{NinthCall, NinthOutcome, orders_in, answers_to, closing_validators, ninth_tests, carry_out}
use Rattle.theorems.specs.CloseBySteps.Desk.{Desk, Act, acts, Closed, NotBegun}
use Rattle.history.specs.ExitEpochs.{Event, exit_epoch, Premises, Claim}

-- as it was called and as it came back
pub data Called : Type 0 where
  -- a whole close
  closing : FullCall → FullOutcome → Called
  -- a close by steps, up to its ninth call: any calls, in turn or not, with whatever orders; the steps are done, or it is refused
  stepping : FullCall → Desk → List Act → Called
  -- exit orders carried out, by the ninth call
  carrying : NinthCall → NinthOutcome → Called
  -- the exit of one validator: settings, the state's slot, its number, the pair and the register lent; the answer, and the register afterwards
  exiting : Settings → ℕ → ℕ → ExitQueue → List ℕ → QueueAnswer → List ℕ → Called

-- the register that a close, whole or by steps, is handed, and the churn limit met, which stays while it runs
abbrev pub close_event : FullCall → List ℕ → ℕ → Event
close_event c after refusal =
    record {
      opening = decode c.call.registry;
      returned = decode after;
      refusal = refusal;
      limits = get_validator_churn_limit (settings_of c) c.call.finality.slot (decode c.call.registry) ∷ [];
    }

-- the answers to the orders that the ninth call tries: in its turn, once its tests have passed
unfoldable pub tried_by : NinthCall → List ℕ
tried_by c =
    let s = settings_under c.rules in
    let answers = answers_to s c.running.answer.finality.slot c.period (closing_validators c) (orders_in c.running.orders c.orders) in
    cond (eqb c.running.done 8 && eqb (code_of (ninth_tests c)) 0) answers []

-- the limit of the register that the ninth call is lent, which stays too, where an order is carried out under it
unfoldable pub orders_meet : NinthCall → List ℕ
orders_meet c =
    let limit = get_validator_churn_limit (settings_under c.rules) c.running.answer.finality.slot (closing_validators c) in
    cond (all (λ answer. not (eqb answer 0)) (tried_by c)) [] (limit ∷ [])

-- an exit meets the limit where there is one to make
abbrev pub event : Called → Event
event (closing c o) = close_event c o.closing_registry o.refusal
event (stepping c d list) = let after = acts c d list in close_event c after.closing_registry after.running.answer.refusal
event (carrying c o) =
    record {
      opening = decode c.closing_registry;
      returned = decode o.closing_registry;
      refusal = o.answer.refusal;
      limits = orders_meet c;
    }
event (exiting s slot i queue registry r after) =
    record {
      opening = decode registry;
      returned = decode after;
      refusal = r.refusal;
      limits = cond (eqb (exit_epoch (decode registry) i) FAR) (get_validator_churn_limit s slot (decode registry) ∷ []) [];
    }

-- it came back as its definition says
abbrev pub Defined : Called → Type 0
Defined (closing c o) = o ≡ full_close c
Defined (stepping c d list) = NotBegun c d × Closed (acts c d list)
Defined (carrying c o) = o ≡ carry_out c
Defined (exiting s slot i queue registry r after) =
    QueueCloses (exit_queue_tests s slot i queue registry) (initiate_validator_exit s slot (decode registry) i) queue registry registry after r

-- "over any run"
abbrev pub ExitCalls : Type 0
ExitCalls =
    (start : List Validator) (calls : List ((c : Called) × Defined c)) → let events = map (λ c. event c.0) calls in
    Premises start events → Claim start events

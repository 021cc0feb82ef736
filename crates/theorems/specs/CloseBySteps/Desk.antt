-- 02, R-9: "Equality with the whole close .. hold provided that between the calls of one close nobody else changes what it was lent or handed
-- back". Words in quotation marks are the request's.
use Rattle.std.specs.Prelude.{◌≡◌, Bool, cond, ◌&&◌, List, [], ◌∷◌, ◌++◌, ℕ, ◌^◌, ◌%◌, ◌<◌, eqb, length, drop}
use Rattle.definitions.specs.declared.FullAnswer.{FullAnswer}
use Rattle.definitions.specs.declared.Settings.{Settings}
use Rattle.definitions.specs.Record.{encode, decode}
use Rattle.definitions.specs.ExitQueue.{queue_of}
use Rattle.definitions_close.specs.FullClose.{FullCall, FullOutcome, settings_of, full_close}
use Rattle.definitions_close.specs.declared.Running.{Running}
use Rattle.definitions_close.specs.CloseBySteps.{StepCall, StepOutcome, close_step, says_ended}
use Rattle.definitions_close.specs.Orders.{Order, orders_in, OrderCall, OrderOutcome, take_order, NinthCall, NinthOutcome, carry_out, carried_out, answers_to, room, untried}

-- What a desk has in hand between the calls of one close, besides the opening, which stays lent
pub record Desk : Type 0 where
  pub running : Running
  pub closing_registry : List ℕ
  pub closing_slashings : List ℕ
  pub amounts : List ℕ
  pub orders : List ℕ

-- a call of a step, by its number, of an order, or the ninth, with the period and a list for the answers; in turn or not
pub data Act : Type 0 where
  stepping : ℕ → Act
  ordering : Order → Act
  carrying : ℕ → List ℕ → Act

-- what the next call is handed: the opening as it was lent, and all else as it was handed back
abbrev pub lent : FullCall → Desk → FullCall
lent c d =
    record {
      call = record {
        rules = c.call.rules;
        finality = c.call.finality;
        registry = c.call.registry;
        slashings = c.call.slashings;
        roots = c.call.roots;
        closing_registry = d.closing_registry;
        closing_slashings = d.closing_slashings;
      };
      queue = c.queue;
      amounts = d.amounts;
    }

abbrev pub step_call : FullCall → Desk → ℕ → StepCall
step_call c d k = record { number = k; running = d.running; whole = lent c d }

abbrev pub order_call : Desk → Order → OrderCall
order_call d o = record { running = d.running; order = o; orders = d.orders }

abbrev pub ninth_call : FullCall → Desk → ℕ → List ℕ → NinthCall
ninth_call c d period answers =
    record {
      rules = c.call.rules;
      period = period;
      running = d.running;
      closing_registry = d.closing_registry;
      orders = d.orders;
      answers = answers;
    }

-- what is in hand after a step, after an order and after the ninth call
abbrev pub after_step : Desk → StepOutcome → Desk
after_step d out =
    record {
      running = out.answer.running;
      closing_registry = out.closing_registry;
      closing_slashings = out.closing_slashings;
      amounts = out.amounts;
      orders = d.orders;
    }

abbrev pub after_order : Desk → OrderOutcome → Desk
after_order d out =
    record {
      running = out.answer.running;
      closing_registry = d.closing_registry;
      closing_slashings = d.closing_slashings;
      amounts = d.amounts;
      orders = out.orders;
    }

abbrev pub after_ninth : Desk → NinthOutcome → Desk
after_ninth d out =
    record {
      running = out.answer.running;
      closing_registry = out.closing_registry;
      closing_slashings = d.closing_slashings;
      amounts = d.amounts;
      orders = d.orders;
    }

unfoldable pub act : FullCall → Desk → Act → Desk
act c d (stepping k) = after_step d (close_step (step_call c d k))
act c d (ordering o) = after_order d (take_order (order_call d o))
act c d (carrying period answers) = after_ninth d (carry_out (ninth_call c d period answers))

unfoldable pub acts : FullCall → Desk → List Act → Desk
acts c d [] = d
acts c d (a ∷ rest) = acts c (act c d a) rest

-- before the first call: the buffers have any contents
pub record NotBegun (c : FullCall) (d : Desk) : Type 0 where
  pub done : d.running.done ≡ 0
  pub closing_registry : d.closing_registry ≡ c.call.closing_registry
  pub closing_slashings : d.closing_slashings ≡ c.call.closing_slashings
  pub amounts : d.amounts ≡ c.amounts

-- "giving what the whole close gives, amounts too"

abbrev pub answer_of : FullOutcome → FullAnswer
answer_of o = record { refusal = o.refusal; finality = o.finality; queue = o.queue; raised = o.raised; test = o.test }

pub record Gives (o : FullOutcome) (d : Desk) : Type 0 where
  pub answer : d.running.answer ≡ answer_of o
  pub closing_registry : d.closing_registry ≡ o.closing_registry
  pub closing_slashings : d.closing_slashings ≡ o.closing_slashings
  pub amounts : d.amounts ≡ o.amounts
  -- it goes on to the ninth call where it is accepted, and else has ended
  pub done : d.running.done ≡ cond (eqb o.refusal 0) 8 9

-- all eight steps are done, or the close is refused
pub data Closed (d : Desk) : Type 0 where
  eight_done : d.running.done ≡ 8 → Closed d
  was_refused : d.running.done ≡ 9 → (d.running.answer.refusal ≡ 0 → ⊥) → Closed d

-- the orders that were taken, as they arrived, over calls that go from desk to desk by `next`
abbrev pub is_taken : OrderOutcome → Bool
is_taken out = eqb out.answer.refusal 0 && eqb out.answer.ended 0

unfoldable pub arrived_by : (Desk → Act → Desk) → Desk → List Act → List Order
arrived_by next d [] = []
arrived_by next d (stepping k ∷ rest) = arrived_by next (next d (stepping k)) rest
arrived_by next d (carrying period answers ∷ rest) = arrived_by next (next d (carrying period answers)) rest
arrived_by next d (ordering o ∷ rest) =
    let later = arrived_by next (next d (ordering o)) rest in
    cond (is_taken (take_order (order_call d o))) (o ∷ later) later

abbrev pub arrived : FullCall → Desk → List Act → List Order
arrived c d list = arrived_by (act c) d list

-- whatever calls are made, in turn or not, turned away or not: what the whole close gives, and the orders that arrived are in the list, also
-- "where the close is refused, the orders stay in it untried"
pub record GivesWhole (o : FullOutcome) (os : List Order) (d : Desk) : Type 0 where
  pub gives : Gives o d
  pub orders : orders_in d.running.orders d.orders ≡ os

abbrev pub AnyCalls : Type 0
AnyCalls =
    (c : FullCall) (d : Desk) → NotBegun c d → (list : List Act) → let last = acts c d list in
    Closed last → GivesWhole (full_close c) (arrived c d list) last

-- "carried out by a ninth call in order of arrival"

-- what the ninth call is lent besides: a list of two numbers an order, a period below 2^48, and a second list as many orders long
pub record NinthLent (d : Desk) (p : ℕ) (xs : List ℕ) : Type 0 where
  pub pairs : length d.orders % 2 ≡ 0
  pub answers : length xs ≡ room d.orders
  pub period : p < 2 ^ 48

-- "nine leave that with the orders carried out": the answer but for the pair, the registry, and each order's answer
pub record Carries (c : FullCall) (os : List Order) (period : ℕ) (answers : List ℕ) (out : NinthOutcome) : Type 0 where
  pub refusal : out.answer.refusal ≡ 0
  pub done : out.answer.running.done ≡ 9
  -- "The list is empty once carried out"
  pub orders : out.answer.running.orders ≡ 0
  pub answer : let o = full_close c in
      let after = carried_out (settings_of c) o.finality.slot period (decode o.closing_registry) os in
      (out.answer.running.answer ≡ record { refusal = 0; finality = o.finality; queue = queue_of after; raised = o.raised; test = o.test })
      × (out.closing_registry ≡ encode after)
      × (out.answers ≡ answers_to (settings_of c) o.finality.slot period (decode o.closing_registry) os ++ drop (length os) answers)

-- the ninth call once eight steps are done, whatever calls were made before it
abbrev pub NineCalls : Type 0
NineCalls =
    (c : FullCall) (d : Desk) → NotBegun c d → (list : List Act) → (period : ℕ) (answers : List ℕ)
    → let last = acts c d list in let out = carry_out (ninth_call c last period answers) in
    (last.running.done ≡ 8 → NinthLent d period answers → Carries c (arrived c d list) period answers out)
    -- it says so where the close has ended, "the orders stay in it untried"
    × (last.running.done ≡ 9 → out ≡ untried (says_ended last.running) (ninth_call c last period answers))

-- and where orders have been carried out, they were those that arrived, on what the whole close gives
pub record CarriedOut (o : FullOutcome) (s : Settings) (os : List Order) (d : Desk) : Type 0 where
  pub period : ℕ
  pub accepted : o.refusal ≡ 0
  pub answer : let after = carried_out s o.finality.slot period (decode o.closing_registry) os in
      (d.running.answer ≡ record { refusal = 0; finality = o.finality; queue = queue_of after; raised = o.raised; test = o.test })
      × (d.closing_registry ≡ encode after)
  pub closing_slashings : d.closing_slashings ≡ o.closing_slashings
  pub amounts : d.amounts ≡ o.amounts
  -- "The list is empty once carried out"
  pub orders : d.running.orders ≡ 0

abbrev pub AfterNine : Type 0
AfterNine =
    (c : FullCall) (d : Desk) → NotBegun c d → (list : List Act) → let last = acts c d list in
    last.running.done ≡ 9 → last.running.answer.refusal ≡ 0 → CarriedOut (full_close c) (settings_of c) (arrived c d list) last

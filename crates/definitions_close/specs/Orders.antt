-- 02, R-9: "Exit orders, each a validator number and a starting epoch, are taken meanwhile into a lent list, empty at the start, and carried out
-- by a ninth call in order of arrival, as if entered then." Words in quotation marks are the request's.
use Rattle.std.specs.Prelude.{Bool, cond, ◌&&◌, List, [], ◌∷◌, ◌++◌, ℕ, zero, suc, ◌+◌, ◌*◌, ◌/◌, ◌%◌, leb, ltb, eqb, length, get_or, drop, set}
use Rattle.definitions.specs.declared.Settings.{Settings}
use Rattle.definitions.specs.declared.Rules.{Rules}
use Rattle.definitions.specs.Record.{Validator, nobody, encode, decode, FAR_FUTURE_EPOCH}
use Rattle.definitions.specs.Checked.{Checked, value, refused, bind, code_of, settle}
use Rattle.definitions.specs.declared.Refusal.TheVariants.{BadShape, FullList, NoExit, TooEarly}
use Rattle.definitions.specs.Refusals.{in_order, length_is, is_small, registry_shaped, good_finality, good_registry}
use Rattle.definitions.specs.Rules.{settings_under, rules_shaped, good_rules}
use Rattle.definitions.specs.ExitQueue.{queue_of, queue_test}
use Rattle.definitions.specs.Rust.Phase0.Helpers.{is_active_validator, get_current_epoch, initiate_validator_exit}
use Rattle.definitions_close.specs.declared.Running.{Running}
use Rattle.definitions_close.specs.declared.RunningAnswer.{RunningAnswer}
use Rattle.definitions_close.specs.CloseBySteps.{says_ended, has_ended, turned_away}

pub record Order : Type 0 where
  pub validator : ℕ
  pub start : ℕ

-- the lent list: two numbers an order, of which the first `count` orders are in use
unfoldable pub orders_in : ℕ → List ℕ → List Order
orders_in zero list = []
orders_in (suc count) list = record { validator = get_or list 0 0; start = get_or list 1 0 } ∷ orders_in count (drop 2 list)

-- how many orders long
abbrev pub room : List ℕ → ℕ
room list = length list / 2

abbrev pub orders_shaped : ℕ → List ℕ → Bool
orders_shaped count list = eqb (length list % 2) 0 && leb count (room list)

-- Taking one

pub record OrderCall : Type 0 where
  pub running : Running
  pub order : Order
  pub orders : List ℕ

pub record OrderOutcome : Type 0 where
  pub answer : RunningAnswer
  pub orders : List ℕ

-- "taken meanwhile": after the first step and before the end
abbrev pub takes_orders : Running → Bool
takes_orders running = leb 1 running.done && leb running.done 8

abbrev pub with_orders : ℕ → Running → Running
with_orders count running = record { done = running.done; answer = running.answer; orders = count }

unfoldable pub appended : OrderCall → OrderOutcome
appended c =
    let count = c.running.orders in
    record {
      answer = record { refusal = 0; ended = 0; running = with_orders (count + 1) c.running };
      orders = set (set c.orders (2 * count) c.order.validator) (2 * count + 1) c.order.start;
    }

-- "11, the list is full. Tested 11 on arrival"
unfoldable pub take_order : OrderCall → OrderOutcome
take_order c =
    let running = c.running in
    cond (has_ended running) (record { answer = says_ended running; orders = c.orders })
    (cond (takes_orders running && orders_shaped running.orders c.orders)
    (cond (ltb running.orders (room c.orders)) (appended c) (record { answer = turned_away FullList running; orders = c.orders }))
    (record { answer = turned_away BadShape running; orders = c.orders }))

-- Carrying them out

-- "9, an unknown, inactive or exiting validator"
unfoldable pub may_exit : ℕ → List Validator → ℕ → Bool
may_exit current_epoch vs index =
    let v = get_or vs index nobody in
    ltb index (length vs) && is_active_validator v current_epoch && eqb v.exit_epoch FAR_FUTURE_EPOCH

-- "10, a starting epoch still ahead, or current epoch below activation + period"
unfoldable pub is_due : ℕ → ℕ → Validator → ℕ → Bool
is_due current_epoch period v start = leb start current_epoch && leb (v.activation_epoch + period) current_epoch

-- process_voluntary_exit of phase0/beacon-chain.md: "The tests are those of phase0 voluntary exits without the signature"; "then 9, 10, 5 when
-- carried out"
unfoldable pub process_voluntary_exit : Settings → ℕ → ℕ → List Validator → Order → Checked (List Validator)
process_voluntary_exit s state_slot period vs o =
    let current_epoch = get_current_epoch s state_slot in
    let index = o.validator in
    cond (may_exit current_epoch vs index)
    (cond (is_due current_epoch period (get_or vs index nobody) o.start) (initiate_validator_exit s state_slot vs index) (refused TooEarly))
    (refused NoExit)

-- "A refused order changes nothing and the next is tried"
unfoldable pub carried_out : Settings → ℕ → ℕ → List Validator → List Order → List Validator
carried_out s state_slot period vs [] = vs
carried_out s state_slot period vs (o ∷ os) = carried_out s state_slot period (settle (process_voluntary_exit s state_slot period vs o) vs) os

-- "each tried order's answer, 0 if carried out"
unfoldable pub answers_to : Settings → ℕ → ℕ → List Validator → List Order → List ℕ
answers_to s state_slot period vs [] = []
answers_to s state_slot period vs (o ∷ os) =
    let tried = process_voluntary_exit s state_slot period vs o in
    code_of tried ∷ answers_to s state_slot period (settle tried vs) os

-- The ninth call

pub record NinthCall : Type 0 where
  pub rules : Rules
  -- "shard_committee_period .. is lent to the ninth call alone"
  pub period : ℕ
  pub running : Running
  pub closing_registry : List ℕ
  pub orders : List ℕ
  -- "A second lent list, as many orders long"
  pub answers : List ℕ

abbrev pub closing_validators : NinthCall → List Validator
closing_validators c = decode c.closing_registry

-- as a later step's, of what it is lent, and 2 where the period is 2^48 or more
unfoldable pub ninth_tests : NinthCall → Checked (Unit {0})
ninth_tests c =
    let lists = orders_shaped c.running.orders c.orders ∷ length_is (room c.orders) c.answers ∷ [] in
    let shaped = rules_shaped c.rules ∷ registry_shaped c.closing_registry ∷ lists in
    let recorded = good_finality c.running.answer.finality ∷ good_registry c.closing_registry ∷ [] in
    bind (in_order shaped (good_rules c.rules ∷ is_small c.period ∷ []) recorded) (λ _.
    queue_test c.running.answer.queue (closing_validators c))

pub record NinthOutcome : Type 0 where
  pub answer : RunningAnswer
  pub closing_registry : List ℕ
  pub answers : List ℕ

abbrev pub untried : RunningAnswer → NinthCall → NinthOutcome
untried answer c = record { answer = answer; closing_registry = c.closing_registry; answers = c.answers }

-- ended, with the pair of the register as it is then; "The list is empty once carried out"
abbrev pub ended_with : List Validator → Running → Running
ended_with vs running =
    let answer = running.answer in
    record {
      done = 9;
      answer = record {
        refusal = answer.refusal;
        finality = answer.finality;
        queue = queue_of vs;
        raised = answer.raised;
        test = answer.test;
      };
      orders = 0;
    }

-- "in order of arrival"; "other places untouched"
unfoldable pub carries_out : NinthCall → NinthOutcome
carries_out c =
    let s = settings_under c.rules in
    let state_slot = c.running.answer.finality.slot in
    let count = c.running.orders in
    let orders = orders_in count c.orders in
    let after = carried_out s state_slot c.period (closing_validators c) orders in
    record {
      answer = record { refusal = 0; ended = 0; running = ended_with after c.running };
      closing_registry = encode after;
      answers = answers_to s state_slot c.period (closing_validators c) orders ++ drop count c.answers;
    }

unfoldable pub ninth_in_turn : NinthCall → Checked (Unit {0}) → NinthOutcome
ninth_in_turn c (refused r) = untried (turned_away r c.running) c
ninth_in_turn c (value u) = carries_out c

unfoldable pub carry_out : NinthCall → NinthOutcome
carry_out c =
    cond (has_ended c.running) (untried (says_ended c.running) c)
    (cond (eqb c.running.done 8) (ninth_in_turn c (ninth_tests c)) (untried (turned_away BadShape c.running) c))

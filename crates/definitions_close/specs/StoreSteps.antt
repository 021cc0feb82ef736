-- A close by steps with a store in place of settings, fork and pair: 02, R-9 with R-10. Each call is lent the store, reads the rules for the epoch
-- of the record that it finds, and is then the call with these rules. Words in quotation marks are the requests'.
use Rattle.std.specs.Prelude.{cond, List, [], ◌∷◌, ℕ, eqb}
use Rattle.definitions.specs.declared.Rules.{Rules}
use Rattle.definitions.specs.Checked.{number_of, Checked, value, refused}
use Rattle.definitions.specs.declared.Refusal.{Refusal}
use Rattle.definitions.specs.declared.Refusal.TheVariants.{BadShape}
use Rattle.definitions.specs.Refusals.{in_order, after_tests, length_is, is_small, registry_shaped}
use Rattle.definitions_close.specs.declared.Running.{Running}
use Rattle.definitions_close.specs.CloseBySteps.{says_ended, has_ended, turned_away, StepCall, is_first, in_turn, ended_by, StepOutcome, unwritten, close_step}
use Rattle.definitions_close.specs.Orders.{NinthCall, NinthOutcome, orders_shaped, room, untried, carry_out}
use Rattle.definitions_close.specs.Store.{Store, entries, store_shaped, good_entries, no_rules}
use Rattle.definitions_close.specs.StoreClose.{StoreCall, call_by, rules_at_slot, rules_for}

-- The first eight calls

pub record StoreStepCall : Type 0 where
  pub number : ℕ
  pub running : Running
  pub whole : StoreCall

-- the same call with rules
abbrev pub step_by : StoreStepCall → Rules → StepCall
step_by c rules = record { number = c.number; running = c.running; whole = call_by c.whole rules }

-- where none are read: what is asked of it asks no rules
abbrev pub step_of : StoreStepCall → StepCall
step_of c = step_by c no_rules

-- the record so far as if it were an opening, as `so_far` of CloseBySteps
abbrev pub store_so_far : Running → StoreCall → StoreCall
store_so_far running c =
    record {
      store = c.store;
      finality = running.answer.finality;
      queue = running.answer.queue;
      registry = c.closing_registry;
      slashings = c.closing_slashings;
      roots = c.roots;
      closing_registry = c.registry;
      closing_slashings = c.slashings;
      amounts = c.amounts;
    }

unfoldable pub store_found : StoreStepCall → StoreCall
store_found c = cond (is_first (step_of c)) c.whole (store_so_far c.running c.whole)

-- 1, 2 and 13 come before 4: at the first call they end the close, and "After the first step, a refusal tested before 4 turns away the call alone"
unfoldable pub step_refused : StoreStepCall → Refusal → StepOutcome
step_refused c r =
    let running = cond (is_first (step_of c)) (ended_by r (step_of c)) c.running in
    unwritten (record { refusal = number_of r; ended = 0; running = running }) (step_of c)

unfoldable pub store_step_by : StoreStepCall → Checked Rules → StepOutcome
store_step_by c (value rules) = close_step (step_by c rules)
store_step_by c (refused r) = step_refused c r

unfoldable pub store_step : StoreStepCall → StepOutcome
store_step c =
    cond (has_ended c.running) (unwritten (says_ended c.running) (step_of c))
    (cond (in_turn (step_of c)) (store_step_by c (rules_for (store_found c))) (unwritten (turned_away BadShape c.running) (step_of c)))

-- The ninth call

pub record StoreNinthCall : Type 0 where
  pub store : Store
  pub period : ℕ
  pub running : Running
  pub closing_registry : List ℕ
  pub orders : List ℕ
  pub answers : List ℕ

abbrev pub ninth_by : StoreNinthCall → Rules → NinthCall
ninth_by c rules =
    record {
      rules = rules;
      period = c.period;
      running = c.running;
      closing_registry = c.closing_registry;
      orders = c.orders;
      answers = c.answers;
    }

abbrev pub ninth_of : StoreNinthCall → NinthCall
ninth_of c = ninth_by c no_rules

-- 1 of all that is lent, 2 of every entry and of the period, then 13
unfoldable pub ninth_rules : StoreNinthCall → Checked Rules
ninth_rules c =
    let es = entries c.store in
    let lists = orders_shaped c.running.orders c.orders ∷ length_is (room c.orders) c.answers ∷ [] in
    let shaped = store_shaped c.store ∷ registry_shaped c.closing_registry ∷ lists in
    after_tests (in_order shaped (good_entries es ∷ is_small c.period ∷ []) []) (rules_at_slot c.running.answer.finality.slot es)

unfoldable pub carry_by : StoreNinthCall → Checked Rules → NinthOutcome
carry_by c (value rules) = carry_out (ninth_by c rules)
carry_by c (refused r) = untried (turned_away r c.running) (ninth_of c)

unfoldable pub store_carry_out : StoreNinthCall → NinthOutcome
store_carry_out c =
    cond (has_ended c.running) (untried (says_ended c.running) (ninth_of c))
    (cond (eqb c.running.done 8) (carry_by c (ninth_rules c)) (untried (turned_away BadShape c.running) (ninth_of c)))

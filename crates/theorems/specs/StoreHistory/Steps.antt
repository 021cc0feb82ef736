-- A close by steps with a store, which is part of what it was lent and stays. 02, R-9: "A close may be run one step a call, giving what the whole
-- close gives, amounts too." CloseBySteps/Desk.antt has the same by rules.
use Rattle.std.specs.Prelude.{◌≡◌, List, [], ◌∷◌, ℕ}
use Rattle.definitions.specs.declared.Rules.{Rules}
use Rattle.definitions.specs.Checked.{value}
use Rattle.definitions.specs.Rules.{settings_under}
use Rattle.definitions_close.specs.CloseBySteps.{says_ended}
use Rattle.definitions_close.specs.Orders.{Order, take_order, untried}
use Rattle.definitions_close.specs.Store.{no_rules}
use Rattle.definitions_close.specs.StoreClose.{StoreCall, call_by, rules_for, store_close}
use Rattle.definitions_close.specs.StoreSteps.{StoreStepCall, store_step, StoreNinthCall, ninth_of, store_carry_out}
use Rattle.theorems.specs.CloseBySteps.Desk as desk
use Rattle.theorems.specs.CloseBySteps.Desk.{Desk, Act, stepping, ordering, carrying, order_call, after_step, after_order, after_ninth, arrived_by, Closed, GivesWhole, NinthLent, Carries, CarriedOut}

-- what the next call is handed: store and opening as they were lent, and all else as it was handed back
abbrev pub lent : StoreCall → Desk → StoreCall
lent c d =
    record {
      store = c.store;
      finality = c.finality;
      queue = c.queue;
      registry = c.registry;
      slashings = c.slashings;
      roots = c.roots;
      closing_registry = d.closing_registry;
      closing_slashings = d.closing_slashings;
      amounts = d.amounts;
    }

abbrev pub step_call : StoreCall → Desk → ℕ → StoreStepCall
step_call c d k = record { number = k; running = d.running; whole = lent c d }

abbrev pub ninth_call : StoreCall → Desk → ℕ → List ℕ → StoreNinthCall
ninth_call c d period answers =
    record {
      store = c.store;
      period = period;
      running = d.running;
      closing_registry = d.closing_registry;
      orders = d.orders;
      answers = answers;
    }

unfoldable pub act : StoreCall → Desk → Act → Desk
act c d (stepping k) = after_step d (store_step (step_call c d k))
act c d (ordering o) = after_order d (take_order (order_call d o))
act c d (carrying period answers) = after_ninth d (store_carry_out (ninth_call c d period answers))

unfoldable pub acts : StoreCall → Desk → List Act → Desk
acts c d [] = d
acts c d (a ∷ rest) = acts c (act c d a) rest

-- no rules are asked
abbrev pub NotBegun : StoreCall → Desk → Type 0
NotBegun c d = desk.NotBegun (call_by c no_rules) d

-- the orders that were taken, as they arrived
abbrev pub arrived : StoreCall → Desk → List Act → List Order
arrived c d list = arrived_by (act c) d list

-- whatever calls are made, in turn or not, turned away or not; refused by 1, 2 and 13 too
abbrev pub StoreAnyCalls : Type 0
StoreAnyCalls =
    (c : StoreCall) (d : Desk) → NotBegun c d → (list : List Act) → let last = acts c d list in
    Closed last → GivesWhole (store_close c) (arrived c d list) last

-- "carried out by a ninth call in order of arrival": by the rules of the close; it says so where the close has ended, and the orders stay untried
abbrev pub StoreNineCalls : Type 0
StoreNineCalls =
    (c : StoreCall) (d : Desk) → NotBegun c d → (list : List Act) → (period : ℕ) (answers : List ℕ)
    → let last = acts c d list in let out = store_carry_out (ninth_call c last period answers) in
    (last.running.done ≡ 8 → NinthLent d period answers
    → (rules : Rules) × (rules_for c ≡ value rules) × Carries (call_by c rules) (arrived c d list) period answers out)
    × (last.running.done ≡ 9 → out ≡ untried (says_ended last.running) (ninth_of (ninth_call c last period answers)))

-- and where orders have been carried out, they were those that arrived
abbrev pub StoreAfterNine : Type 0
StoreAfterNine =
    (c : StoreCall) (d : Desk) → NotBegun c d → (list : List Act) → let last = acts c d list in
    last.running.done ≡ 9 → last.running.answer.refusal ≡ 0
    → (rules : Rules) × (rules_for c ≡ value rules) × CarriedOut (store_close c) (settings_under rules) (arrived c d list) last

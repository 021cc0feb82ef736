-- A close by steps with a store and its ninth call, checked by computing: two orders are carried out and one is not, the premises of R-14 are met,
-- and its bound is met exactly.
use mathlib.Core.List.{List, [], ◌∷◌, ◌++◌, map}
use mathlib.Core.Path.{◌≡◌, refl}
use Prim.Native.Nat.{ℕ, max}
use lib.ListN.{replicate}
use Rattle.definitions.specs.declared.Bellatrix.{Bellatrix}
use Rattle.definitions.specs.Lists.{maximum, every}
use Rattle.definitions.specs.Record.{Validator, BeaconState, encode}
use Rattle.definitions.specs.Raised.{none_raised}
use Rattle.definitions.specs.ExitQueue.{queue_of, is_queue_of, queue_test}
use Rattle.definitions_close.specs.Amounts.{booked, booked_by_rewards, taken_from, taken_by_slashings, nines}
use Rattle.definitions_close.specs.FinalizingTest.{last_test, finalizing_test}
use Rattle.definitions_close.specs.FullClose.{limited_full_tests}
use Rattle.definitions_close.specs.CloseBySteps.{found, step_tests, stepped, eights, amounts_by, stepped_amounts, ended_by, goes_on, running_after, unwritten, step_in_turn, close_step}
use Rattle.definitions_close.specs.Orders.{orders_in, appended, take_order, may_exit, is_due, process_voluntary_exit, carried_out, answers_to, NinthOutcome, ninth_tests, carries_out, ninth_in_turn, carry_out}
use Rattle.definitions_close.specs.Store.{Store, entries_from, numbers_of, last_of, keeps, follows, in_sequence, store_shaped, good_entries, entry_for, rules_at, of_last}
use Rattle.definitions_close.specs.StoreClose.{StoreCall, store_call_shaped, rules_at_slot, rules_for}
use Rattle.definitions_close.specs.StoreSteps.{store_found, store_step_by, store_step, ninth_rules, carry_by, store_carry_out}
use Rattle.history.proofs.Computing.{computing}
use Rattle.history.proofs.Induction.{All, all-met}
use Rattle.history.proofs.Small.{settings_with, validator, record_of}
use Rattle.theorems.specs.CloseBySteps.Desk.{Desk, Act, stepping, ordering, carrying, eight_done}
use Rattle.history.specs.ExitEpochs.{Event, Others, after, standing, met, holding, Premises, Claim}
use Rattle.history.proofs.ExitEpochs.Runs.{follow}
use Rattle.theorems.specs.ExitCalls.ExitCalls.{tried_by, orders_meet}
use Rattle.theorems.specs.StoreHistory.Steps.{act, acts, ninth_call}
use Rattle.theorems.specs.StoreHistory.Demand3.{StoreBySteps}
use Rattle.theorems.specs.StoreHistory.ExitEpochs as called
use Rattle.theorems.specs.StoreHistory.ExitEpochs.{Called, Defined, event}
use Rattle.theorems.proofs.StoreHistory.ExitEpochs.{store_exit_calls}

-- from epoch 2 on Altair with a churn limit of 1
abbrev store : Store
store =
    let pair : Bellatrix = record { inactivity_penalty_quotient_bellatrix = 1; proportional_slashing_multiplier_bellatrix = 3 } in
    record { numbers = numbers_of (record { start = 2; rules = record { settings = settings_with 1; fork = 0; bellatrix = pair } }); count = 1 }

-- three are active
abbrev three : Validator → Validator → Validator → List Validator
three a b c = a ∷ b ∷ c ∷ []

abbrev opening : BeaconState
opening = record_of 15 3 1 2 1 (three (validator 0 0 7 7) (validator 0 0 7 7) (validator 0 0 7 7))

abbrev whole : StoreCall
whole =
    record {
      store = store;
      finality = opening.finality;
      queue = queue_of opening.validators;
      registry = encode opening.validators;
      slashings = opening.slashings;
      roots = opening.block_roots;
      closing_registry = replicate 30 7;
      closing_slashings = 7 ∷ [];
      amounts = replicate 27 7;
    }

abbrev desk : Desk
desk =
    record {
      running = record {
        done = 0;
        answer = record { refusal = 0; finality = opening.finality; queue = record { last_epoch = 0; number = 0 }; raised = none_raised; test = 0 };
        orders = 0;
      };
      closing_registry = replicate 30 7;
      closing_slashings = 7 ∷ [];
      amounts = replicate 27 7;
      orders = replicate 6 0;
    }

abbrev exit : ℕ → Act
exit number = ordering (record { validator = number; start = 3 })

-- orders for 0, for 2, and for 0 again
abbrev list : List Act
list = stepping 1 ∷ exit 0 ∷ stepping 2 ∷ stepping 3 ∷ exit 2 ∷ stepping 4 ∷ stepping 5 ∷ stepping 6 ∷ exit 0 ∷ stepping 7 ∷ stepping 8 ∷ []

unfoldable pub eighth : Desk
eighth = acts whole desk list

unfoldable pub ninth : NinthOutcome
ninth = store_carry_out (ninth_call whole eighth 3 (7 ∷ 7 ∷ 7 ∷ []))

unfoldable carried : Unit {0}
unfolding computing queue_of is_queue_of queue_test booked booked_by_rewards taken_from taken_by_slashings nines last_test finalizing_test limited_full_tests found step_tests stepped eights amounts_by stepped_amounts ended_by goes_on running_after unwritten step_in_turn close_step orders_in appended take_order may_exit is_due process_voluntary_exit carried_out answers_to ninth_tests carries_out ninth_in_turn carry_out entries_from last_of keeps follows in_sequence store_shaped good_entries entry_for rules_at of_last store_call_shaped rules_at_slot rules_for store_found store_step_by store_step ninth_rules carry_by store_carry_out act acts tried_by orders_meet every
carried = tt

unfoldable pub run : List ((c : Called) × Defined c)
unfolding eighth ninth carried
run =
    (called.stepping whole desk list eighth, (record { done = refl; closing_registry = refl; closing_slashings = refl; amounts = refl }, refl, eight_done refl)) ∷
    (called.carrying (ninth_call whole eighth 3 (7 ∷ 7 ∷ 7 ∷ [])) ninth, refl) ∷
    []

abbrev events : List Event
events = map (λ c. event c.0) run

handed : All (λ r e. Others r e.opening) after opening.validators events
unfolding run eighth ninth carried
handed = (
  follow opening.validators opening.validators (refl, (refl, (refl, tt))),
  (follow (three (validator 0 0 7 0) (validator 0 0 7 0) (validator 0 0 7 0)) (three (validator 0 0 7 0) (validator 0 0 7 0) (validator 0 0 7 0)) (refl, (refl, (refl, tt))), tt),
)

pub premises : Premises opening.validators events
unfolding run eighth ninth carried
premises = record { handed = all-met (λ r e. Others r e.opening) after events opening.validators handed; churn = tt }

-- one leaves at epoch 3 + 1 + 4, the other at the next; who leaves already is turned away by 9
pub record Exactly : Type 0 where
  pub answers : ninth.answers ≡ 0 ∷ 0 ∷ 9 ∷ []
  pub limits : met events ≡ 1 ∷ 1 ∷ []
  pub before : holding 8 opening.validators ≡ 0
  pub eight : holding 8 (standing opening.validators events) ≡ max (holding 8 opening.validators) (maximum 0 (met events))
  pub nine : holding 9 (standing opening.validators events) ≡ 1

pub exactly : Exactly
unfolding run eighth ninth carried
exactly = record { answers = refl; limits = refl; before = refl; eight = refl; nine = refl }

-- and what demand 3 asks of a close by steps, and the ninth among its calls
pub by-steps : StoreBySteps
unfolding carried
by-steps =
    record {
      whole = whole;
      desk = desk;
      begins = record { done = refl; closing_registry = refl; closing_slashings = refl; amounts = refl };
      list = list ++ (carrying 3 (7 ∷ 7 ∷ 7 ∷ []) ∷ []);
      last = acts whole desk (list ++ (carrying 3 (7 ∷ 7 ∷ 7 ∷ []) ∷ []));
      came = refl;
      ended = refl;
    }

pub claimed : Claim opening.validators events
claimed = store_exit_calls opening.validators run premises

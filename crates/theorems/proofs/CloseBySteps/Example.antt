-- A close by steps, by computing: two validators at epoch 0, a churn limit of 1, and four orders that arrive between the calls; a step out of
-- turn and a ninth call before its turn and with too long a period are turned away alone. What the theorems ask of a close by steps can be met.
use mathlib.Core.Path.{◌≡◌, refl}
use mathlib.Core.List.{List, [], ◌∷◌, ◌++◌}
use Prim.Native.Nat.{ℕ, ◌^◌}
use lib.ListN.{replicate}
use Rattle.definitions.specs.declared.Settings.{Settings}
use Rattle.definitions.specs.declared.Checkpoint.{Checkpoint}
use Rattle.definitions.specs.declared.Finality.{Finality}
use Rattle.definitions.specs.Record.{FAR_FUTURE_EPOCH}
use Rattle.definitions.specs.Rules.{altair_rules}
use Rattle.definitions.specs.Raised.{none_raised}
use Rattle.definitions.specs.ExitQueue.{queue_of, is_queue_of, queue_test}
use Rattle.definitions_close.specs.Amounts.{booked, booked_by_rewards, taken_from, taken_by_slashings, nines}
use Rattle.definitions_close.specs.FinalizingTest.{last_test, finalizing_test}
use Rattle.definitions_close.specs.FullClose.{FullCall, limited_full_tests}
use Rattle.definitions_close.specs.CloseBySteps.{found, step_tests, stepped, eights, amounts_by, stepped_amounts, ended_by, goes_on, running_after, unwritten, step_in_turn, close_step}
use Rattle.definitions_close.specs.Orders.{orders_in, appended, take_order, may_exit, is_due, process_voluntary_exit, carried_out, answers_to, NinthOutcome, ninth_tests, carries_out, ninth_in_turn, carry_out}
use Rattle.history.proofs.Computing.{computing}
use Rattle.theorems.specs.CloseBySteps.Desk.{Desk, Act, stepping, ordering, carrying, act, acts, ninth_call}
use Rattle.theorems.specs.CloseBySteps.Demand3.{BySteps}

abbrev settings : Settings
settings =
    record {
      slots_per_epoch = 1;
      slots_per_historical_root = 1;
      epochs_per_slashings_vector = 1;
      effective_balance_increment = 1;
      max_effective_balance = 32;
      hysteresis_quotient = 1;
      hysteresis_downward_multiplier = 0;
      hysteresis_upward_multiplier = 0;
      base_reward_factor = 1;
      min_epochs_to_inactivity_penalty = 4;
      inactivity_score_bias = 1;
      inactivity_score_recovery_rate = 1;
      inactivity_penalty_quotient_altair = 1;
      proportional_slashing_multiplier_altair = 0;
      max_seed_lookahead = 4;
      min_validator_withdrawability_delay = 10;
      ejection_balance = 0;
      min_per_epoch_churn_limit = 1;
      churn_limit_quotient = 100;
    }

-- active since genesis, with this exit and withdrawable epoch
abbrev validator : ℕ → ℕ → List ℕ
validator exit withdrawable = 32 ∷ 0 ∷ 0 ∷ 0 ∷ exit ∷ withdrawable ∷ 32 ∷ 0 ∷ 0 ∷ 0 ∷ []

abbrev register : List ℕ
register = validator FAR_FUTURE_EPOCH FAR_FUTURE_EPOCH ++ validator FAR_FUTURE_EPOCH FAR_FUTURE_EPOCH

abbrev finality : Finality
finality =
    let at : Checkpoint = record { epoch = 0; root = replicate 32 0 } in
    record { slot = 0; justification_bits = 0; previous_justified_checkpoint = at; current_justified_checkpoint = at; finalized_checkpoint = at }

abbrev whole : FullCall
whole =
    record {
      call = record {
        rules = altair_rules settings;
        finality = finality;
        registry = register;
        slashings = 0 ∷ [];
        roots = replicate 32 0;
        closing_registry = replicate 20 0;
        closing_slashings = 9 ∷ [];
      };
      queue = record { last_epoch = 0; number = 0 };
      amounts = replicate 18 9;
    }

-- nothing is begun: what stands in the close so far, but that no call is done, is not read
abbrev desk : Desk
desk =
    record {
      running = record {
        done = 0;
        answer = record { refusal = 0; finality = finality; queue = record { last_epoch = 0; number = 0 }; raised = none_raised; test = 0 };
        orders = 3;
      };
      closing_registry = replicate 20 0;
      closing_slashings = 9 ∷ [];
      amounts = replicate 18 9;
      orders = replicate 8 0;
    }

abbrev exit : ℕ → ℕ → Act
exit validator start = ordering (record { validator = validator; start = start })

-- validator 0; an unknown one; validator 1; validator 0 again
abbrev list : List Act
list =
    exit 1 0 ∷ stepping 1 ∷ exit 0 0 ∷ stepping 3 ∷ stepping 2 ∷ stepping 3 ∷ carrying 0 (8 ∷ 8 ∷ 8 ∷ 8 ∷ []) ∷ exit 7 0 ∷ stepping 4 ∷ stepping 5 ∷ exit 1 0 ∷ stepping 6 ∷ stepping 7 ∷ stepping 8 ∷ exit 0 0 ∷ carrying (2 ^ 48) (8 ∷ 8 ∷ 8 ∷ 8 ∷ []) ∷ []

abbrev eighth : Desk
eighth = acts whole desk list

abbrev ninth : NinthOutcome
ninth = carry_out (ninth_call whole eighth 0 (8 ∷ 8 ∷ 8 ∷ 8 ∷ []))

abbrev all : List Act
all = list ++ (carrying 0 (8 ∷ 8 ∷ 8 ∷ 8 ∷ []) ∷ exit 1 0 ∷ stepping 8 ∷ [])

record Figures : Type 0 where
  -- the order before the first call was turned away, and four are in the list
  count : eighth.running.orders ≡ 4
  amounts : eighth.amounts ≡ replicate 18 0
  done : eighth.running.done ≡ 8
  -- one leaves at epoch 5, the next at 6
  register : ninth.closing_registry ≡ validator 5 15 ++ validator 6 16
  answers : ninth.answers ≡ 0 ∷ 9 ∷ 0 ∷ 9 ∷ []
  queue : ninth.answer.running.answer.queue ≡ record { last_epoch = 6; number = 1 }
  ended : (acts whole desk all).running.done ≡ 9
  same : (acts whole desk all).closing_registry ≡ ninth.closing_registry

figures : Figures
unfolding computing queue_of is_queue_of queue_test booked booked_by_rewards taken_from taken_by_slashings nines last_test finalizing_test limited_full_tests found step_tests stepped eights amounts_by stepped_amounts ended_by goes_on running_after unwritten step_in_turn close_step orders_in appended take_order may_exit is_due process_voluntary_exit carried_out answers_to ninth_tests carries_out ninth_in_turn carry_out act acts
figures = record { count = refl; amounts = refl; done = refl; register = refl; answers = refl; queue = refl; ended = refl; same = refl }

pub example : BySteps
example =
    record {
      whole = whole;
      desk = desk;
      begins = record { done = refl; closing_registry = refl; closing_slashings = refl; amounts = refl };
      list = all;
      ended = figures.ended;
    }

-- Figures of exit orders and of the pair's test, by computing. Mainnet, slot 9631: the last of epoch 300; shard_committee_period 256, churn limit 4.
use mathlib.Core.Path.{◌≡◌, refl}
use mathlib.Core.List.{List, [], ◌∷◌, map}
use Prim.Native.Nat.{ℕ}
use lib.ListN.{replicate}
use Rattle.definitions.specs.declared.Checkpoint.{Checkpoint}
use Rattle.definitions.specs.Lists.{filter, range, maximum}
use Rattle.definitions.specs.Record.{Validator, FAR_FUTURE_EPOCH}
use Rattle.definitions.specs.Checked.{value, refused, code_of, bind, add64}
use Rattle.definitions.specs.declared.Refusal.TheVariants.{WrongQueue}
use Rattle.definitions.specs.Mainnet.{mainnet}
use Rattle.definitions.specs.ExitQueue.{queue_of, is_queue_of, queue_test}
use Rattle.definitions.specs.Rust.Phase0.Helpers.{is_active_validator, compute_epoch_at_slot, get_current_epoch, compute_activation_exit_epoch, get_active_validator_indices, get_validator_churn_limit, exit_queue_epoch, initiate_validator_exit}
use Rattle.definitions_close.specs.declared.Running.{Running}
use Rattle.definitions_close.specs.Orders.{Order, OrderCall, may_exit, is_due, process_voluntary_exit, carried_out, answers_to, appended, take_order}

abbrev slot : ℕ
slot = 9_631

-- active from this epoch on, with this exit epoch
abbrev validator : ℕ → ℕ → Validator
validator activation exit =
    record {
      effective_balance = 32_000_000_000;
      slashed = 0;
      activation_eligibility_epoch = 0;
      activation_epoch = activation;
      exit_epoch = exit;
      withdrawable_epoch = FAR_FUTURE_EPOCH;
      balance = 32_000_000_000;
      previous_epoch_participation = 0;
      current_epoch_participation = 0;
      inactivity_score = 0;
    }

abbrev five : List Validator
five = replicate 5 (validator 0 FAR_FUTURE_EPOCH)

abbrev order : ℕ → ℕ → Order
order index start = record { validator = index; start = start }

-- the number of an order's answer, of one validator that is active from this epoch on
abbrev answer : ℕ → ℕ → ℕ
answer activation start = code_of (process_voluntary_exit mainnet slot 256 (validator activation FAR_FUTURE_EPOCH ∷ []) (order 0 start))

-- one for each, and the first one's again
abbrev orders : List Order
orders = order 0 0 ∷ order 0 0 ∷ order 1 0 ∷ order 2 0 ∷ order 3 0 ∷ order 4 300 ∷ []

abbrev checkpoint : Checkpoint
checkpoint = record { epoch = 299; root = replicate 32 0 }

-- three steps are done, and one order is in the list
abbrev running : Running
running =
    record {
      done = 3;
      answer = record {
        refusal = 0;
        finality = record {
          slot = slot;
          justification_bits = 0;
          previous_justified_checkpoint = checkpoint;
          current_justified_checkpoint = checkpoint;
          finalized_checkpoint = checkpoint;
        };
        queue = record { last_epoch = 0; number = 0 };
        raised = record { active = 0; previous = 0; current = 0 };
        test = 0;
      };
      orders = 1;
    }

abbrev lent : List ℕ → OrderCall
lent list = record { running = running; order = order 8 9; orders = list }

pub record Figures : Type 0 where
  -- "a starting epoch still ahead"
  pub start-ahead : answer 0 301 ≡ 10
  pub start-now : answer 0 300 ≡ 0
  -- "or current epoch below activation + period"
  pub one_epoch_early : answer 45 0 ≡ 10
  pub exactly-due : answer 44 0 ≡ 0
  -- "an unknown, inactive or exiting validator"
  pub not_active : answer 301 0 ≡ 9
  -- each order sees the exits before it: the second for one validator is 9, and the fifth to leave goes an epoch later
  pub answers : answers_to mainnet slot 256 five orders ≡ 0 ∷ 9 ∷ 0 ∷ 0 ∷ 0 ∷ 0 ∷ []
  pub exits : map (λ v. v.exit_epoch) (carried_out mainnet slot 256 five orders) ≡ 305 ∷ 305 ∷ 305 ∷ 305 ∷ 306 ∷ []
  -- "11, the list is full"; where there is room it is appended
  pub full : (take_order (lent (1 ∷ 2 ∷ []))).answer.refusal ≡ 11
  pub full-stays : (take_order (lent (1 ∷ 2 ∷ []))).orders ≡ 1 ∷ 2 ∷ []
  pub taken : (take_order (lent (1 ∷ 2 ∷ 3 ∷ 4 ∷ []))).orders ≡ 1 ∷ 2 ∷ 8 ∷ 9 ∷ []
  -- 8 where the number alone, or the epoch alone, is not that of the register
  pub true_pair : queue_test (record { last_epoch = 9; number = 1 }) (validator 0 9 ∷ []) ≡ value tt
  pub other-number : queue_test (record { last_epoch = 9; number = 2 }) (validator 0 9 ∷ []) ≡ refused WrongQueue
  pub other-epoch : queue_test (record { last_epoch = 8; number = 1 }) (validator 0 9 ∷ []) ≡ refused WrongQueue

pub figures : Figures
unfolding filter range maximum bind add64 queue_of is_queue_of queue_test is_active_validator compute_epoch_at_slot get_current_epoch compute_activation_exit_epoch get_active_validator_indices get_validator_churn_limit exit_queue_epoch initiate_validator_exit may_exit is_due process_voluntary_exit carried_out answers_to appended take_order
figures =
    record {
      start-ahead = refl;
      start-now = refl;
      one_epoch_early = refl;
      exactly-due = refl;
      not_active = refl;
      answers = refl;
      exits = refl;
      full = refl;
      full-stays = refl;
      taken = refl;
      true_pair = refl;
      other-number = refl;
      other-epoch = refl;
    }

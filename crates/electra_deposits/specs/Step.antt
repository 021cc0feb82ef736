-- The step by lent lists: what the loop goes by, what is left after it, and what the buffers hold then.
use Rattle.std.specs.Prelude.{◌≡◌, true, List, [], ◌++◌, ℕ, ◌+◌, ◌*◌, ◌/◌, length, take, drop}
use Rattle.definitions.specs.Lists.{range}
use Rattle.definitions.specs.Record.{encode, decode}
use Rattle.definitions.specs.Checked.{Checked, value, refused, bind, number_of}
use Rattle.definitions.specs.declared.Refusal.{Refusal}
use Rattle.definitions_electra.specs.declared.ElectraRules.{ElectraRules}
use Rattle.definitions_electra.specs.declared.DepositNumbers.{DepositNumbers}
use Rattle.definitions_electra.specs.declared.DepositsAnswer.{DepositsAnswer}
use Rattle.definitions_electra.specs.declared.PendingDeposit.{PendingDeposit}
use Rattle.definitions_electra.specs.Loops.{fold_until_checked}
use Rattle.definitions_electra.specs.Record.{Registry, ElectraState, decode_deposits, encode_deposits}
use Rattle.definitions_electra.specs.Calls.{lent_finality, no_churn, lent_state, over}
use Rattle.definitions_electra.specs.Document.Electra.EpochProcessing.{Queueing, Processing, started, deposits_stop}
use Rattle.definitions_electra.specs.Evaluated.Electra.EpochProcessing.{process_deposit, queueing, left_to_consume}
use Rattle.electra_deposits.specs.declared.adding.NewNumbers.{NewNumbers}
use Rattle.electra_deposits.specs.declared.Deposited.{Deposited}
use Rattle.electra_deposits.specs.declared.QueueNumbers.{QueueNumbers}
use Rattle.electra_deposits.specs.Alone.{Running, Deposits}
use Rattle.electra_deposits.specs.Room.{keyed, opening, rules_by, joined, Added}
use Rattle.electra_deposits.specs.Written.{closing_queue, Queued}

-- What the loop goes by

abbrev pub numbers_by : ℕ → Queueing → QueueNumbers
numbers_by most q =
    record {
      next_epoch = q.next_epoch;
      available = q.available;
      finalized_slot = q.finalized_slot;
      most = most;
      bridge_open = q.bridge_open;
    }

-- what a new validator is made by
abbrev pub new_of : ElectraRules → NewNumbers
new_of r =
    record {
      increment = r.settings.effective_balance_increment;
      most = r.electra.min_activation_balance;
      most_compounding = r.electra.max_effective_balance_electra;
    }

-- as much of the state as it is worked out of
abbrev pub lent_for : ℕ → ℕ → DepositNumbers → List ℕ → ElectraState
lent_for state_slot finalized_epoch numbers registry = lent_state (lent_finality state_slot finalized_epoch) (decode registry) [] [] no_churn numbers [] []

-- What is lent

abbrev pub lent_registry : List ℕ → List ℕ → Registry
lent_registry registry compounding = record { validators = decode registry; pubkeys = range 0 (length (decode registry)); compounding = compounding }

-- lengths and keys, as the tests leave them
pub record Lent (registry compounding deposits closing_registry closing_compounding places : List ℕ) : Type 0 where
  pub tens : length registry ≡ 10 * (length registry / 10)
  pub credentials : length compounding ≡ length registry / 10
  pub fives : length deposits ≡ 5 * (length deposits / 5)
  pub keys : keyed (length registry / 10) deposits ≡ true
  pub room : length closing_registry ≡ 10 * length closing_compounding
  pub room_too : length closing_compounding ≡ length registry / 10 + length deposits / 5
  pub table : length places ≡ length deposits / 5

-- The loop

unfoldable pub text_by : ElectraRules → Queueing → Registry → List PendingDeposit → Checked Processing
text_by r q reg ds = fold_until_checked (deposits_stop r q) (process_deposit r q) (started reg) ds

-- the loop over the opening's validators, at the front of a buffer
pub record Fronted (m : Checked Running) (long : ℕ) (xs₀ xs : List ℕ) (r : Checked Deposited) : Type 0 where
  pub front : List ℕ
  pub is-long : length front ≡ long
  pub is : xs ≡ over front xs₀
  pub deposits : Deposits m front r

-- After it

pub record Left : Type 0 where
  pub registry : Registry
  pub to_consume : ℕ
  pub queue : List PendingDeposit

abbrev pub queue_after : Processing → List PendingDeposit → List PendingDeposit
queue_after p ds = drop p.next_deposit_index ds ++ p.deposits_to_postpone

unfoldable pub left_by : ElectraRules → Queueing → Registry → List PendingDeposit → Checked Left
left_by r q reg ds =
    bind (text_by r q reg ds) (λ p.
    bind (left_to_consume q.available p) (λ left.
    value (record { registry = p.registry; to_consume = left; queue = queue_after p ds })))

-- the step
unfoldable pub step_by : ElectraRules → ℕ → ℕ → DepositNumbers → List ℕ → List ℕ → List ℕ → Checked Left
step_by r state_slot finalized_epoch numbers registry compounding deposits =
    bind (queueing r (lent_for state_slot finalized_epoch numbers registry)) (λ q. left_by r q (lent_registry registry compounding) (decode_deposits deposits))

abbrev pub answer_of : Left → DepositsAnswer
answer_of l =
    record {
      refusal = 0;
      deposit_balance_to_consume = l.to_consume;
      validators = length l.registry.validators;
      deposits = length l.queue;
    }

-- what the buffers hold
pub record Ends (l : Left) (xs₀ cs₀ ds₀ xs cs ds : List ℕ) : Type 0 where
  pub registry : xs ≡ over (encode l.registry.validators) xs₀
  pub compounding : cs ≡ over l.registry.compounding cs₀
  pub queue : ds ≡ over (encode_deposits l.queue) ds₀

-- those added behind what stands in front, and the closing queue
pub record Finished (next : ℕ) (k : NewNumbers) (registry deposits : List ℕ) (index carried : ℕ) (xs₀ cs₀ ds₀ xs cs ds : List ℕ) (r : DepositsAnswer)
    : Type 0 where
  pub count : ℕ
  pub left : ℕ
  pub added : Added (joined (rules_by k 0) (length registry / 10) (opening (length registry / 10) xs₀ cs₀) (take index (decode_deposits deposits)))
      xs₀ cs₀ xs cs count
  pub queued : Queued (closing_queue (length registry / 10) next (decode registry) index (decode_deposits deposits)) ds₀ ds left
  pub answer : r ≡ record { refusal = 0; deposit_balance_to_consume = carried; validators = count; deposits = left }

-- on refusal
abbrev pub as_opened : Refusal → DepositNumbers → List ℕ → List ℕ → DepositsAnswer
as_opened refusal numbers registry deposits =
    record {
      refusal = number_of refusal;
      deposit_balance_to_consume = numbers.deposit_balance_to_consume;
      validators = length registry / 10;
      deposits = length deposits / 5;
    }

-- what is answered; and where it is refused, the opening may be put back in front of what stands behind
pub record Runs (m : Checked Left) (registry compounding xs₀ cs₀ ds₀ xs cs ds : List ℕ) (r : Checked DepositsAnswer) : Type 0 where
  pub is : r ≡ bind m (λ l. value (answer_of l))
  pub ends : (l : Left) → m ≡ value l → Ends l xs₀ cs₀ ds₀ xs cs ds
  pub back : (p : Refusal) → r ≡ refused p → over registry xs ≡ over registry xs₀
  pub back_too : (p : Refusal) → r ≡ refused p → over compounding cs ≡ over compounding cs₀

-- The loop of process_pending_deposits over the validators that the step opened with: a key that none of them has only consumes churn. It is refused
-- where the text's loop is, and else leaves them and the loop's numbers as the text does: proofs/Twin.antt.
use Rattle.std.specs.Prelude.{◌≡◌, Bool, true, false, cond, ◌&&◌, ◌||◌, not, List, ℕ, ◌+◌, ltb, leb, length, get_or, set}
use Rattle.definitions.specs.Record.{Validator, FAR_FUTURE_EPOCH, encode, decode, nobody}
use Rattle.definitions.specs.Checked.{Checked, value, refused, bind, add64}
use Rattle.definitions.specs.declared.Refusal.{Refusal}
use Rattle.definitions.specs.Rust.Phase0.Helpers.{increase_balance}
use Rattle.definitions_electra.specs.declared.PendingDeposit.{PendingDeposit}
use Rattle.definitions_electra.specs.Record.{decode_deposits, GENESIS_SLOT}
use Rattle.definitions_electra.specs.Loops.{fold_until_checked}
use Rattle.definitions_electra.specs.Document.Electra.EpochProcessing.{Queueing}
use Rattle.electra_deposits.specs.declared.QueueNumbers.{QueueNumbers}
use Rattle.electra_deposits.specs.declared.Deposited.{Deposited}
use Rattle.electra_deposits.specs.declared.DepositTurn.{DepositTurn}

-- a test of the key's validator, which fails where there is none
abbrev pub tested_at : (Validator → Bool) → List Validator → ℕ → Bool
tested_at f vs key = ltb key (length vs) && f (get_or vs key nobody)

abbrev pub withdrawn_at : ℕ → List Validator → ℕ → Bool
withdrawn_at next = tested_at (λ v. ltb v.withdrawable_epoch next)

abbrev pub exited_at : List Validator → ℕ → Bool
exited_at = tested_at (λ v. ltb v.exit_epoch FAR_FUTURE_EPOCH)

-- who is postponed, by the n validators that the step opened with: exiting, and not yet withdrawable. proofs/Postponed.antt: as the text has it.
unfoldable pub is_postponed : ℕ → ℕ → List Validator → PendingDeposit → Bool
is_postponed n next vs d =
    let v = get_or vs d.pubkey nobody in
    ltb d.pubkey n && (not (ltb v.withdrawable_epoch next) && ltb v.exit_epoch FAR_FUTURE_EPOCH)

-- apply_pending_deposit, where nobody is added
unfoldable pub raised : List Validator → PendingDeposit → Checked (List Validator)
raised vs d =
    let key = d.pubkey in
    cond (ltb key (length vs)) (bind (increase_balance (get_or vs key nobody) d.amount) (λ v. value (set vs key v))) (value vs)

-- the loop's variables
pub record Running : Type 0 where
  pub validators : List Validator
  pub processed : ℕ
  pub index : ℕ
  pub reached : Bool

abbrev pub running : List Validator → ℕ → ℕ → Running
running vs processed index = record { validators = vs; processed = processed; index = index; reached = false }

abbrev pub onward : List Validator → ℕ → Running → Running
onward vs processed p = running vs processed (p.index + 1)

abbrev pub full : Running → Running
full p = record { validators = p.validators; processed = p.processed; index = p.index; reached = true }

unfoldable pub turn : Queueing → Running → PendingDeposit → Checked Running
turn q p d =
    let vs = p.validators in
    cond (withdrawn_at q.next_epoch vs d.pubkey) (bind (raised vs d) (λ ws. value (onward ws p.processed p)))
    (cond (exited_at vs d.pubkey) (value (onward vs p.processed p))
    (bind (add64 p.processed d.amount) (λ processed.
    cond (ltb q.available processed) (value (full p))
    (bind (raised vs d) (λ ws. value (onward ws processed p))))))

-- the loop is left
unfoldable pub stops : ℕ → Queueing → Running → PendingDeposit → Bool
stops most q p d =
    p.reached || ((ltb GENESIS_SLOT d.slot && q.bridge_open) || ltb q.finalized_slot d.slot
    || leb most p.index)

-- By numbers and lent lists

-- what stands past the end of the queue
abbrev pub none : PendingDeposit
none = record { pubkey = 0; compounding = 0; amount = 0; slot = 0; valid = 0 }

abbrev pub queueing_of : QueueNumbers → Queueing
queueing_of q =
    record { next_epoch = q.next_epoch; available = q.available; finalized_slot = q.finalized_slot; bridge_open = q.bridge_open }

-- a turn, by its number in the queue
abbrev pub turn_by : QueueNumbers → List ℕ → ℕ → PendingDeposit → ℕ → Checked Running
turn_by q xs processed d i = turn (queueing_of q) (running (decode xs) processed i) d

-- the loop's variables after turn i, by the lent registry
abbrev pub after_turn : List ℕ → DepositTurn → ℕ → Running
after_turn xs r i = record { validators = decode xs; processed = r.processed; index = cond r.reached i (i + 1); reached = r.reached }

-- the numbers, and the registry with them, or the refusal, whatever the turn's number
pub record Turns (m : ℕ → Checked Running) (xs : List ℕ) (r : Checked DepositTurn) : Type 0 where
  pub gives : (t : DepositTurn) → r ≡ value t → (i : ℕ) → m i ≡ value (after_turn xs t i)
  pub refuses : (p : Refusal) → r ≡ refused p → (i : ℕ) → m i ≡ refused p

-- the loop, of a lent registry and queue
unfoldable pub alone : QueueNumbers → List ℕ → List ℕ → Checked Running
alone q registry deposits =
    fold_until_checked (stops q.most (queueing_of q)) (turn (queueing_of q)) (running (decode registry) 0 0) (decode_deposits deposits)

abbrev pub ended : Running → Deposited
ended a = record { index = a.index; processed = a.processed; reached = a.reached }

-- the numbers, or why it is refused, and the registry where it is not
pub record Deposits (m : Checked Running) (xs : List ℕ) (r : Checked Deposited) : Type 0 where
  pub is : r ≡ bind m (λ a. value (ended a))
  pub held : (a : Running) → m ≡ value a → xs ≡ encode a.validators

-- The closing queue, and deposits at the front of a buffer.
use Rattle.std.specs.Prelude.{◌≡◌, Bool, cond, List, [], ◌∷◌, ◌++◌, ℕ, ◌/◌, length, take, drop}
use Rattle.definitions.specs.Lists.{filter}
use Rattle.definitions.specs.Record.{Validator, decode}
use Rattle.definitions_electra.specs.declared.PendingDeposit.{PendingDeposit}
use Rattle.definitions_electra.specs.Record.{encode_deposits, decode_deposits}
use Rattle.definitions_electra.specs.Calls.{over}
use Rattle.electra_deposits.specs.Alone.{is_postponed}

-- the rest from `index` on, and behind it those postponed of the first `index`; n validators, vs, open the step
abbrev pub closing_queue : ℕ → ℕ → List Validator → ℕ → List PendingDeposit → List PendingDeposit
closing_queue n next vs index ds = drop index ds ++ filter (is_postponed n next vs) (take index ds)

-- deposits at the front of a buffer, what stands behind them untouched; and how many they are
pub record Queued (ds : List PendingDeposit) (before after : List ℕ) (many : ℕ) : Type 0 where
  pub held : after ≡ over (encode_deposits ds) before
  pub count : many ≡ length ds

-- one more behind those that stand there, where `on`
pub record Adds (on : Bool) (d : PendingDeposit) (count : ℕ) (before after : List ℕ) (many : ℕ) : Type 0 where
  pub adds : (ds : List PendingDeposit) (buffer : List ℕ) → Queued ds buffer before count → Queued (ds ++ cond on (d ∷ []) []) buffer after many

-- those postponed of the first i deposits, by the registry that the step opened with
pub record Postponing (registry : List ℕ) (next : ℕ) (deposits : List ℕ) (i : ℕ) (before after : List ℕ) (count : ℕ) : Type 0 where
  pub queued : Queued (filter (is_postponed (length registry / 10) next (decode registry)) (take i (decode_deposits deposits))) before after count

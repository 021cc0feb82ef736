-- Document 03, F-3: "Opening balance (0 of a new one) + rewards + deposited + in - taken - out = closing balance: a theorem for each validator."
use Rattle.std.specs.Prelude.{◌≡◌, cond, List, ℕ, ◌+◌, ◌*◌, ◌/◌, ◌%◌, ◌^◌, ◌≤◌, ◌<◌, length, get_or, set, replicate, take, drop}
use Rattle.definitions.specs.Record.{Validator, nobody, is_slashed, decode}
use Rattle.definitions.specs.Checked.{Checked, value, bind, add64}
use Rattle.laws_close.specs.Nine.{rewards_in, taken_in, balance_at}
use Rattle.definitions_electra.specs.declared.ElectraRules.{ElectraRules}
use Rattle.definitions_electra.specs.Loops.{fold_until_checked}
use Rattle.definitions_electra.specs.Record.{PendingConsolidation, ElectraState}
use Rattle.definitions_electra.specs.Document.Electra.EpochProcessing.{current_epoch_of, consolidated_balance, consolidations_stop}
use Rattle.definitions_electra.specs.Evaluated.Electra.EpochProcessing.{process_consolidation, close_up_to, process_epoch}
use Rattle.definitions_electra.specs.Calls.{over}
use Rattle.definitions_electra.specs.Mainnet.{mainnet_rules}
use Rattle.definitions_electra_close.specs.Amounts.{Moved, electra_amounts}
use Rattle.definitions_electra_close.specs.Close.{ElectraCall, electra_state_of, electra_closed, electra_close}

-- the twelve numbers of the validator at i; `rewards_in` and `taken_in` are of the first nine
abbrev pub row_of : List ℕ → ℕ → List ℕ
row_of xs i = take 12 (drop (12 * i) xs)

abbrev pub deposited_in : List ℕ → ℕ
deposited_in row = get_or row 9 0

abbrev pub out_in : List ℕ → ℕ
out_in row = get_or row 10 0

abbrev pub into_in : List ℕ → ℕ
into_in row = get_or row 11 0

-- The two sums as they are before they are cut to 64 bits: `move_consolidation` and `consolidation_amounts` without the remainder

abbrev pub plain_at : List ℕ → ℕ → ℕ → List ℕ
plain_at xs index x = set xs index (get_or xs index 0 + x)

unfoldable pub move_plainly : Moved → PendingConsolidation → Checked Moved
move_plainly m c =
    let source = get_or m.consolidating.validators c.source_index nobody in
    let moved = cond (is_slashed source) 0 (consolidated_balance source) in
    bind (process_consolidation m.consolidating c) (λ next.
    value (record { consolidating = next; out = plain_at m.out c.source_index moved; into = plain_at m.into c.target_index moved }))

unfoldable pub plain_moves : ElectraRules → ElectraState → Checked Moved
plain_moves r st =
    let vs = st.altair.validators in
    let none : List ℕ = replicate (length vs) 0 in
    let begin : Moved = record { consolidating = record { validators = vs; next_pending_consolidation = 0 }; out = none; into = none } in
    bind (add64 (current_epoch_of r st) 1) (λ next.
    fold_until_checked (λ m. consolidations_stop next m.consolidating) move_plainly begin st.pending_consolidations)

-- of the validator at i, from the opening balances vs to the closing ones ws: `nobody`, who stands for one that is not there yet, has balance 0
abbrev pub Exactly : List Validator → List Validator → List ℕ → ℕ → Type 0
Exactly vs ws row i = balance_at vs i + rewards_in row + deposited_in row + into_in row ≡ balance_at ws i + taken_in row + out_in row

abbrev pub Modulo : List Validator → List Validator → List ℕ → ℕ → Type 0
Modulo vs ws row i =
    (balance_at vs i + rewards_in row + deposited_in row + into_in row) % (2 ^ 64) ≡ (balance_at ws i + taken_in row + out_in row) % (2 ^ 64)

-- exactly, and the two numbers are the sums themselves
abbrev pub AsSummed : List Validator → List Validator → List ℕ → Moved → ℕ → Type 0
AsSummed vs ws row plain i = (out_in row ≡ get_or plain.out i 0) × (into_in row ≡ get_or plain.into i 0) × Exactly vs ws row i

-- of an accepted close, for each validator that it leaves
pub record Accounted (r : ElectraRules) (opening closing : ElectraState) : Type 0 where
  pub filled : List ℕ
  pub are : electra_amounts r opening ≡ value filled
  pub long : length filled ≡ 12 * length closing.altair.validators
  pub added : length opening.altair.validators ≤ length closing.altair.validators
  -- as the consolidations find the state, and what they move
  pub applied : ElectraState
  pub finds : close_up_to 6 r opening ≡ value applied
  pub plain : Moved
  pub moves : plain_moves r applied ≡ value plain
  pub out : (i : ℕ) → i < length closing.altair.validators → out_in (row_of filled i) ≡ get_or plain.out i 0 % (2 ^ 64)
  pub into : (i : ℕ) → i < length closing.altair.validators → into_in (row_of filled i) ≡ get_or plain.into i 0 % (2 ^ 64)
  -- always, by the plain sums
  pub sums : (i : ℕ) → i < length closing.altair.validators →
      balance_at opening.altair.validators i + rewards_in (row_of filled i) + deposited_in (row_of filled i) + get_or plain.into i 0
      ≡ balance_at closing.altair.validators i + taken_in (row_of filled i) + get_or plain.out i 0
  -- always, in 64-bit arithmetic
  pub modulo : (i : ℕ) → i < length closing.altair.validators → Modulo opening.altair.validators closing.altair.validators (row_of filled i) i
  -- exactly, where the two sums left 64 bits equally often, and only there
  pub equal : (i : ℕ) → i < length closing.altair.validators → get_or plain.out i 0 / (2 ^ 64) ≡ get_or plain.into i 0 / (2 ^ 64) →
      Exactly opening.altair.validators closing.altair.validators (row_of filled i) i
  pub only : (i : ℕ) → i < length closing.altair.validators →
      Exactly opening.altair.validators closing.altair.validators (row_of filled i) i →
      get_or plain.out i 0 / (2 ^ 64) ≡ get_or plain.into i 0 / (2 ^ 64)
  -- so where neither left them
  pub within : (i : ℕ) → i < length closing.altair.validators → get_or plain.out i 0 < 2 ^ 64 → get_or plain.into i 0 < 2 ^ 64 →
      AsSummed opening.altair.validators closing.altair.validators (row_of filled i) plain i
  -- and so for everybody where the queue is short: a consolidation moves at most its source's effective balance, which is the opening's, or at most
  -- one of the two maxima where a deposit has added the source
  pub short : (most : ℕ) → ((j : ℕ) → (get_or opening.altair.validators j nobody).effective_balance ≤ most) →
      r.electra.min_activation_balance ≤ most → r.electra.max_effective_balance_electra ≤ most →
      most * length opening.pending_consolidations < 2 ^ 64 → (i : ℕ) → i < length closing.altair.validators →
      AsSummed opening.altair.validators closing.altair.validators (row_of filled i) plain i

-- Every close that is accepted. Each validator of the opening has its credentials: a call's test, without which the effective balances end early.
abbrev pub EveryClose : Type 0
EveryClose =
    (r : ElectraRules) (opening closing : ElectraState) → length opening.compounding ≡ length opening.altair.validators →
    process_epoch r opening ≡ value closing → Accounted r opening closing

-- On mainnet: effective balances of at most 2048 ether, and a queue of at most 9007199
abbrev pub OnMainnet : Type 0
OnMainnet =
    (opening closing : ElectraState) (law : Accounted mainnet_rules opening closing) →
    ((j : ℕ) → (get_or opening.altair.validators j nobody).effective_balance ≤ 2_048_000_000_000) →
    length opening.pending_consolidations ≤ 9_007_199 → (i : ℕ) → i < length closing.altair.validators →
    Exactly opening.altair.validators closing.altair.validators (row_of law.filled i) i

-- of a call that is accepted: the law holds of the numbers that the lent lists then have, and what stands behind the amounts is as it was
pub record AccountedCall (c : ElectraCall) (closing : ElectraState) : Type 0 where
  pub law : Accounted c.rules (electra_state_of c) closing
  pub lent : (electra_close c).amounts ≡ over law.filled c.amounts
  pub row : (i : ℕ) → i < length closing.altair.validators → row_of (electra_close c).amounts i ≡ row_of law.filled i
  pub count : (electra_close c).answer.validators ≡ length closing.altair.validators
  -- the seventh of a validator's ten numbers is its balance
  pub opens : (i : ℕ) → i < length (decode c.registry) → get_or c.registry (10 * i + 6) 0 ≡ balance_at (decode c.registry) i
  pub closes : (i : ℕ) → i < length closing.altair.validators →
      get_or (electra_close c).closing_registry (10 * i + 6) 0 ≡ balance_at closing.altair.validators i

abbrev pub EveryCall : Type 0
EveryCall = (c : ElectraCall) (closing : ElectraState) → electra_closed c ≡ value closing → AccountedCall c closing

-- Pending deposits, pending consolidations and effective balances on the opening's validators, with the amounts that they book.
use Rattle.std.specs.Prelude.{◌≡◌, true, List, ℕ, ◌+◌, ◌-◌, ◌*◌, ◌/◌, ◌≤◌, ◌<◌, length, get_or, take}
use Rattle.definitions.specs.Record.{encode, decode}
use Rattle.definitions.specs.Checked.{Checked, value, bind}
use Rattle.definitions_electra.specs.declared.ElectraRules.{ElectraRules}
use Rattle.definitions_electra.specs.declared.DepositNumbers.{DepositNumbers}
use Rattle.definitions_electra.specs.Record.{ElectraState, decode_consolidations}
use Rattle.electra_deposits.specs.Room.{keyed}
use Rattle.electra_consolidations.specs.Consolidations.{placed}
use Rattle.electra_first.specs.Taken.{balance_at}
use Rattle.electra_consolidations.specs.Moves.{moved_to, movements}
use Rattle.electra_steps.specs.Last.{Six, six_by, Eight, seven_eight}
use Rattle.electra_sixth.specs.Sixth.{AsLent}
use Rattle.electra_front.specs.declared.Later.{Later}

-- of n validators, as the tests leave them
pub record LaterLent (compounding deposits pairs registry amounts places : List ℕ) : Type 0 where
  pub tens : length registry ≡ 10 * length compounding
  pub twelves : length amounts ≡ 12 * length compounding
  pub fives : length deposits ≡ 5 * (length deposits / 5)
  pub keys : keyed (length compounding) deposits ≡ true
  pub twos : length pairs ≡ 2 * (length pairs / 2)
  pub within : placed (length compounding) pairs ≡ true
  pub table : length places ≡ length deposits / 5

-- what is answered by value
abbrev pub later_of : Six → Eight → Later
later_of x y =
    record { next_epoch = x.queueing.next_epoch; index = x.processing.next_deposit_index; left = x.left; done = y.moved.next_pending_consolidation }

-- where nothing is refused; the first nine numbers of each row stay
pub record LaterHeld (n : ℕ) (x : Six) (y : Eight) (deposits pairs before after lent amounts : List ℕ) : Type 0 where
  pub registry : after ≡ encode y.balanced
  pub few : x.processing.next_deposit_index ≤ length deposits / 5
  pub most : y.moved.next_pending_consolidation ≤ length pairs / 2
  pub long : length amounts ≡ length lent
  pub nine : (i k : ℕ) → k < 9 → get_or amounts (12 * i + k) 0 ≡ get_or lent (12 * i + k) 0
  pub tenth : (i : ℕ) → i < n → get_or amounts (12 * i + 9) 0 ≡ balance_at x.processing.registry.validators i - balance_at (decode before) i
  pub moves : movements x.queueing.next_epoch n (take n x.processing.registry.validators) pairs lent
      ≡ value (moved_to n y.moved.validators y.moved.next_pending_consolidation amounts)

-- of a state that the lent lists are of
pub record LaterOf (rules : ElectraRules) (st : ElectraState) (n : ℕ) (deposits pairs before after lent amounts : List ℕ) (r : Checked Later) : Type 0 where
  pub is : r ≡ bind (six_by rules st) (λ x. bind (seven_eight rules n st x) (λ y. value (later_of x y)))
  pub held : (x : Six) → six_by rules st ≡ value x → (y : Eight) → seven_eight rules n st x ≡ value y
      → LaterHeld n x y deposits pairs before after lent amounts

pub record LaterRan (rules : ElectraRules) (slot finalized_epoch : ℕ) (numbers : DepositNumbers) (compounding deposits pairs before after lent amounts : List ℕ)
    (r : Checked Later) : Type 0 where
  pub ran : (st : ElectraState) → AsLent slot finalized_epoch numbers before deposits st → st.compounding ≡ compounding
      → st.pending_consolidations ≡ decode_consolidations pairs → LaterOf rules st (length compounding) deposits pairs before after lent amounts r

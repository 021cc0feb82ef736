-- The sixth step on the validators of the opening, of every state that the lent lists are of.
use Rattle.std.specs.Prelude.{◌≡◌, List, ℕ, ◌+◌, ◌-◌, ◌*◌, ◌/◌, ◌≤◌, ◌<◌, length, get_or, take}
use Rattle.definitions.specs.Record.{encode, decode}
use Rattle.definitions.specs.Checked.{Checked, value, bind}
use Rattle.definitions_electra.specs.declared.ElectraRules.{ElectraRules}
use Rattle.definitions_electra.specs.declared.DepositNumbers.{DepositNumbers}
use Rattle.definitions_electra.specs.Record.{ElectraState}
use Rattle.definitions_electra.specs.Document.Electra.EpochProcessing.{finalized_epoch_of}
use Rattle.electra_first.specs.Taken.{balance_at}
use Rattle.electra_steps.specs.Last.{Six, six_by}
use Rattle.electra_steps.specs.Finds.{Finds}
use Rattle.electra_sixth.specs.declared.Sixth.{Sixth}

-- a state of which this is lent
pub record AsLent (state_slot finalized_epoch : ℕ) (numbers : DepositNumbers) (registry deposits : List ℕ) (st : ElectraState) : Type 0 where
  pub slot : st.altair.finality.slot ≡ state_slot
  pub finalized : finalized_epoch_of st ≡ finalized_epoch
  pub validators : st.altair.validators ≡ decode registry
  pub carried : st.deposit_balance_to_consume ≡ numbers.deposit_balance_to_consume
  pub bridge : st.eth1_deposit_index ≡ numbers.eth1_deposit_index
  pub requests : st.deposit_requests_start_index ≡ numbers.deposit_requests_start_index
  pub finds : Finds (length registry / 10) deposits st

-- what is answered by value
abbrev pub sixth_of : Six → Sixth
sixth_of x = record { next_epoch = x.queueing.next_epoch; index = x.processing.next_deposit_index; left = x.left }

-- where it is not refused: the first n validators, and the tenth column and no other
pub record SixHeld (n : ℕ) (x : Six) (deposits before after lent amounts : List ℕ) : Type 0 where
  pub registry : after ≡ encode (take n x.processing.registry.validators)
  pub few : x.processing.next_deposit_index ≤ length deposits / 5
  pub long : length amounts ≡ length lent
  pub tenth : (i : ℕ) → i < n → get_or amounts (12 * i + 9) 0 ≡ balance_at x.processing.registry.validators i - balance_at (decode before) i
  pub other : (p : ℕ) → ((i : ℕ) → p ≡ 12 * i + 9 → ⊥) → get_or amounts p 0 ≡ get_or lent p 0

pub record SixEnds (m : Checked Six) (deposits before after lent amounts : List ℕ) (r : Checked Sixth) : Type 0 where
  pub is : r ≡ bind m (λ x. value (sixth_of x))
  pub held : (x : Six) → m ≡ value x → SixHeld (length before / 10) x deposits before after lent amounts

pub record SixthRan (rules : ElectraRules) (state_slot finalized_epoch : ℕ) (numbers : DepositNumbers) (deposits before after lent amounts : List ℕ)
    (r : Checked Sixth) : Type 0 where
  pub ran : (st : ElectraState) → AsLent state_slot finalized_epoch numbers before deposits st → SixEnds (six_by rules st) deposits before after lent amounts r

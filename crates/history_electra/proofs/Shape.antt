-- What the claim over lists of events has to know about one accepted event: its interface. Whatever kind of close has it joins the claim.
use Prim.Native.Nat.{◌+◌, ◌*◌, ◌≤◌, ◌<◌}
use lib.Dec.{T}
use lib.ListN.{length, take, drop}
use Rattle.definitions_electra.specs.Document.Electra.EpochProcessing.{finalized_epoch_of}
use Rattle.history_electra.specs.Events.{amounts, slots_at_most, Event, Follows, MovedOn}
use Rattle.history_electra.proofs.Front.{Deposits, head_amount}

-- where the queue begins with xs: it was moved on past them, or the number ended the close, or the churn limit did, and then what was available
-- went to those moved past or is carried, which is less than the next
pub data Ended (e : Event) (xs : Deposits) : Type 0 where
  past : length xs ≤ e.moved → Ended e xs
  by_number : e.moved < length xs → e.number ≤ e.moved → Ended e xs
  by_limit : e.moved < length xs
      → e.opening.deposit_balance_to_consume + e.churn ≤ e.returned.deposit_balance_to_consume + amounts (take e.moved xs)
      → e.returned.deposit_balance_to_consume < head_amount (drop e.moved xs) → Ended e xs

pub record EventShape (e : Event) : Type 0 where
  pub queue : MovedOn e.moved e.opening.pending_deposits e.returned
  pub ends : (xs : Deposits) → Follows xs e.opening.pending_deposits
      → T (slots_at_most (finalized_epoch_of e.returned * e.slots) xs)
      → e.opening.deposit_requests_start_index ≤ e.opening.eth1_deposit_index → Ended e xs

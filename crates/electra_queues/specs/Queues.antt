-- The closing queues, of every state that the lent lists are of.
use Rattle.std.specs.Prelude.{◌≡◌, List, ℕ, ◌/◌, length}
use Rattle.definitions.specs.Record.{encode}
use Rattle.definitions.specs.Checked.{value}
use Rattle.definitions_electra.specs.declared.ElectraRules.{ElectraRules}
use Rattle.definitions_electra.specs.Record.{ElectraState, encode_deposits, decode_consolidations, encode_consolidations}
use Rattle.definitions_electra.specs.Calls.{over}
use Rattle.electra_steps.specs.Last.{Six, six_by, after_six, Eight, seven_eight, after_eight}
use Rattle.electra_steps.specs.Finds.{Finds}
use Rattle.electra_queues.specs.declared.Queues.{Queues}

-- The queues, the registry and the numbers as steps six to eight have them
pub record Reached (r : ElectraRules) (st : ElectraState) (x : Six) (y : Eight) (next_epoch : ℕ) (registry deposits consolidations : List ℕ) (index done : ℕ)
    : Type 0 where
  pub finds : Finds (length registry / 10) deposits st
  pub queue : st.pending_consolidations ≡ decode_consolidations consolidations
  pub six : six_by r st ≡ value x
  pub eight : seven_eight r (length registry / 10) st x ≡ value y
  pub next : next_epoch ≡ x.queueing.next_epoch
  pub deposited : index ≡ x.processing.next_deposit_index
  pub consolidated : done ≡ y.moved.next_pending_consolidation
  pub left : registry ≡ encode y.balanced

-- a state's queues at the front of two buffers, what stands behind them untouched; and how many they are
pub record QueuesHeld (st : ElectraState) (ds₀ ds cs₀ cs : List ℕ) (q : Queues) : Type 0 where
  pub deposits : ds ≡ over (encode_deposits st.pending_deposits) ds₀
  pub many : q.deposits ≡ length st.pending_deposits
  pub consolidations : cs ≡ over (encode_consolidations st.pending_consolidations) cs₀
  pub many_too : q.consolidations ≡ length st.pending_consolidations

pub record WritesQueues (next_epoch : ℕ) (registry deposits consolidations : List ℕ) (index done : ℕ) (ds₀ ds cs₀ cs : List ℕ) (q : Queues)
    : Type 0 where
  pub writes : (r : ElectraRules) (st : ElectraState) (x : Six) (y : Eight) → Reached r st x y next_epoch registry deposits consolidations index done
      → QueuesHeld (after_eight (after_six st x) y) ds₀ ds cs₀ cs q

-- What the sixth step finds, as a call lends it: n validators with their credentials and keys, and the queue.
use Rattle.std.specs.Prelude.{◌≡◌, List, ℕ, length}
use Rattle.definitions_electra.specs.Record.{ElectraState, decode_deposits}
use Rattle.definitions_electra.specs.Calls.{opening_keys}

pub record Finds (n : ℕ) (deposits : List ℕ) (st : ElectraState) : Type 0 where
  pub validators : length st.altair.validators ≡ n
  pub keys : st.pubkeys ≡ opening_keys n
  pub credentials : length st.compounding ≡ n
  pub queue : st.pending_deposits ≡ decode_deposits deposits

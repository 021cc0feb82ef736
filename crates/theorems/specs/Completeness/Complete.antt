-- No refusal without cause, and no parting unlisted: the Rust's checked form is the document's evaluation in 64 bits, or the record is one
-- of the rows, and there the Rust answers 5 and the document gives its record. Of each step, the delta leaf, and the whole close.
use Rattle.std.specs.Prelude.{◌≡◌, List, ◌⊎◌, ℕ}
use Rattle.definitions.specs.declared.ActivationLimit.{ActivationLimit}
use Rattle.definitions.specs.declared.ActivationLimit.TheVariants.{AtMost}
use Rattle.definitions.specs.declared.Settings.{Settings}
use Rattle.definitions.specs.declared.Deltas.{Deltas}
use Rattle.definitions.specs.declared.Bellatrix.{Bellatrix}
use Rattle.definitions.specs.declared.Rules.{Rules}
use Rattle.definitions.specs.Record.{Validator, BeaconState}
use Rattle.definitions.specs.Checked.{value, refused}
use Rattle.definitions.specs.declared.Refusal.TheVariants.{Overflow}
use Rattle.definitions.specs.Rules.{settings_under, in_place}
use Rattle.definitions.specs.Document.ByFork.{document_under}
use Rattle.definitions.specs.Document.Altair.Helpers as DocumentHelpers
use Rattle.definitions.specs.Document.Deneb as Deneb
use Rattle.definitions.specs.Rust.Altair.Helpers as RustHelpers
use Rattle.definitions.specs.Close as Rust
use Rattle.definitions.specs.Close.{Step, inactivity_step, rewards_step, registry_step, effective_balances_step}
use Rattle.agreement.specs.Agreement.{limited_document_step, limited_document, document_step_under}
use Rattle.laws.specs.Bounds.{Passed}
use Rattle.theorems.specs.Completeness.DocumentIn64Bits as In64Bits
use Rattle.theorems.specs.Completeness.Rows.{Row, LeafRow, CloseRow}

-- where the evaluation in 64 bits of a fork's document gives a state, it is that document's
abbrev pub StepAgreesIn64Bits : Type 0
StepAgreesIn64Bits = (r : Rules) (st st' : BeaconState) (k : Step) → In64Bits.step (settings_under r) st k ≡ value st' → document_step_under r st k ≡ st'

abbrev pub CloseAgreesIn64Bits : Type 0
CloseAgreesIn64Bits = (r : Rules) (st st' : BeaconState) → In64Bits.process_epoch (settings_under r) st ≡ value st' → document_under r st ≡ st'

abbrev pub DenebAgreesIn64Bits : Type 0
DenebAgreesIn64Bits =
    (s : Settings) (b : Bellatrix) (maximum : ℕ) (st st' : BeaconState)
    → In64Bits.limited_epoch (AtMost maximum) (in_place b s) st ≡ value st' → Deneb.process_epoch s b maximum st ≡ st'

-- Steps

pub record StepParts (l : ActivationLimit) (s : Settings) (st : BeaconState) (k : Step) : Type 0 where
  pub row : Row s st k
  pub rust : Rust.limited_step l s st k ≡ refused Overflow
  pub document : In64Bits.limited_step l s st k ≡ value (limited_document_step l s st k)

-- registry alone asks for the tests, which keep the activation epoch in 64 bits
abbrev pub CompleteStep : Type 0
CompleteStep =
    (l : ActivationLimit) (s : Settings) (st : BeaconState) (k : Step) → (k ≡ registry_step → Passed s st.finality.slot)
    → (Rust.limited_step l s st k ≡ In64Bits.limited_step l s st k) ⊎ StepParts l s st k

-- The rows are no wider than they need be
pub record EveryRow (l : ActivationLimit) (s : Settings) (st : BeaconState) : Type 0 where
  -- at each the Rust answers 5
  pub refuses : (k : Step) → Row s st k → Rust.limited_step l s st k ≡ refused Overflow
  -- at the first and the third the document leaves the state as it was
  pub inactivity : Row s st inactivity_step → In64Bits.limited_step l s st inactivity_step ≡ value st
  pub effective_balances : Row s st effective_balances_step → In64Bits.limited_step l s st effective_balances_step ≡ value st
  -- at the second it goes on unless another number leaves 64 bits, and where it goes on the two part
  pub parts : (k : Step) (st' : BeaconState) → Row s st k → In64Bits.limited_step l s st k ≡ value st' → StepParts l s st k
  -- and they are not the same there
  pub differ : (k : Step) → StepParts l s st k → Rust.limited_step l s st k ≡ In64Bits.limited_step l s st k → ⊥

-- The leaf get_flag_index_deltas

pub record LeafParts (s : Settings) (state_slot finalized_epoch : ℕ) (vs : List Validator) (flag_index : ℕ) (v : Validator) : Type 0 where
  pub row : LeafRow s state_slot finalized_epoch flag_index v
  pub rust : RustHelpers.get_flag_index_deltas s state_slot finalized_epoch vs flag_index v ≡ refused Overflow
  pub document : In64Bits.deltas_of_one s state_slot finalized_epoch vs flag_index v
      ≡ value (DocumentHelpers.flag_index_deltas s state_slot finalized_epoch vs flag_index v)

abbrev pub CompleteLeaf : Type 0
CompleteLeaf =
    (s : Settings) (state_slot finalized_epoch : ℕ) (vs : List Validator) (flag_index : ℕ) (v : Validator)
    → (RustHelpers.get_flag_index_deltas s state_slot finalized_epoch vs flag_index v ≡ In64Bits.deltas_of_one s state_slot finalized_epoch vs flag_index v)
    ⊎ LeafParts s state_slot finalized_epoch vs flag_index v

pub record EveryLeafRow (s : Settings) (state_slot finalized_epoch : ℕ) (vs : List Validator) (flag_index : ℕ) (v : Validator) : Type 0 where
  pub refuses : LeafRow s state_slot finalized_epoch flag_index v
      → RustHelpers.get_flag_index_deltas s state_slot finalized_epoch vs flag_index v ≡ refused Overflow
  -- where the document goes on the two part
  pub parts : (d : Deltas) → LeafRow s state_slot finalized_epoch flag_index v
      → In64Bits.deltas_of_one s state_slot finalized_epoch vs flag_index v ≡ value d
      → LeafParts s state_slot finalized_epoch vs flag_index v

-- The whole close

pub record CloseParts (l : ActivationLimit) (s : Settings) (st : BeaconState) : Type 0 where
  pub row : CloseRow s st
  pub rust : Rust.limited_epoch l s st ≡ refused Overflow
  pub document : In64Bits.limited_epoch l s st ≡ value (limited_document l s st)

abbrev pub CompleteClose : Type 0
CompleteClose =
    (l : ActivationLimit) (s : Settings) (st : BeaconState) → Passed s st.finality.slot
    → (Rust.limited_epoch l s st ≡ In64Bits.limited_epoch l s st) ⊎ CloseParts l s st

pub record EveryCloseRow (l : ActivationLimit) (s : Settings) (st : BeaconState) : Type 0 where
  -- at each the Rust gives no record
  pub refuses : (st' : BeaconState) → CloseRow s st → Rust.limited_epoch l s st ≡ value st' → ⊥
  -- and where the document does the two part
  pub parts : (st' : BeaconState) → Passed s st.finality.slot → CloseRow s st → In64Bits.limited_epoch l s st ≡ value st' → CloseParts l s st

-- why the second row is none of a close: rewards comes after an inactivity step that gave a value
abbrev pub NoRewardsRow : Type 0
NoRewardsRow = (l : ActivationLimit) (s : Settings) (st scored : BeaconState) → Rust.limited_step l s st inactivity_step ≡ value scored → Row s scored rewards_step → ⊥

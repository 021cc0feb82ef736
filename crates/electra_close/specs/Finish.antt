-- The end of a close that nothing refuses.
use Rattle.std.specs.Prelude.{◌≡◌, true, cond, List, ◌++◌, ℕ, ◌+◌, ◌*◌, ◌/◌, ◌≤◌, ◌<◌, eqb, length, get_or, take, drop}
use Rattle.definitions.specs.Record.{encode, decode}
use Rattle.definitions.specs.Rust.Altair.EpochProcessing.{process_participation_flag_updates}
use Rattle.definitions.specs.Checked.{value}
use Rattle.laws.specs.Bounds.{Passed}
use Rattle.definitions_electra.specs.declared.ElectraRules.{ElectraRules}
use Rattle.definitions_electra.specs.Record.{Registry, ElectraState, decode_consolidations, encode_deposits, encode_consolidations}
use Rattle.definitions_electra.specs.Refusals.{good_electra}
use Rattle.definitions_electra.specs.Calls.{over}
use Rattle.electra_deposits.specs.Room.{keyed}
use Rattle.electra_first.specs.Taken.{balance_at}
use Rattle.electra_steps.specs.Last.{under, Six, six_by, after_six, Eight, seven_eight, after_eight, after_ten}
use Rattle.electra_steps.specs.Finds.{Finds}
use Rattle.electra_close.specs.declared.Counts.{Counts}

-- flags of those who stand in the first numbers
abbrev pub rotated_to : ℕ → List ℕ → List ℕ
rotated_to long xs = encode (process_participation_flag_updates (decode (take long xs))) ++ drop long xs

-- as the tests leave what is lent
pub record FinishLent (r : ElectraRules) (slot index done : ℕ) (compounding slashings deposits pairs : List ℕ)
    (closing_registry closing_compounding closing_slashings closing_deposits closing_pairs amounts places : List ℕ) : Type 0 where
  pub good : good_electra r ≡ true
  pub passed : Passed (under r) slot
  pub vector : length slashings ≡ r.settings.epochs_per_slashings_vector
  pub few : index ≤ length deposits / 5
  pub most : done ≤ length pairs / 2
  pub fives : length deposits ≡ 5 * (length deposits / 5)
  pub keys : keyed (length compounding) deposits ≡ true
  pub twos : length pairs ≡ 2 * (length pairs / 2)
  pub registry : length closing_registry ≡ 10 * (length compounding + length deposits / 5)
  pub credentials : length closing_compounding ≡ length compounding + length deposits / 5
  pub slashed : length closing_slashings ≡ length slashings
  pub queue : length closing_deposits ≡ length deposits
  pub rest : length closing_pairs ≡ length pairs
  pub rows : length amounts ≡ 12 * (length compounding + length deposits / 5)
  pub table : length places ≡ length deposits / 5

-- a state that these lists are of, after five steps, and the steps' states after it
pub record Reached (r : ElectraRules) (st : ElectraState) (x : Six) (y : Eight) (state_slot next_epoch index done : ℕ)
    (compounding slashings deposits pairs closing_registry : List ℕ) : Type 0 where
  pub finds : Finds (length compounding) deposits st
  pub credentials : st.compounding ≡ compounding
  pub queue : st.pending_consolidations ≡ decode_consolidations pairs
  pub slashed : st.altair.slashings ≡ slashings
  pub slot : st.altair.finality.slot ≡ state_slot
  pub six : six_by r st ≡ value x
  pub eight : seven_eight r (length compounding) st x ≡ value y
  pub next : next_epoch ≡ x.queueing.next_epoch
  pub deposited : index ≡ x.processing.next_deposit_index
  pub consolidated : done ≡ y.moved.next_pending_consolidation
  pub front : take (10 * length compounding) closing_registry ≡ encode y.balanced

-- the closed state at the front of the lent lists, and the amounts of those added
pub record Ended (n : ℕ) (reg : Registry) (d : ElectraState) (registry₀ registry compounding₀ compounding slashings deposits₀ deposits pairs₀ pairs amounts₀ amounts : List ℕ)
    (c : Counts) : Type 0 where
  pub validators : registry ≡ over (encode d.altair.validators) registry₀
  pub credentials : compounding ≡ over d.compounding compounding₀
  pub reset : slashings ≡ d.altair.slashings
  pub queue : deposits ≡ over (encode_deposits d.pending_deposits) deposits₀
  pub rest : pairs ≡ over (encode_consolidations d.pending_consolidations) pairs₀
  pub many : c.validators ≡ length d.altair.validators
  pub left : c.deposits ≡ length d.pending_deposits
  pub kept : c.consolidations ≡ length d.pending_consolidations
  pub count : c.validators ≡ length reg.validators
  pub least : n ≤ c.validators
  pub room : 12 * c.validators ≤ length amounts₀
  pub long : length amounts ≡ length amounts₀
  pub front : (p : ℕ) → p < 12 * n → get_or amounts p 0 ≡ get_or amounts₀ p 0
  pub rows : (i k : ℕ) → n ≤ i → i < c.validators → k < 12 → get_or amounts (12 * i + k) 0 ≡ cond (eqb k 9) (balance_at reg.validators i) 0
  pub behind : (p : ℕ) → 12 * c.validators ≤ p → get_or amounts p 0 ≡ get_or amounts₀ p 0

pub record Finishes (r : ElectraRules) (slot next index done : ℕ) (compounding slashings deposits pairs : List ℕ)
    (registry₀ registry₁ compounding₀ compounding₁ slashings₁ deposits₀ deposits₁ pairs₀ pairs₁ amounts₀ amounts₁ : List ℕ) (c : Counts) : Type 0 where
  pub ends : (st : ElectraState) (x : Six) (y : Eight) → Reached r st x y slot next index done compounding slashings deposits pairs registry₀
      → Ended (length compounding) x.processing.registry (after_ten r (after_eight (after_six st x) y)) registry₀ registry₁ compounding₀ compounding₁
      slashings₁ deposits₀ deposits₁ pairs₀ pairs₁ amounts₀ amounts₁ c

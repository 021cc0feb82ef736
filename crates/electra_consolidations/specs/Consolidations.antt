-- The text's loop of process_pending_consolidations, over lent lists.
use Rattle.std.specs.Prelude.{◌≡◌, ℕ, ◌≤◌, Bool, cond, List, slice_index_or}
use Rattle.definitions.specs.Lists.{all}
use Rattle.definitions.specs.Record.{Validator, is_slashed, encode, nobody}
use Rattle.definitions.specs.Checked.{Checked, value, bind}
use Rattle.definitions_electra.specs.Loops.{fold_until_checked}
use Rattle.definitions_electra.specs.Record.{PendingConsolidation, decode_consolidations}
use Rattle.definitions_electra.specs.Document.Electra.EpochProcessing.{Consolidating, consolidations_stop}
use Rattle.definitions_electra.specs.Evaluated.Electra.EpochProcessing.{consolidate, process_consolidation}
use Rattle.laws_electra.specs.Consolidations.{within}

-- a slashed source is passed over
unfoldable pub turned : List Validator → PendingConsolidation → Checked (List Validator)
turned vs c = cond (is_slashed (slice_index_or vs c.source_index nobody)) (value vs) (consolidate vs c)

abbrev pub reached : List Validator → ℕ → Consolidating
reached vs i = record { validators = vs; next_pending_consolidation = i }

-- every source and target is a validator of n
unfoldable pub placed : ℕ → List ℕ → Bool
placed n pairs = all (within n) (decode_consolidations pairs)

-- the text's loop
unfoldable pub consolidations : ℕ → List Validator → List ℕ → Checked Consolidating
consolidations next vs pairs = fold_until_checked (consolidations_stop next) process_consolidation (reached vs 0) (decode_consolidations pairs)

-- of `many` in the queue: how many are done, and the registry where it is not refused
pub record Consolidates (m : Checked Consolidating) (many : ℕ) (xs : List ℕ) (r : Checked ℕ) : Type 0 where
  pub is : r ≡ bind m (λ p. value p.next_pending_consolidation)
  pub most : (count : ℕ) → r ≡ value count → count ≤ many
  pub held : (p : Consolidating) → m ≡ value p → xs ≡ encode p.validators

-- What the loop books where rows of twelve amounts are lent: document 03, F-3, "consolidated out, consolidated in".
use Rattle.std.specs.Prelude.{◌≡◌, ℕ, zero, suc, ◌+◌, ◌*◌, ◌<◌, ◌≤◌, cond, List, [], ◌∷◌, length, drop, nat_lt, slice_index}
use Rattle.definitions.specs.Record.{Validator, decode}
use Rattle.definitions.specs.Checked.{Checked, value}
use Rattle.definitions_electra.specs.Loops.{fold_until_checked}
use Rattle.definitions_electra.specs.Record.{decode_consolidations}
use Rattle.definitions_electra.specs.Document.Electra.EpochProcessing.{consolidations_stop}
use Rattle.definitions_electra_close.specs.Amounts.{Moved, add_at, move_consolidation}
use Rattle.electra_consolidations.specs.Consolidations.{reached}

-- one move, where n rows are lent
unfoldable pub booked_move : ℕ → ℕ → ℕ → ℕ → List ℕ → List ℕ
booked_move n source target moved xs = cond (nat_lt (length xs) (12 * n)) xs (add_at (add_at xs (12 * source + 10) moved) (12 * target + 11) moved)

-- the number k of each of the first n rows
unfoldable pub column : ℕ → ℕ → List ℕ → List ℕ
column k zero xs = []
column k (suc n) xs = slice_index xs k ∷ column k n (drop 12 xs)

-- the registry after i turns, and the two columns of n rows
abbrev pub moved_to : ℕ → List Validator → ℕ → List ℕ → Moved
moved_to n vs i xs = record { consolidating = reached vs i; out = column 10 n xs; into = column 11 n xs }

-- the loop of `consolidation_amounts`, from the columns that the rows have
unfoldable pub movements : ℕ → ℕ → List Validator → List ℕ → List ℕ → Checked Moved
movements next n vs pairs xs =
    fold_until_checked (λ m. consolidations_stop next m.consolidating) move_consolidation (moved_to n vs 0 xs) (decode_consolidations pairs)

-- only the last two numbers of n rows are written
pub record Framed (n : ℕ) (before after : List ℕ) : Type 0 where
  pub long : length after ≡ length before
  pub unlent : length before < 12 * n → after ≡ before
  pub others : (i k : ℕ) → k < 10 → slice_index after (12 * i + k) ≡ slice_index before (12 * i + k)
  pub behind : (j : ℕ) → 12 * n ≤ j → slice_index after j ≡ slice_index before j

-- where nothing is refused, the two columns are the loop's
pub record MovesBooked (next n : ℕ) (opening closing pairs before after : List ℕ) (r : Checked ℕ) : Type 0 where
  pub framed : Framed n before after
  pub booked : (count : ℕ) → r ≡ value count → 12 * n ≤ length before → movements next n (decode opening) pairs before ≡ value (moved_to n (decode closing) count after)

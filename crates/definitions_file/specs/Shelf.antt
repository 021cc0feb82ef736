-- A shelf of records in one call. Document 02, R-5: "Record files of any lengths stand one behind another in a lent buffer, with a list of
-- their lengths. The closing buffer is as long and takes the closed records as files in the same places."
use Rattle.std.specs.Prelude.{◌≡◌, Bool, cond, List, [], ◌∷◌, ◌++◌, ℕ, ◌*◌, leb, eqb, length, take, drop}
use Rattle.definitions.specs.declared.Bellatrix.{Bellatrix}
use Rattle.definitions.specs.Lists.{sum, maximum, every}
use Rattle.definitions.specs.Checked.{number_of}
use Rattle.definitions.specs.declared.Refusal.TheVariants.{BadShape}
use Rattle.definitions.specs.Refusals.{length_is}
use Rattle.definitions_file.specs.ClosedFile.{answer_for, part_for}

-- All that the call is lent but fork and pair. "Two working lists of 64-bit numbers are lent too, .. they end with any contents."
pub record Shelf : Type 0 where
  pub files : List ℕ
  pub lengths : List ℕ
  pub closing : List ℕ
  pub opening_numbers : List ℕ
  pub closing_numbers : List ℕ
  pub answers : List ℕ

-- "each at least as many bytes long as the longest file": 8 bytes a number
abbrev pub holds_longest : List ℕ → List ℕ → Bool
holds_longest lengths numbers = leb (maximum 0 lengths) (8 * length numbers)

-- "Lengths that do not add up to the buffer, a closing buffer of another length, a shorter working list, or a list of answers unlike the list
-- of lengths, get refusal 1 for the whole call, and nothing is written."
unfoldable pub shelf_shaped : Shelf → Bool
shelf_shaped s =
    every (
    eqb (sum s.lengths) (length s.files)
    ∷ length_is (length s.files) s.closing
    ∷ holds_longest s.lengths s.opening_numbers
    ∷ holds_longest s.lengths s.closing_numbers
    ∷ length_is (length s.lengths) s.answers
    ∷ []
    )

unfoldable pub shelf_refusal : Shelf → ℕ
shelf_refusal s = cond (shelf_shaped s) 0 (number_of BadShape)

-- Each file by itself: "neighbours change nothing"

unfoldable pub answers_for : ℕ → Bellatrix → List ℕ → List ℕ → List ℕ
answers_for fork pair [] files = []
answers_for fork pair (n ∷ lengths) files = answer_for fork pair (take n files) ∷ answers_for fork pair lengths (drop n files)

unfoldable pub parts_for : ℕ → Bellatrix → List ℕ → List ℕ → List ℕ → List ℕ
parts_for fork pair [] files closing = []
parts_for fork pair (n ∷ lengths) files closing =
    part_for fork pair (take n files) (take n closing) ++ parts_for fork pair lengths (drop n files) (drop n closing)

-- What the two lists hold afterwards

unfoldable pub answers_after : ℕ → Bellatrix → Shelf → List ℕ
answers_after fork pair s = cond (shelf_shaped s) (answers_for fork pair s.lengths s.files) s.answers

unfoldable pub closing_after : ℕ → Bellatrix → Shelf → List ℕ
closing_after fork pair s = cond (shelf_shaped s) (parts_for fork pair s.lengths s.files s.closing) s.closing

-- A working list: "they end with any contents", as long as they were; and of a call that is refused whole "nothing is written"
pub record Working (refusal : ℕ) (before after : List ℕ) : Type 0 where
  pub long : length after ≡ length before
  pub unwritten : (refusal ≡ 0 → ⊥) → after ≡ before

-- all that a shelf is lent
abbrev pub shelf_of : List ℕ → List ℕ → List ℕ → List ℕ → List ℕ → List ℕ → Shelf
shelf_of files lengths closing opening_numbers closing_numbers answers =
    record {
      files = files;
      lengths = lengths;
      closing = closing;
      opening_numbers = opening_numbers;
      closing_numbers = closing_numbers;
      answers = answers;
    }

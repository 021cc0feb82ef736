-- The buffers that a file is listed with, and what it leaves in the lent text.
use Rattle.std.specs.Prelude.{cond, List, ◌++◌, ◌≡◌, ℕ, ◌+◌, ◌*◌, ◌≤◌, leb, length, drop}
use Rattle.definitions_file.specs.File.{header_read}
use Rattle.definitions_file.specs.Listing.{listing}
use Rattle.listing_lines.specs.Sizes.{longest_head, longest_line}

-- a file that is not too long, buffers as long as its header calls for, and text for the longest head and the longest line of each validator
pub record Exact (bytes registry slashings closing_registry closing_slashings text : List ℕ) : Type 0 where
  pub short : length bytes ≤ 65536
  pub entries : length registry ≡ 10 * (header_read bytes).validators
  pub sums : length slashings ≡ (header_read bytes).slashings
  pub closing-entries : length closing_registry ≡ length registry
  pub closing-sums : length closing_slashings ≡ length slashings
  pub room : longest_head + longest_line * (header_read bytes).validators ≤ length text

abbrev pub in_front : List ℕ → List ℕ → List ℕ
in_front before xs = xs ++ drop (length xs) before

-- the longest text: the head line and the lines of 814 validators, which are all that 65536 bytes hold
abbrev pub longest : ℕ
longest = longest_head + longest_line * 814

-- nothing is written where the longest would not fit
unfoldable pub printed_text : List ℕ → List ℕ → List ℕ
printed_text bytes text = cond (leb longest (length text)) (in_front text (listing bytes)) text

unfoldable pub printed_length : List ℕ → List ℕ → ℕ
printed_length bytes text = cond (leb longest (length text)) (length (listing bytes)) 0

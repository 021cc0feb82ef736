-- What closes one after the other leave.
use Rattle.std.specs.Prelude.{List, ◌≡◌, ℕ, ◌+◌, ◌*◌, ◌≤◌, length}
use Rattle.definitions_file.specs.File.{Contents}
use Rattle.fields.specs.Put.{Put}
use Rattle.definitions_file.specs.OutageRun.{Run}
use Rattle.listing_lines.specs.Sizes.{longest_head}

-- 0 or the refusal's number, the record as it then stands, and the head lines put into the text from `at` on
pub record Went (r : Run) (closes : ℕ) (before : List ℕ) (at : ℕ) (after : List ℕ) (number : ℕ) (left : Contents) (last : ℕ) : Type 0 where
  pub code : number ≡ r.refusal
  pub stands : left ≡ r.contents
  pub put : Put before at r.heads after last
  pub inside : last ≤ at + longest_head * closes

-- the working buffers are as long as the record's, and there is room for a head line for each of at most 4096 closes
pub record Room (closes : ℕ) (registry slashings closing_registry closing_slashings text : List ℕ) (at : ℕ) : Type 0 where
  pub entries : length closing_registry ≡ length registry
  pub sums : length closing_slashings ≡ length slashings
  pub few : closes ≤ 4096
  pub heads : at + longest_head * closes ≤ length text

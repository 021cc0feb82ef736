-- What listing a close leaves in the lent text.
use Rattle.std.specs.Prelude.{List, ℕ, ◌≤◌, length}
use Rattle.definitions.specs.Close.{Call, close}
use Rattle.fields.specs.Put.{Put}
use Rattle.definitions_file.specs.Lines.{close_printed}

-- the text is put at the front
pub record ListedClose (c : Call) (before after : List ℕ) (end : ℕ) : Type 0 where
  pub text : Put before 0 (close_printed c (close c)) after end
  pub inside : end ≤ length before

-- What a function that puts a text into lent bytes promises.
use Rattle.std.specs.Prelude.{◌≡◌, List, ℕ, ◌+◌, length}
use Rattle.std.proofs.lemmas.List.Edits.{sets}

-- the text stands at `at`, nothing else has changed, and `end` is the place behind it
pub record Put (before : List ℕ) (at : ℕ) (text after : List ℕ) (end : ℕ) : Type 0 where
  pub held : after ≡ sets before at text
  pub stopped : end ≡ at + length text

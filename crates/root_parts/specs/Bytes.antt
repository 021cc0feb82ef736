-- A lookup hands back the root's 32 bytes themselves, a part of the roots that it was lent; a refused one an empty part.
use Rattle.std.specs.Prelude.{List, [], ℕ}
use Rattle.definitions.specs.Checked.{Checked, value, refused}

abbrev pub bytes_of : Checked (List ℕ) → List ℕ
bytes_of (value root) = root
bytes_of (refused r) = []

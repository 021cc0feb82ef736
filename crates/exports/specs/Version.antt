-- The number of the interface, raised when a declaration changes.
use Rattle.std.specs.Prelude.{ℕ}

abbrev pub version : ℕ
version = 5

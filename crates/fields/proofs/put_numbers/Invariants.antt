use mathlib.Core.Path.{◌≡◌}
use Prim.Native.Nat.{◌≤◌, ◌+◌, ◌*◌}
use lib.ListN.{length, drop}
use Rattle.definitions_file.specs.File.{numbers_to_bytes}
use Rattle.fields.proofs.Stores.{Storing}
use Rattle.fields.proofs.put_numbers.Given as goal

abbrev pub invariant-loop-n : goal.invariant-loop-n
invariant-loop-n l =
    (l.n-index ≤ length l.numbers)
    × (l.to ≡ l.at + 8 * l.n-index)
    × Storing l.initial.file l.at (numbers_to_bytes l.numbers) l.file l.to (numbers_to_bytes (drop l.n-index l.numbers))

use mathlib.Core.Path.{◌≡◌}
use Prim.Native.Nat.{◌≤◌, ◌+◌, ◌*◌, ◌-◌}
use lib.ListN.{length, drop}
use Rattle.definitions_file.specs.File.{numbers_from_bytes}
use Rattle.fields.proofs.Stores.{Storing}
use Rattle.fields.proofs.read_numbers.Given as goal

abbrev pub invariant-loop-i : goal.invariant-loop-i
invariant-loop-i l =
    (l.i ≤ length l.initial.numbers)
    × (l.position ≡ l.at + 8 * l.i)
    × Storing l.initial.numbers 0 (numbers_from_bytes (length l.initial.numbers) (drop l.at l.bytes)) l.numbers l.i (numbers_from_bytes (length l.initial.numbers - l.i) (drop (l.at + 8 * l.i) l.bytes))

abbrev pub decreases-loop-i : goal.decreases-loop-i
decreases-loop-i l = length l.initial.numbers - l.i

use mathlib.Core.Path.{◌≡◌}
use Prim.Native.Nat.{◌*◌, ◌≤◌}
use lib.Dec.{leb}
use lib.ListN.{length, drop}
use Rattle.definitions.specs.Lists.{maximum}
use Rattle.definitions_file.specs.Shelf.{holds_longest}
use Rattle.shelf.proofs.holds_longest.Given as goal

abbrev pub invariant-loop-n : goal.invariant-loop-n
invariant-loop-n l = (l.n-index ≤ length l.lengths) × (holds_longest l.lengths l.numbers ≡ leb (maximum 0 (drop l.n-index l.lengths)) (8 * length l.numbers))

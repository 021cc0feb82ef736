use mathlib.Core.Path.{◌≡◌}
use Prim.Native.Nat.{◌-◌}
use lib.Dec.{ltb}
use lib.ListN.{length}
use Rattle.shelf.proofs.Shelving.{Shelving}
use Rattle.shelf.proofs.close_files.Given as goal

abbrev pub invariant-loop-more : goal.invariant-loop-more
invariant-loop-more l =
    Shelving l.fork l.bellatrix l.lengths l.files l.initial.closing l.i l.at l.closing l.answers
    × (length l.opening_numbers ≡ length l.initial.opening_numbers)
    × (length l.closing_numbers ≡ length l.initial.closing_numbers)
    × (l.more ≡ ltb l.i (length l.lengths))

abbrev pub decreases-loop-more : goal.decreases-loop-more
decreases-loop-more l = length l.lengths - l.i

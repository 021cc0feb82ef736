use mathlib.Core.Path.{◌≡◌}
use mathlib.Core.Bool.{Bool}
use lib.ListN.{length}
use Prim.Native.Nat.{◌/◌, ◌≤◌}
use Rattle.definitions.specs.Record.{Validator, decode_one}
use Rattle.laws.proofs.Loops.Counted.{Counted}
use Rattle.over_entries.proofs.count_entries.Given as goal

abbrev pub invariant-loop-entry : goal.invariant-loop-entry
invariant-loop-entry g l =
    (l.count ≤ l.entry-index)
    × ((p : Validator → Bool) → ((e : _) (r : _) → length e.now ≡ 10 → goal.F-post g l.test e r → r ≡ p (decode_one e.now)) → Counted p (length l.registry / 10) l.registry l.entry-index l.count)

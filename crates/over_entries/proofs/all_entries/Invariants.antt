use mathlib.Core.Path.{◌≡◌}
use mathlib.Core.Bool.{Bool}
use lib.ListN.{length}
use Prim.Native.Nat.{ℕ, ◌/◌}
use Rattle.definitions.specs.Record.{Validator, decode_one}
use Rattle.laws.proofs.Loops.Tested.{Tested}
use Rattle.over_entries.proofs.all_entries.Given as goal

abbrev pub invariant-loop-entry : goal.invariant-loop-entry
invariant-loop-entry g l = (p : Validator → Bool) → ((e : _) (r : _) → length e.now ≡ 10 → goal.F-post g l.test e r → r ≡ p (decode_one e.now)) → Tested p (length l.registry / 10) l.registry l.entry-index

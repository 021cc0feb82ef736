use mathlib.Core.Path.{◌≡◌}
use lib.ListN.{length}
use Prim.Native.Nat.{ℕ, ◌/◌}
use Rattle.definitions.specs.Record.{Validator, decode_one}
use Rattle.laws.proofs.Loops.Summed.{Summed}
use Rattle.over_entries.proofs.sum_entries.Given as goal

abbrev pub invariant-loop-entry : goal.invariant-loop-entry
invariant-loop-entry g l = (w : Validator → ℕ) → ((e : _) (r : _) → length e.now ≡ 10 → goal.F-post g l.weight e r → r ≡ w (decode_one e.now)) → Summed w (length l.registry / 10) l.registry l.entry-index l.sum

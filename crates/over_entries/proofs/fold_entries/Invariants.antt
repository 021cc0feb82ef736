use mathlib.Core.Path.{◌≡◌}
use mathlib.Core.Bool.{Bool}
use lib.ListN.{length}
use Prim.Native.Nat.{ℕ, ◌/◌}
use Rattle.definitions.specs.Record.{Validator, decode_one}
use Rattle.laws.proofs.Loops.Folded.{Folded}
use Rattle.over_entries.proofs.fold_entries.Given as goal

abbrev pub invariant-loop-entry : goal.invariant-loop-entry
invariant-loop-entry g l = (h : g.row.S.Denot → Validator → g.row.S.Denot) → ((s : _) (e : _) (r : _) → length e.now ≡ 10 → goal.F-post g l.step s e r → r ≡ h s (decode_one e.now)) → Folded h l.initial.state (length l.registry / 10) l.registry l.entry-index l.state

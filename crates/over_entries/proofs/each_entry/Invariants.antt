use mathlib.Core.Path.{◌≡◌}
use lib.ListN.{length}
use Prim.Native.Nat.{◌-◌}
use Rattle.definitions.specs.Checked.{Checked}
use Rattle.definitions.specs.Record.{Validator}
use Rattle.laws.specs.Ran.{Settles}
use Rattle.laws.proofs.Loops.Checking.{Checking}
use Rattle.over_entries.proofs.each_entry.Given as goal

abbrev pub invariant-loop-i : goal.invariant-loop-i
invariant-loop-i g l =
    (f : Validator → Checked Validator)
    → ((e : _) (r : _) (e' : _) → length e.now ≡ 10 → goal.F-post g l.rule e r e' → Settles f e.now e'.now r)
    → Checking f l.n l.initial.registry l.i l.registry

abbrev pub decreases-loop-i : goal.decreases-loop-i
decreases-loop-i g l = l.n - l.i

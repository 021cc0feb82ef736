use mathlib.Core.Path.{◌≡◌}
use lib.ListN.{length}
use Prim.Native.Nat.{◌-◌}
use Rattle.definitions.specs.Record.{Validator, decode_one, encode_one}
use Rattle.laws.proofs.Loops.Mapped.{Mapped}
use Rattle.over_entries.proofs.map_entries.Given as goal

abbrev pub invariant-loop-i : goal.invariant-loop-i
invariant-loop-i g l =
    (f : Validator → Validator) → ((e : _) (r : _) (e' : _) → length e.now ≡ 10 → goal.F-post g l.rule e r e' → e'.now ≡ encode_one (f (decode_one e.now))) → Mapped f l.n l.initial.registry l.i l.registry

abbrev pub decreases-loop-i : goal.decreases-loop-i
decreases-loop-i g l = l.n - l.i

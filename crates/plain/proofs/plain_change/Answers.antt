-- a signed number of 64 bits is the same once it has gone through 64 bits
use mathlib.Core.Path.{◌≡◌}
use Prim.Native.Nat.{◌<◌, ◌^◌}
use lib.IntN.{ℤ}
use lib.Signed.{mag}
use mir.Syntax.{w64}
use mir.Val.{to_z, of_z}
use mir.Facts.{to_z-of_z}
use Rattle.definitions.specs.NetChange.{plain_change}
use Rattle.plain.proofs.plain_change.Goals as goal

same : (z : ℤ) → mag z < 2 ^ 63 → to_z w64 (of_z w64 z) ≡ z
same z h = to_z-of_z {w = w64} (record { sfits = h })

pub returns-in-Ok : goal.returns-in-Ok
unfolding plain_change
returns-in-Ok c =
    let w = rw c.in-Ok.is at c.well_formed in
    rw (c.in-Ok.is, same c.in-Ok.value w.0.1.1.1.1.0.1)

pub returns-in-Err : goal.returns-in-Err
unfolding plain_change
returns-in-Err c = rw (c.in-Err.is, c.number-refusal.ensures)

use mathlib.Core.Path.{◌≡◌}
use Prim.Native.Nat.{◌-◌, ◌*◌}
use native.Mathlib.Omega.{arith}
use lib.Seq.{length-take-le}
use Rattle.electra_close.proofs.Ending.{front-rotated}
use Rattle.electra_close.proofs.last_in_front.Goals as goal

pub last_two-requires : goal.last_two-requires
last_two-requires c =
    let p = c.requires in
    let b = 10 * c.args.count in
    let z : b - 0 ≡ b = omega arith in
    let t = length-take-le b c.args.registry.now p.closing_slashings_len.1 in
    rw (c.under-s.ensures, z) (record { slashings_len = p.slashings_len; closing_slashings_len = p.closing_slashings_len.0; registry_len = omega (arith, t) })

pub returns : goal.returns
returns c =
    let resets = c.last_two.ensures.closing_slashings_after in
    record { closing_slashings_after = (rw c.under-s.ensures at resets); registry_after = front-rotated (10 * c.args.count) c.args.registry.now c.last_two.ensures.registry_after }

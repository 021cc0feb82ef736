use mathlib.Core.Path.{◌≡◌}
use Prim.Native.Nat.{◌+◌, ◌-◌}
use native.Mathlib.Omega.{arith}
use lib.ListN.{take, drop}
use Rattle.fields.proofs.checkpoint_at.Goals as goal

pub returns : goal.returns
returns c =
    let epoch = c.read_number-epoch in
    let from = epoch.result.position in
    let k : from + 32 - from ≡ 32 = omega arith in
    let root : c.copy_from_slice.new.self ≡ take 32 (drop from c.args.bytes.now) = rw k at c.copy_from_slice.ensures.after in
    rw (epoch.ensures.0, root, epoch.ensures.1)

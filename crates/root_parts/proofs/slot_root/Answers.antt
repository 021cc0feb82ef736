use mathlib.Core.Path.{◌≡◌}
use Prim.Native.Nat.{◌+◌, ◌-◌, ◌*◌, ◌%◌}
use native.Mathlib.Omega.{arith}
use Rattle.definitions.specs.Document.Phase0.Helpers.{get_block_root_at_slot}
use Rattle.root_parts.proofs.slot_root.Goals as goal

pub returns : goal.returns
unfolding get_block_root_at_slot
returns c =
    let a = c.args in
    let start = 32 * (a.slot % a.s.slots_per_historical_root) in
    let k : start + 32 - start ≡ 32 = omega arith in
    rw k

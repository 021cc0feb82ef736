-- The last slot of the next epoch lies above the slot, and no more than two epochs above it.
use mathlib.Core.Path.{◌≡◌, ◌∙◌}
use Prim.Native.Nat.{ℕ, ◌+◌, ◌*◌, ◌/◌, ◌≤◌, ◌<◌}
use native.Mathlib.Nat.{div-add-mod, mod-lt, mul_comm, mul-add}
use native.Mathlib.Omega.{arith}

pub record Next (length slot : ℕ) : Type 0 where
  pub above : slot + 1 < (slot / length + 2) * length
  pub below : (slot / length + 2) * length ≤ slot + 2 * length

pub next : (length slot : ℕ) → 0 < length → Next length slot
next length slot p =
    let e = div-add-mod slot length in
    let m = mod-lt slot p in
    let q : (slot / length + 2) * length ≡ length * (slot / length) + length * 2 = mul_comm (slot / length + 2) length ∙ mul-add length (slot / length) 2 in
    record { above = omega (arith, e, m, q); below = omega (arith, e, m, q) }

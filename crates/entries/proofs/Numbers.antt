-- A comparison with an epoch's next, and a power of two below 2^8.
use mathlib.Core.Bool.{Bool, true, false}
use mathlib.Core.Path.{◌≡◌, refl, sym}
use Prim.Native.Nat.{ℕ, ◌+◌, ◌-◌, ◌*◌, ◌%◌, ◌^◌, ◌≤◌}
use native.Mathlib.Nat.{one-mul, mod-eq_of_lt}
use native.Mathlib.Omega.{arith}
use borrow.Author.Tests.{lt-ltb, le-ltb, ltb-true, ltb-false}
use lib.Dec.{ltb}
use lib.Pow.{pow_mono}

pub none_before : (n limit : ℕ) → limit ≡ 0 → ltb n limit ≡ false
none_before n limit z = le-ltb n limit (omega arith)

-- without adding 1, which may leave 64 bits
pub before_last : (epoch limit : ℕ) → (limit ≡ 0 → ⊥) → ltb epoch (limit - 1) ≡ ltb (epoch + 1) limit
before_last epoch limit h = go (ltb epoch (limit - 1)) refl
  where
    go : (t : Bool) → ltb epoch (limit - 1) ≡ t → t ≡ ltb (epoch + 1) limit
    go true e = let l = ltb-true epoch (limit - 1) e in sym (lt-ltb (epoch + 1) limit (omega arith))
    go false e = let l = ltb-false epoch (limit - 1) e in sym (le-ltb (epoch + 1) limit (omega arith))

pub flag_small : {i : ℕ} → i ≤ 7 → 2 ^ i ≤ 128
flag_small l = pow_mono l

pub flag_power : (i : ℕ) → i ≤ 7 → 1 * 2 ^ i % 2 ^ 64 ≡ 2 ^ i
flag_power i l = let p = flag_small l in rw (one-mul (2 ^ i)) (mod-eq_of_lt (omega arith))

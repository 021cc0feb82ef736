-- Newton's iteration for the square root of n, from above: the first guess, and what a turn keeps.
use mathlib.Core.Path.{◌≡◌, sym, subst, ◌∙◌}
use Prim.Native.Nat.{ℕ, zero, suc, ◌+◌, ◌-◌, ◌*◌, ◌/◌, ◌%◌, ◌^◌, ◌≤◌, ◌<◌}
use native.Mathlib.Omega.{arith}
use native.Mathlib.Decide.{dec_le}
use native.Mathlib.Nat.{zero-lt-suc, one-mul, mul_comm, mul_left_comm, mul-add, add-mul, mul-le-mul_left, lt-mul-div-succ, le-div_iff_mul-le}
use native.Mathlib.Numerals.{one-add}
use lib.Dec.{lit<}
use lib.Pow.{pow_mono, pow_pos, pow-add, shl_exact}
use lib.Count.{count_leading_zeros, leading_length}
use Rattle.laws.specs.SquareRoot.{Root}

-- A product is at most the square of the mean of its factors

square : (a d : ℕ) → (a + d) * (a + d) ≡ a * a + 2 * (a * d) + d * d
square a d = rw (mul-add (a + d) a d, add-mul a d a, add-mul a d d, mul_comm d a) (omega arith)

product-below : (a d b : ℕ) → b ≤ a + 2 * d → a * b ≤ (a + d) * (a + d)
product-below a d b h =
    let l : a * b ≤ a * (a + 2 * d) = mul-le-mul_left a h in
    let t : a * (a + 2 * d) ≡ a * a + 2 * (a * d) = rw (mul-add a a (2 * d), mul_left_comm a 2 d) in
    omega (arith, square a d)

mean : (a b m : ℕ) → a + b ≤ 2 * m → a * b ≤ m * m
mean a b m h = go (dec_le a m)
  where
    half : (a b : ℕ) → a ≤ m → a + b ≤ 2 * m → a * b ≤ m * m
    half a b l h =
        let e : a + (m - a) ≡ m = omega arith in
        rw e at (product-below a (m - a) b (omega arith))

    go : Dec (a ≤ m) → a * b ≤ m * m
    go (yes l) = half a b l h
    go (no l) = rw (mul_comm a b) (half b a (omega arith) (omega arith))

newton_above : (n r : ℕ) → 0 < r → n < ((r + n / r) / 2 + 1) * ((r + n / r) / 2 + 1)
newton_above n r p =
    let a = lt-mul-div-succ n p in
    let b = mean r (n / r + 1) ((r + n / r) / 2 + 1) (omega arith) in
    omega arith

-- What the loop keeps: r is not below the root, and a turn's sum fits 64 bits

pub record Near (n r : ℕ) : Type 0 where
  pub begun : 0 < n
  pub above : n < (r + 1) * (r + 1)
  pub most : r ≤ 2 ^ 32
  pub pos : 0 < r

pub exponent : (n : ℕ) → n < 2 ^ 64 → (65 - count_leading_zeros 64 n) / 2 ≤ 32
exponent n h = let l = leading_length 64 n h in omega (arith, l.1)

-- the square of the first guess, 2 ^ s, is above n
guess : (n s m : ℕ) → n < 2 ^ m → m ≤ s + s → n < (2 ^ s + 1) * (2 ^ s + 1)
guess n s m h l =
    let e : 2 ^ (s + s) ≡ 2 ^ s * 2 ^ s = pow-add 2 s s in
    let p : 2 ^ m ≤ 2 ^ (s + s) = pow_mono l in
    omega (arith, square (2 ^ s) 1)

one_shl : (l : ℕ) → l < 64 → (1 * 2 ^ l) % 2 ^ 64 ≡ 2 ^ l
one_shl l h = shl_exact {a = 1} 1 l 64 (lit< tt) (subst (λ (x : ℕ). x ≤ 64) (sym (one-add l)) h) ∙ one-mul (2 ^ l)

pub first : (n : ℕ) → 0 < n → n < 2 ^ 64 → Near n ((1 * 2 ^ ((65 - count_leading_zeros 64 n) / 2)) % 2 ^ 64)
first n p h =
    let l = leading_length 64 n h in
    let s = (65 - count_leading_zeros 64 n) / 2 in
    let m : s ≤ 32 = exponent n h in
    rw (one_shl s (omega arith)) (record { begun = p; above = guess n s l.0 l.2 (omega (arith, l.1)); most = pow_mono m; pos = pow_pos s })

pub falls : (n r : ℕ) → n / r < r → (r + n / r) / 2 < r
falls n r t = omega arith

pub turn : (n r : ℕ) → Near n r → n / r < r → Near n ((r + n / r) / 2)
turn n r i t =
    let a = newton_above n r i.pos in
    record { begun = i.begun; above = a; most = omega arith; pos = positive ((r + n / r) / 2) a }
  where
    positive : (s : ℕ) → n < (s + 1) * (s + 1) → 0 < s
    positive zero h = absurd (omega (arith, i.begun))
    positive (suc k) h = zero-lt-suc k

pub root : (n r : ℕ) → Near n r → r ≤ n / r → Root n r
root n r i t = record { below = (le-div_iff_mul-le i.pos).0 t; above = i.above }

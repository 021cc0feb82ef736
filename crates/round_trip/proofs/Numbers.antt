-- Numbers to bytes and back, one and many.
use mathlib.Core.Path.{◌≡◌, refl, ap, ap₂}
use mathlib.Core.List.{List, [], ◌∷◌, ◌++◌, append_assoc}
use Prim.Native.Nat.{ℕ, zero, suc, ◌+◌, ◌*◌, ◌/◌, ◌%◌, ◌^◌, ◌≤◌, ◌<◌}
use native.Mathlib.Nat.{pow-succ', mod-add-div}
use native.Mathlib.Omega.{arith}
use lib.ListN.{length, get_or, take, drop, length-take, length-drop}
use lib.Seq.{take_at, drop_at, take-add, get_or-take, get_or-drop, length-take-le}
use Rattle.definitions_file.specs.File.{little_endian, from_little_endian, numbers_to_bytes, numbers_from_bytes, number_at}
use Rattle.laws_file.proofs.Numbers.{length_little}
use Rattle.round_trip.specs.RoundTrip.{Below}

-- Numbers below a bound, in parts

pub below_nil : {n : ℕ} → Below n []
below_nil = record { each = λ i h. absurd (omega arith) }

pub below_cons : {n x : ℕ} {xs : List ℕ} → x < n → Below n xs → Below n (x ∷ xs)
below_cons {n} {x} {xs} h b = record { each = at }
  where
    at : (i : ℕ) → i < length (x ∷ xs) → get_or (x ∷ xs) i 0 < n
    at zero l = h
    at (suc i) l = b.each i (omega arith)

pub below-head : {n x : ℕ} {xs : List ℕ} → Below n (x ∷ xs) → x < n
below-head b = b.each 0 (omega arith)

pub below-tail : {n x : ℕ} {xs : List ℕ} → Below n (x ∷ xs) → Below n xs
below-tail b = record { each = λ i h. b.each (suc i) (omega arith) }

pub below-drop : {n : ℕ} (k : ℕ) {xs : List ℕ} → Below n xs → Below n (drop k xs)
below-drop {n} k {xs} b = record { each = λ i h. rw get_or-drop (b.each (k + i) (omega (arith, length-drop k xs))) }

pub below-take : {n : ℕ} (k : ℕ) {xs : List ℕ} → Below n xs → Below n (take k xs)
below-take {n} k {xs} b =
    record { each = λ i h. let l : i < k = omega (arith, length-take k xs) in rw get_or-take (b.each i (omega (arith, length-take k xs))) }

pub below-append : {n : ℕ} {xs ys : List ℕ} → Below n xs → Below n ys → Below n (xs ++ ys)
below-append {xs = []} b d = d
below-append {xs = x ∷ xs} b d = below_cons (below-head b) (below-append (below-tail b) d)

-- One number

pub little_read : (k n : ℕ) → n < 256 ^ k → from_little_endian (little_endian k n) ≡ n
unfolding little_endian from_little_endian
little_read zero n h = omega arith
little_read (suc k) n h =
    let p : n < 256 * 256 ^ k = rw pow-succ' at h in
    rw (little_read k (n / 256) (omega arith)) (mod-add-div n 256)

pub little_written : (bytes : List ℕ) → Below 256 bytes → little_endian (length bytes) (from_little_endian bytes) ≡ bytes
unfolding little_endian from_little_endian
little_written [] b = refl
little_written (x ∷ xs) b =
    let h = below-head b in
    let rest = from_little_endian xs in
    let low : (x + 256 * rest) % 256 ≡ x = omega arith in
    let high : (x + 256 * rest) / 256 ≡ rest = omega arith in
    rw (low, high) (ap (λ (t : List ℕ). x ∷ t) (little_written xs (below-tail b)))

pub little_below : (k n : ℕ) → Below 256 (little_endian k n)
unfolding little_endian
little_below zero n = below_nil
little_below (suc k) n = below_cons (omega arith) (little_below k (n / 256))

-- a list that is too short reads as if zeros stood behind it
pub little_bound : (k : ℕ) (bytes : List ℕ) → Below 256 bytes → from_little_endian (take k bytes) < 256 ^ k
unfolding from_little_endian
little_bound zero bytes b = omega arith
little_bound (suc k) [] b = rw pow-succ' (omega (arith, little_bound k [] b))
little_bound (suc k) (x ∷ xs) b = rw pow-succ' (omega (arith, below-head b, little_bound k xs (below-tail b)))

-- eight bytes hold what a u64 holds
pub eight-read : (n : ℕ) → n < 2 ^ 64 → from_little_endian (little_endian 8 n) ≡ n
eight-read n h = little_read 8 n h

pub eight-written : (bytes : List ℕ) → Below 256 bytes → length bytes ≡ 8 → little_endian 8 (from_little_endian bytes) ≡ bytes
eight-written bytes b e = rw (← e) (little_written bytes b)

-- Many

-- with whatever stands behind them
pub numbers-read : (xs rest : List ℕ) → Below (2 ^ 64) xs → numbers_from_bytes (length xs) (numbers_to_bytes xs ++ rest) ≡ xs
unfolding numbers_to_bytes numbers_from_bytes
numbers-read [] rest b = refl
numbers-read (x ∷ xs) rest b =
    let l = length_little 8 x in
    rw (append_assoc, take_at (little_endian 8 x) (numbers_to_bytes xs ++ rest) 8 l, drop_at (little_endian 8 x) (numbers_to_bytes xs ++ rest) 8 l, eight-read x (below-head b), numbers-read xs rest (below-tail b))

pub numbers-written : (n : ℕ) (bytes : List ℕ) → Below 256 bytes → 8 * n ≤ length bytes → numbers_to_bytes (numbers_from_bytes n bytes) ≡ take (8 * n) bytes
unfolding numbers_to_bytes numbers_from_bytes
numbers-written zero bytes b h = refl
numbers-written (suc n) bytes b h =
    let e : 8 * suc n ≡ 8 + 8 * n = omega arith in
    let l : 8 ≤ length bytes = omega arith in
    rw (e, take-add) (ap₂ ◌++◌ (eight-written (take 8 bytes) (below-take 8 b) (length-take-le 8 bytes l)) (numbers-written n (drop 8 bytes) (below-drop 8 b) (omega (arith, length-drop 8 bytes))))

pub to_bytes_below : (xs : List ℕ) → Below 256 (numbers_to_bytes xs)
unfolding numbers_to_bytes
to_bytes_below [] = below_nil
to_bytes_below (x ∷ xs) = below-append (little_below 8 x) (to_bytes_below xs)

pub number-below : (o : ℕ) {bytes : List ℕ} → Below 256 bytes → number_at o bytes < 2 ^ 64
number-below o {bytes} b = little_bound 8 (drop o bytes) (below-drop o b)

pub from_bytes_below : (n : ℕ) {bytes : List ℕ} → Below 256 bytes → Below (2 ^ 64) (numbers_from_bytes n bytes)
unfolding numbers_from_bytes
from_bytes_below zero b = below_nil
from_bytes_below (suc n) b = below_cons (number-below 0 b) (from_bytes_below n (below-drop 8 b))

-- The registry as a loop over its chunks of ten sees it.
use mathlib.Core.List.{List, []}
use mathlib.Core.Path.{◌≡◌, refl, ap, ◌∙◌}
use Prim.Native.Nat.{ℕ, zero, suc, ◌+◌, ◌-◌, ◌*◌, ◌/◌, ◌<◌}
use native.Mathlib.Omega.{arith}
use lib.ListN.{length, get_or, take, drop}
use lib.Seq.{drop-drop}
use Rattle.std.specs.Simd.{first_chunks}
use Rattle.laws.proofs.Loops.Entry.{entry_at}

pub length-chunks : (k n : ℕ) (xs : List ℕ) → length (first_chunks k n xs) ≡ n
length-chunks k zero xs = refl
length-chunks k (suc n) xs = ap suc (length-chunks k n (drop k xs))

ten-from : (n : ℕ) (xs : List ℕ) (i : ℕ) → i < n → get_or (first_chunks 10 n xs) i [] ≡ take 10 (drop (10 * i) xs)
ten-from zero xs i l = absurd (omega arith)
ten-from (suc n) xs zero l = refl
ten-from (suc n) xs (suc i) l =
    let e : 10 * suc i ≡ 10 + 10 * i = omega arith in
    ten-from n (drop 10 xs) i (omega arith) ∙ rw e (ap (take 10) (drop-drop (10 * i) 10 xs))

-- chunk i is the ten numbers of validator i
pub chunk-at : (n : ℕ) (xs : List ℕ) (i : ℕ) {chunks : List (List ℕ)} → chunks ≡ first_chunks 10 n xs → i < n → get_or chunks i [] ≡ entry_at xs i
chunk-at n xs i e l =
    let ten : 10 * i + 10 - 10 * i ≡ 10 = omega arith in
    rw (e, ten) (ten-from n xs i l)

-- what a turn of a loop over the chunks sees
pub record Chunk (xs : List ℕ) (chunks : List (List ℕ)) (i : ℕ) : Type 0 where
  pub below : i < length xs / 10
  pub is : get_or chunks i [] ≡ entry_at xs i

pub chunk : {xs : List ℕ} {chunks : List (List ℕ)} {i : ℕ} → chunks ≡ first_chunks 10 (length xs / 10) xs → length chunks ≡ length xs / 10 → i < length chunks → Chunk xs chunks i
chunk {xs} {chunks} {i} e long l =
    let below : i < length xs / 10 = omega (arith, long, l) in
    record { below = below; is = chunk-at (length xs / 10) xs i e below }

-- The bytes of a number, and numbers one after the other.
use mathlib.Core.Path.{◌≡◌, refl, sym, ap, ap₂, ◌∙◌}
use mathlib.Core.List.{List, [], ◌∷◌, ◌++◌}
use Prim.Native.Nat.{ℕ, zero, suc, ◌+◌, ◌*◌, ◌/◌, ◌%◌, ◌-◌, ◌^◌, ◌≤◌, ◌<◌}
use native.Mathlib.Numerals.{add-one}
use native.Mathlib.Nat.{pow-succ', mul_comm}
use native.Mathlib.Omega.{arith}
use Rattle.std.proofs.Math.Nat.{div-div-eq-div-mul}
use Rattle.std.specs.Int.{w64, byte_at, bytes_low_first, to_le_bytes, from_le_bytes}
use lib.ListN.{length, get_or, drop, length-append, drop_of_length-le}
use lib.Seq.{drop-cons, drop-drop}
use Rattle.definitions.specs.declared.Checkpoint.{Checkpoint}
use Rattle.definitions.specs.declared.Finality.{Finality}
use Rattle.definitions.specs.declared.ExitQueue.{ExitQueue}
use Rattle.definitions_file.specs.File.{little_endian, from_little_endian, numbers_to_bytes, numbers_from_bytes, number_at, checkpoint_to_bytes, finality_to_bytes, queue_to_bytes}
use Rattle.laws_file.proofs.Numbers.{length_little}

-- the bytes of a number, its last one first, as the library gives and takes them

byte-is : (i n : ℕ) → byte_at i n ≡ n / 256 ^ i % 256
byte-is zero n = omega arith
byte-is (suc i) n = refl

bytes-are : (i k n : ℕ) → bytes_low_first i k n ≡ little_endian k (n / 256 ^ i)
unfolding little_endian
bytes-are i zero n = refl
bytes-are i (suc k) n = ap₂ ◌∷◌ (byte-is i n) (bytes-are (suc i) k n ∙ ap (little_endian k) (sym (div-div n i)))
  where
    div-div : (n i : ℕ) → n / 256 ^ i / 256 ≡ n / 256 ^ suc i
    div-div n i = rw pow-succ' (div-div-eq-div-mul n (256 ^ i) 256 ∙ ap (λ (k : ℕ). n / k) (mul_comm (256 ^ i) 256))

pub written-number : (n : ℕ) → to_le_bytes w64 n ≡ little_endian 8 n
written-number n = bytes-are 0 8 n ∙ ap (little_endian 8) (omega arith)

pub number-read : (bytes : List ℕ) → length bytes ≡ 8 → from_le_bytes w64 bytes ≡ from_little_endian bytes
unfolding from_little_endian
number-read [] l = absurd (omega arith)
number-read (a ∷ []) l = absurd (omega arith)
number-read (a ∷ b ∷ []) l = absurd (omega arith)
number-read (a ∷ b ∷ c ∷ []) l = absurd (omega arith)
number-read (a ∷ b ∷ c ∷ d ∷ []) l = absurd (omega arith)
number-read (a ∷ b ∷ c ∷ d ∷ e ∷ []) l = absurd (omega arith)
number-read (a ∷ b ∷ c ∷ d ∷ e ∷ f ∷ []) l = absurd (omega arith)
number-read (a ∷ b ∷ c ∷ d ∷ e ∷ f ∷ g ∷ []) l = absurd (omega arith)
number-read (a ∷ b ∷ c ∷ d ∷ e ∷ f ∷ g ∷ h ∷ []) l = omega arith
number-read (a ∷ b ∷ c ∷ d ∷ e ∷ f ∷ g ∷ h ∷ i ∷ more) l = absurd (omega arith)

-- Numbers one after the other

pub to_bytes_more : (xs : List ℕ) (i : ℕ) → i < length xs → numbers_to_bytes (drop i xs) ≡ little_endian 8 (get_or xs i 0) ++ numbers_to_bytes (drop (i + 1) xs)
unfolding numbers_to_bytes
to_bytes_more xs i l = rw (add-one i, drop-cons xs i 0 l)

pub to_bytes_none : (xs : List ℕ) (i : ℕ) → length xs ≤ i → numbers_to_bytes (drop i xs) ≡ []
unfolding numbers_to_bytes
to_bytes_none xs i l = rw (drop_of_length-le xs l)

pub from_bytes_more : (n : ℕ) (bytes : List ℕ) (at i : ℕ) → i < n → numbers_from_bytes (n - i) (drop (at + 8 * i) bytes) ≡ number_at (at + 8 * i) bytes ∷ numbers_from_bytes (n - (i + 1)) (drop (at + 8 * (i + 1)) bytes)
unfolding numbers_from_bytes
from_bytes_more n bytes at i l =
    let m : n - i ≡ suc (n - (i + 1)) = omega arith in
    let k : at + 8 * (i + 1) ≡ at + 8 * i + 8 = omega arith in
    rw (m, k, drop-drop 8 (at + 8 * i) bytes)

pub from_bytes_none : (n : ℕ) (bytes : List ℕ) (i : ℕ) → n ≤ i → numbers_from_bytes (n - i) bytes ≡ []
unfolding numbers_from_bytes
from_bytes_none n bytes i l = let m : n - i ≡ 0 = omega arith in rw m

pub length-checkpoint : (c : Checkpoint) → length c.root ≡ 32 → length (checkpoint_to_bytes c) ≡ 40
length-checkpoint c e = rw length-append (omega (arith, length_little 8 c.epoch))

pub length-finality : (f : Finality) → length f.previous_justified_checkpoint.root ≡ 32 → length f.current_justified_checkpoint.root ≡ 32 → length f.finalized_checkpoint.root ≡ 32 → length (finality_to_bytes f) ≡ 136
length-finality f p c z =
    simp length-append (omega (arith, length_little 8 f.slot, length_little 8 f.justification_bits, length_little 8 f.previous_justified_checkpoint.epoch, length_little 8 f.current_justified_checkpoint.epoch, length_little 8 f.finalized_checkpoint.epoch))

pub length-queue : (q : ExitQueue) → length (queue_to_bytes q) ≡ 16
length-queue q = rw length-append (omega (arith, length_little 8 q.last_epoch, length_little 8 q.number))

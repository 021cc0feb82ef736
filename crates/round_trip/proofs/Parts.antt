-- Parts of a list of bytes: taking one out of a concatenation, and joining neighbours.
use mathlib.Core.Path.{◌≡◌, refl, ◌∙◌}
use mathlib.Core.List.{List, ◌++◌, append_assoc}
use Prim.Native.Nat.{ℕ, ◌+◌, ◌^◌, ◌<◌}
use lib.ListN.{length, take, drop, length-append}
use lib.Seq.{take_at, drop_at, take-add, drop-drop}
use Rattle.definitions.specs.declared.Checkpoint.{Checkpoint}
use Rattle.definitions_file.specs.File.{little_endian, numbers_to_bytes, numbers_from_bytes, number_at, checkpoint_to_bytes, checkpoint_at}
use Rattle.round_trip.specs.RoundTrip.{Below, TypedCheckpoint}
use Rattle.laws_file.proofs.Numbers.{length_little}
use Rattle.round_trip.proofs.Numbers.{eight-read, numbers-read}

-- from o on, xs holds p and then q
pub record At (o : ℕ) (xs p q : List ℕ) : Type 0 where
  pub there : drop o xs ≡ p ++ q

pub at_part : {o m : ℕ} {xs p q : List ℕ} → At o xs p q → length p ≡ m → take m (drop o xs) ≡ p
at_part {o} {m} {xs} {p} {q} a e = rw a.there (take_at p q m e)

-- the part behind it
pub at_next : {o m k : ℕ} {xs p q r : List ℕ} → At o xs p (q ++ r) → length p ≡ m → o + m ≡ k → At k xs q r
at_next {o} {m} {k} {xs} {p} {q} {r} a e s = record { there = rw (← s, ← drop-drop, a.there) (drop_at p (q ++ r) m e) }

-- p itself is two parts
pub at_both : {o : ℕ} {xs r : List ℕ} (p q : List ℕ) → At o xs (p ++ q) r → At o xs p (q ++ r)
at_both {r = r} p q a = record { there = a.there ∙ append_assoc p q r }

-- What is read there

pub length-checkpoint : {c : Checkpoint} → TypedCheckpoint c → length (checkpoint_to_bytes c) ≡ 40
length-checkpoint {c} t = rw (length-append, length_little, t.thirty_two)

pub read_number : {o x : ℕ} {xs q : List ℕ} → At o xs (little_endian 8 x) q → x < 2 ^ 64 → number_at o xs ≡ x
read_number {o} {x} a h = rw (at_part a (length_little 8 x)) (eight-read x h)

pub read-numbers : {o n : ℕ} {xs q : List ℕ} (ns : List ℕ) → At o xs (numbers_to_bytes ns) q → length ns ≡ n → Below (2 ^ 64) ns → numbers_from_bytes n (drop o xs) ≡ ns
read-numbers {q = q} ns a e b = rw (a.there, ← e) (numbers-read ns q b)

pub read-checkpoint : {o : ℕ} {xs q : List ℕ} (c : Checkpoint) → At o xs (checkpoint_to_bytes c) q → TypedCheckpoint c → checkpoint_at o xs ≡ c
read-checkpoint {o} {xs} {q} c a t =
    let epoch = at_both (little_endian 8 c.epoch) c.root a in
    let root : At (o + 8) xs c.root q = at_next epoch (length_little 8 c.epoch) refl in
    rw (read_number epoch t.epoch, at_part root t.thirty_two)

-- Neighbours

-- m from n on, and l behind them
pub join : (n m k l j : ℕ) (xs : List ℕ) → n + m ≡ k → m + l ≡ j → take m (drop n xs) ++ take l (drop k xs) ≡ take j (drop n xs)
join n m k l j xs e f = rw (← e, ← f, take-add, drop-drop)

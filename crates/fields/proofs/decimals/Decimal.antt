-- A number's digits are those of a tenth of it and one more, and how many they are.
use mathlib.Core.Bool.{Bool, true, false}
use mathlib.Core.List.{[], ◌∷◌, ◌++◌}
use mathlib.Core.Logic.{◌⊎◌, inl, inr, ⊎_elim}
use mathlib.Core.Path.{◌≡◌, refl, sym, ap, ◌∙◌}
use Prim.Native.Nat.{ℕ, zero, suc, ◌+◌, ◌/◌, ◌%◌, ◌^◌, ◌≤◌, ◌<◌}
use native.Mathlib.Nat.{pow-succ', lt_of_lt_of_le}
use native.Mathlib.Omega.{arith}
use borrow.Author.Tests.{lt-ltb, le-ltb, ltb-true, ltb-false}
use lib.Dec.{ltb, lit≤}
use lib.ListN.{length, length-append}
use Rattle.definitions_file.specs.Decimal.{digit, digits, decimal}

pub digits-one : (most n : ℕ) → n < 10 → digits (suc most) n ≡ digit n ∷ []
unfolding digits
digits-one most n h = rw (lt-ltb n 10 h)

pub digits_more : (most n : ℕ) → 10 ≤ n → digits (suc most) n ≡ digits most (n / 10) ++ (digit (n % 10) ∷ [])
unfolding digits
digits_more most n h = rw (le-ltb n 10 h)

-- either is so
pub one_or_more : (n : ℕ) → (n < 10) ⊎ (10 ≤ n)
one_or_more n = by (ltb n 10) refl
  where
    by : (t : Bool) → ltb n 10 ≡ t → (n < 10) ⊎ (10 ≤ n)
    by true e = inl (ltb-true n 10 e)
    by false e = inr (ltb-false n 10 e)

-- room for more digits than a number has changes nothing
enough : (a b n : ℕ) → n < a → n < b → digits a n ≡ digits b n
enough zero b n p q = absurd (omega arith)
enough (suc a) zero n p q = absurd (omega arith)
enough (suc a) (suc b) n p q =
    ⊎_elim
    (λ h. digits-one a n h ∙ sym (digits-one b n h))
    (λ h. digits_more a n h ∙ rw (enough a b (n / 10) (omega arith) (omega arith)) (sym (digits_more b n h)))
    (one_or_more n)

pub decimal-one : (n : ℕ) → n < 10 → decimal n ≡ digit n ∷ []
unfolding decimal
decimal-one n h = digits-one n n h

pub decimal-more : (n : ℕ) → 10 ≤ n → decimal n ≡ decimal (n / 10) ++ (digit (n % 10) ∷ [])
unfolding decimal
decimal-more n h = digits_more n n h ∙ rw (enough n (suc (n / 10)) (n / 10) (omega arith) (omega arith))

-- a number below 10^k has at most k digits
few : (k n : ℕ) → n < 10 ^ suc k → length (decimal n) ≤ suc k
few zero n h = rw (decimal-one n (omega (arith, pow-succ' 10 0))) (omega arith)
few (suc k) n h =
    ⊎_elim
    (λ l. rw (decimal-one n l) (omega arith))
    (λ l. rw (decimal-more n l, length-append) (omega (arith, few k (n / 10) (omega (arith, pow-succ' 10 (suc k))))))
    (one_or_more n)

pub twenty : (n : ℕ) → n < 2 ^ 64 → length (decimal n) ≤ 20
twenty n h = few 19 n (lt_of_lt_of_le h (lit≤ tt))

-- where a number's digits have room, so has each of them

pub room-one : (at n len : ℕ) → n < 10 → at + length (decimal n) ≤ len → at < len
room-one at n len h l = omega (arith, ap length (decimal-one n h))

pub room-more : (at n len : ℕ) → 10 ≤ n → at + length (decimal n) ≤ len → at + length (decimal (n / 10)) < len
room-more at n len h l =
    omega (arith, ap length (decimal-more n h), length-append (decimal (n / 10)) (digit (n % 10) ∷ []))

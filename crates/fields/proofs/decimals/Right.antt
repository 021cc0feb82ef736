-- The digits are the number's: read back they give it, and the first is no zero but in "0".
use mathlib.Core.Bool.{Bool, true, ◌&&◌}
use mathlib.Core.List.{List, [], ◌∷◌, ◌++◌}
use mathlib.Core.Logic.{⊎_elim}
use mathlib.Core.Path.{◌≡◌, refl, ◌∙◌}
use Prim.Native.Nat.{ℕ, zero, suc, ◌+◌, ◌-◌, ◌*◌, ◌/◌, ◌%◌, ◌≤◌, ◌<◌}
use native.Mathlib.Omega.{arith}
use borrow.Author.Tests.{le-leb}
use lib.Dec.{leb}
use lib.ListN.{length, get_or, length-append, get_or-append}
use Rattle.definitions.specs.Lists.{all}
use Rattle.definitions_file.specs.Decimal.{digit, digits, decimal}
use Rattle.laws.proofs.Tests.{both}
use Rattle.fields.proofs.decimals.Decimal.{one_or_more, digits-one, digits_more}

-- the number that digits behind a number make of it
unfoldable pub number_in : ℕ → List ℕ → ℕ
number_in n [] = n
number_in n (b ∷ bs) = number_in (10 * n + (b - 48)) bs

abbrev is_digit : ℕ → Bool
is_digit b = leb 48 b && leb b 57

pub record Numeral (n : ℕ) (text : List ℕ) : Type 0 where
  pub value : number_in 0 text ≡ n
  pub digits : all is_digit text ≡ true
  pub some : 0 < length text
  pub leading : 0 < n → 48 < get_or text 0 0

number-last : (n : ℕ) (bs : List ℕ) (b : ℕ) → number_in n (bs ++ (b ∷ [])) ≡ 10 * number_in n bs + (b - 48)
unfolding number_in
number-last n [] b = refl
number-last n (c ∷ bs) b = number-last (10 * n + (c - 48)) bs b

all-last : (bs : List ℕ) (b : ℕ) → all is_digit bs ≡ true → is_digit b ≡ true → all is_digit (bs ++ (b ∷ [])) ≡ true
unfolding all
all-last [] b p q = rw q
all-last (c ∷ bs) b p q =
    let h = both (is_digit c) (all is_digit bs) p in
    rw h.0 (all-last bs b h.1 q)

is_digit_lem : (d : ℕ) → d < 10 → is_digit (digit d) ≡ true
is_digit_lem d h = rw (le-leb 48 (48 + d) (omega arith), le-leb (48 + d) 57 (omega arith))

one : (n : ℕ) → n < 10 → Numeral n (digit n ∷ [])
unfolding number_in all
one n h = record { value = omega arith; digits = rw (is_digit_lem n h); some = omega arith; leading = λ p. omega arith }

more : (n : ℕ) (front : List ℕ) → 10 ≤ n → Numeral (n / 10) front → Numeral n (front ++ (digit (n % 10) ∷ []))
more n front h s =
    record {
      value = number-last 0 front (digit (n % 10)) ∙ rw s.value (omega arith);
      digits = all-last front (digit (n % 10)) s.digits (is_digit_lem (n % 10) (omega arith));
      some = rw length-append (omega arith);
      leading = λ p. rw (get_or-append front (digit (n % 10) ∷ []) 0 0 s.some) (s.leading (omega arith));
    }

numeral : (most n : ℕ) → n < most → Numeral n (digits most n)
numeral zero n h = absurd (omega arith)
numeral (suc most) n h =
    ⊎_elim
    (λ l. rw (digits-one most n l) (one n l))
    (λ l. rw (digits_more most n l) (more n (digits most (n / 10)) l (numeral most (n / 10) (omega arith))))
    (one_or_more n)

pub right : (n : ℕ) → Numeral n (decimal n)
unfolding decimal
right n = numeral (suc n) n (omega arith)

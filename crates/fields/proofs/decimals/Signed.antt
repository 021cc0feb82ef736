-- A signed number in decimal, by its sign: its magnitude as the machine works it out.
use mathlib.Core.Bool.{Bool, true, false}
use mathlib.Core.List.{◌∷◌}
use mathlib.Core.Path.{◌≡◌, sym, ap, ◌∙◌}
use Prim.Native.Nat.{ℕ, suc, ◌+◌, ◌-◌, ◌<◌}
use native.Mathlib.Omega.{arith}
use native.Mathlib.Numerals.{add-one}
use borrow.Author.Tests.{le-ltb, ltb-true}
use lib.Dec.{T}
use lib.IntN.{ℤ, pos, negsuc, ◌-ℤ◌, nat_abs}
use lib.Signed.{lt_z, non_neg}
use mir.Syntax.{w64}
use mir.Val.{SFits, Fits, to_z, of_z}
use mir.Facts.{to_z-of_z}
use Rattle.definitions_file.specs.Decimal.{decimal, signed_decimal}

-- a number that has gone through 64 bits
abbrev machine : ℤ → ℤ
machine z = to_z w64 (of_z w64 z)

-- -1 - change
abbrev less : ℤ → ℤ
less z = negsuc 0 -ℤ machine z

-- A loss is -(n + 1), and -1 - change is n
pub record Loss (z : ℤ) : Type 0 where
  pub fits : SFits w64 (less z)
  pub casts : T (non_neg (machine (less z))) × Fits w64 (nat_abs (machine (less z)))
  pub more : Fits w64 (nat_abs (machine (less z)) + 1)
  pub text : 45 ∷ decimal (nat_abs (machine (less z)) + 1) ≡ signed_decimal z

pub record Gain (z : ℤ) : Type 0 where
  pub casts : T (non_neg (machine z)) × Fits w64 (nat_abs (machine z))
  pub text : decimal (nat_abs (machine z)) ≡ signed_decimal z

of-loss : (n : ℕ) → SFits w64 (negsuc n) → Loss (negsuc n)
unfolding signed_decimal
of-loss n f =
    let same : suc n - 1 ≡ n = omega arith in
    let one : negsuc 0 -ℤ negsuc n ≡ pos n = rw (le-ltb (suc n) 1 (omega arith), same) in
    let worked : less (negsuc n) ≡ pos n = ap (λ (z : ℤ). negsuc 0 -ℤ z) (to_z-of_z f) ∙ one in
    let small : SFits w64 (pos n) = record { sfits = f.sfits } in
    let fits : SFits w64 (less (negsuc n)) = rw worked small in
    let told : machine (less (negsuc n)) ≡ pos n = to_z-of_z fits ∙ worked in
    record {
      fits = fits;
      casts = rw told (tt, record { fits = omega (arith, f.sfits) });
      more = rw told (record { fits = omega (arith, f.sfits) });
      text = rw (told, add-one n);
    }

of-gain : (n : ℕ) → SFits w64 (pos n) → Gain (pos n)
unfolding signed_decimal
of-gain n f = record { casts = rw (to_z-of_z f) (tt, record { fits = omega (arith, f.sfits) }); text = rw (to_z-of_z f) }

-- the test, of the number itself
tested : (z : ℤ) {b : Bool} → SFits w64 z → lt_z (machine z) (pos 0) ≡ b → lt_z z (pos 0) ≡ b
tested z f t = sym (ap (λ (y : ℤ). lt_z y (pos 0)) (to_z-of_z f)) ∙ t

pub loss : (z : ℤ) → SFits w64 z → lt_z (machine z) (pos 0) ≡ true → Loss z
loss (negsuc n) f t = of-loss n f
loss (pos n) f t = let l : n < 0 = ltb-true n 0 (tested (pos n) f t) in absurd (omega arith)

pub gain : (z : ℤ) → SFits w64 z → lt_z (machine z) (pos 0) ≡ false → Gain z
gain (pos n) f t = of-gain n f
gain (negsuc n) f t = let k : true ≡ false = tested (negsuc n) f t in absurd (let z : ◌≡◌ {A = ℕ} 0 1 = cc in omega arith)

-- What a net change that was given, or refused, says of the balances.
use mathlib.Core.Bool.{Bool, true, false, cond}
use mathlib.Core.Path.{◌≡◌, refl, sym, ap, subst, ◌∙◌}
use Prim.Native.Nat.{ℕ, zero, suc, ◌+◌, ◌-◌, ◌^◌, ◌≤◌, ◌<◌}
use native.Mathlib.Omega.{arith}
use borrow.Author.Tests.{ltb-true, lt-ltb, le-ltb}
use lib.IntN.{ℤ, pos, negsuc, sub_ℕ, ◌-ℤ◌}
use mir.Syntax.{w64}
use mir.Val.{SFits, to_z, of_z}
use mir.Facts.{to_z_pos, to_z-of_z}
use Rattle.definitions.specs.Checked.{Checked, value, refused}
use Rattle.definitions.specs.declared.Refusal.{Refusal}
use Rattle.definitions.specs.declared.Refusal.TheVariants.{SignedOverflow}
use Rattle.definitions.specs.NetChange.{fits_signed, net_change}
use Rattle.laws.proofs.Checked.{not_value, value_same}

-- -1 - n, as the machine works it out

minus_one : (n : ℕ) → negsuc 0 -ℤ pos n ≡ negsuc n
minus_one zero = refl
minus_one (suc n) = let e : suc (0 + n) ≡ suc n = omega arith in ap negsuc e

module _ (n : ℕ) (l : n < 2 ^ 63) where
  lost : negsuc 0 -ℤ to_z w64 n ≡ negsuc n
  lost = ap (λ (z : ℤ). negsuc 0 -ℤ z) (to_z_pos w64 l) ∙ minus_one n

  pub lost-fits : SFits w64 (negsuc 0 -ℤ to_z w64 n)
  lost-fits = rw lost (record { sfits = l })

  pub lost-told : to_z w64 (of_z w64 (negsuc 0 -ℤ to_z w64 n)) ≡ negsuc n
  lost-told = to_z-of_z lost-fits ∙ lost

-- the leaf's two cases, each with a difference that fits or does not

module _ (opening closing : ℕ) where
  pub gain : opening ≤ closing → closing - opening < 2 ^ 63 → value (pos (closing - opening)) ≡ net_change opening closing
  unfolding net_change fits_signed
  gain l f = rw (le-ltb closing opening l, lt-ltb (closing - opening) (2 ^ 63) f)

  pub gain-wide : opening ≤ closing → 2 ^ 63 ≤ closing - opening → refused SignedOverflow ≡ net_change opening closing
  unfolding net_change fits_signed
  gain-wide l f = rw (le-ltb closing opening l, le-ltb (closing - opening) (2 ^ 63) f)

  module _ {loss : ℕ} (is : loss ≡ opening - suc closing) (l : closing < opening) where
    pub loses : loss < 2 ^ 63 → value (negsuc loss) ≡ net_change opening closing
    unfolding net_change fits_signed
    loses f = rw (lt-ltb closing opening l, ← is, lt-ltb loss (2 ^ 63) f)

    pub loses-wide : 2 ^ 63 ≤ loss → refused SignedOverflow ≡ net_change opening closing
    unfolding net_change fits_signed
    loses-wide f = rw (lt-ltb closing opening l, ← is, le-ltb loss (2 ^ 63) f)

-- what a refusal says of the definition

pub wide : (opening closing : ℕ) {r : Checked ℤ} {p : Refusal} → r ≡ net_change opening closing → r ≡ refused p → net_change opening closing ≡ refused SignedOverflow
unfolding net_change
wide opening closing {p = p} e v = go (fits_signed (sub_ℕ closing opening)) (sym e ∙ v)
  where
    go : (fits : Bool) → cond fits (value (sub_ℕ closing opening)) (refused SignedOverflow) ≡ refused p → cond fits (value (sub_ℕ closing opening)) (refused SignedOverflow) ≡ refused SignedOverflow
    go true f = absurd (not_value (sym f))
    go false f = refl

-- a net change that was given is the same number once it has gone through 64 bits

fits-machine : (d : ℤ) → fits_signed d ≡ true → SFits w64 d
unfolding fits_signed
fits-machine (pos n) e = record { sfits = ltb-true n (2 ^ 63) e }
fits-machine (negsuc n) e = record { sfits = ltb-true n (2 ^ 63) e }

fits-given : (fits : Bool) (d : ℤ) {z : ℤ} → (fits ≡ true → SFits w64 d) → cond fits (value d) (refused SignedOverflow) ≡ value z → SFits w64 z
fits-given true d f e = subst (SFits w64) (value_same e) (f refl)
fits-given false d f e = absurd (not_value e)

pub signed : (opening closing : ℕ) {z : ℤ} → net_change opening closing ≡ value z → to_z w64 (of_z w64 z) ≡ z
unfolding net_change
signed opening closing e =
    let d = sub_ℕ closing opening in
    to_z-of_z (fits-given (fits_signed d) d (fits-machine d) e)

-- and it is closing minus opening
pub difference : (opening closing : ℕ) {z : ℤ} → net_change opening closing ≡ value z → z ≡ sub_ℕ closing opening
unfolding net_change
difference opening closing {z} e = go (fits_signed (sub_ℕ closing opening)) e
  where
    go : (fits : Bool) → cond fits (value (sub_ℕ closing opening)) (refused SignedOverflow) ≡ value z → z ≡ sub_ℕ closing opening
    go true f = sym (value_same f)
    go false f = absurd (not_value f)

-- The net change of a balance. Document 02, R-1.
use Rattle.std.specs.Prelude.{Bool, cond, List, [], ◌∷◌, ℕ, ◌^◌, ltb, ℤ, pos, negsuc}
use Rattle.std.proofs.Math.IntN.{sub_ℕ}
use Rattle.definitions.specs.Record.{Validator}
use Rattle.definitions.specs.Checked.{Checked, value, refused, number_of, bind}
use Rattle.definitions.specs.declared.Refusal.TheVariants.{SignedOverflow}
use Rattle.definitions.specs.declared.PlainChange.{PlainChange}

-- `negsuc n` is -(n + 1): from -2^63 to 2^63 - 1
unfoldable pub fits_signed : ℤ → Bool
fits_signed (pos n) = ltb n (2 ^ 63)
fits_signed (negsuc n) = ltb n (2 ^ 63)

-- "closing minus opening as a signed 64-bit number"; 7 "where the difference does not fit signed 64 bits"
unfoldable pub net_change : ℕ → ℕ → Checked ℤ
net_change opening closing =
    let change = sub_ℕ closing opening in
    cond (fits_signed change) (value change) (refused SignedOverflow)

-- "tested after the close, in validator order"
unfoldable pub change_tests : List Validator → List Validator → Checked (Unit {0})
change_tests [] closing = value tt
change_tests (before ∷ opening) [] = value tt
change_tests (before ∷ opening) (after ∷ closing) = bind (net_change before.balance after.balance) (λ _. change_tests opening closing)

-- as plain numbers
unfoldable pub plain_change : Checked ℤ → PlainChange
plain_change (value x) = record { refusal = 0; value = x }
plain_change (refused r) = record { refusal = number_of r; value = pos 0 }

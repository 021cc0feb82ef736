-- The lent deposits: five numbers each.
use mathlib.Core.Path.{◌≡◌, refl, ap, ◌∙◌}
use mathlib.Core.Bool.{Bool}
use mathlib.Core.List.{List}
use Prim.Native.Nat.{ℕ, zero, suc, ◌+◌, ◌*◌, ◌/◌, ◌<◌}
use native.Mathlib.Omega.{arith}
use native.Mathlib.Nat.{add-zero}
use lib.ListN.{length, get_or, drop}
use lib.Seq.{get_or-drop, drop-drop}
use Rattle.definitions_electra.specs.declared.PendingDeposit.{PendingDeposit}
use Rattle.definitions_electra.specs.Record.{decode_deposit, decode_deposits, first_deposits}

dropped : (i : ℕ) (ds : List ℕ) → drop (5 * i) (drop 5 ds) ≡ drop (5 * suc i) ds
dropped i ds =
    let e : 5 + 5 * i ≡ 5 * suc i = omega arith in
    drop-drop (5 * i) 5 ds ∙ ap (λ (k : ℕ). drop k ds) e

first-at : (m i : ℕ) (ds : List ℕ) (d : PendingDeposit) → i < m → get_or (first_deposits m ds) i d ≡ decode_deposit (drop (5 * i) ds)
unfolding first_deposits
first-at zero i ds d l = absurd (omega arith)
first-at (suc m) zero ds d l = refl
first-at (suc m) (suc i) ds d l = first-at m i (drop 5 ds) d (omega arith) ∙ ap decode_deposit (dropped i ds)

length-first : (m : ℕ) (ds : List ℕ) → length (first_deposits m ds) ≡ m
unfolding first_deposits
length-first zero ds = refl
length-first (suc m) ds = ap suc (length-first m (drop 5 ds))

pub length-deposits : (ds : List ℕ) → length (decode_deposits ds) ≡ length ds / 5
unfolding decode_deposits
length-deposits ds = length-first (length ds / 5) ds

-- the deposit i, by the numbers that are read
abbrev pub deposit_at : List ℕ → ℕ → PendingDeposit
deposit_at ds i =
    record {
      pubkey = get_or ds (5 * i) 0;
      compounding = get_or ds (5 * i + 1) 0;
      amount = get_or ds (5 * i + 2) 0;
      slot = get_or ds (5 * i + 3) 0;
      valid = get_or ds (5 * i + 4) 0;
    }

abbrev pub none : PendingDeposit
none = record { pubkey = 0; compounding = 0; amount = 0; slot = 0; valid = 0 }

pub deposit-at : (ds : List ℕ) (i : ℕ) → i < length ds / 5 → get_or (decode_deposits ds) i none ≡ deposit_at ds i
unfolding decode_deposits
deposit-at ds i l =
    let a : get_or (drop (5 * i) ds) 0 0 ≡ get_or ds (5 * i) 0 = get_or-drop (5 * i) ds 0 0 ∙ rw (add-zero (5 * i)) in
    let g = get_or-drop (5 * i) ds in
    first-at (length ds / 5) i ds none l ∙ rw (a, g 1 0, g 2 0, g 3 0, g 4 0)

-- a test of the five numbers is a test of the deposit i
pub deposit-tested : (p : PendingDeposit → Bool) (ds : List ℕ) {i : ℕ} {t : Bool} → i < length ds / 5 → p (deposit_at ds i) ≡ t → p (get_or (decode_deposits ds) i none) ≡ t
deposit-tested p ds {i} l e = rw (deposit-at ds i l) e

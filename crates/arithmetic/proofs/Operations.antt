-- Where each checked operation gives its value, where it is refused, and that overflow is its one refusal.
use mathlib.Core.Path.{◌≡◌, refl, sym, ap, ◌∙◌}
use mathlib.Core.Bool.{Bool, true, false, cond, ◌&&◌, true≢false}
use mathlib.Core.List.{List}
use Rattle.std.specs.Prelude.{None, Some, SomeIff}
use Rattle.std.specs.declared.option.Option.{Option}
use Rattle.std.specs.Option.{ok_or}
use Prim.Native.Nat.{ℕ, ◌+◌, ◌-◌, ◌*◌, ◌/◌, ◌^◌, ◌≤◌, ◌<◌}
use native.Mathlib.Omega.{arith}
use native.Mathlib.Nat.{le-div_iff_mul-le, div-lt_iff_lt-mul, mul_comm, mul-le-mul}
use borrow.Author.Tests.{le-ltb, le-leb, lt-leb, ltb-true}
use lib.Dec.{ltb, leb}
use Rattle.definitions.specs.Checked.{Checked, value, refused, bind, add64, sub64, mul64, sum64}
use Rattle.definitions.specs.declared.Refusal.{Refusal}
use Rattle.definitions.specs.declared.Refusal.TheVariants.{Overflow}
use Rattle.definitions.specs.Lists.{sum}
use Rattle.laws.proofs.Checked.{not_value}

pub sub64-given : (a b : ℕ) → b ≤ a → sub64 a b ≡ value (a - b)
unfolding sub64
sub64-given a b h = rw (le-leb b a h)

pub sub64-refused : (a b : ℕ) → a < b → sub64 a b ≡ refused Overflow
unfolding sub64
sub64-refused a b h = rw (lt-leb b a h)

pub mul64-refused : (a b : ℕ) → 2 ^ 64 ≤ a * b → mul64 a b ≡ refused Overflow
unfolding mul64
mul64-refused a b h = rw (le-ltb (a * b) (2 ^ 64) h)

-- a product's bound, by division
pub product-fits : (a b : ℕ) → (a ≡ 0 → ⊥) → b ≤ 18446744073709551615 / a → a * b < 2 ^ 64
product-fits a b n h =
    let t : b * a ≤ 18446744073709551615 = (le-div_iff_mul-le {k = a} (omega arith)).0 h in
    rw (mul_comm a b) (omega arith)

pub product-over : (a b : ℕ) → (a ≡ 0 → ⊥) → 18446744073709551615 / a < b → 2 ^ 64 ≤ a * b
product-over a b n h =
    let t : 18446744073709551615 < b * a = (div-lt_iff_lt-mul {k = a} (omega arith)).0 h in
    rw (mul_comm a b) (omega arith)

-- and where both factors are below 2^32
pub small-fits : (a b : ℕ) → a < 4294967296 → b < 4294967296 → a * b < 2 ^ 64
small-fits a b p q =
    let k : a ≤ 4294967295 = omega arith in
    let l : b ≤ 4294967295 = omega arith in
    let m : a * b ≤ 4294967295 * 4294967295 = mul-le-mul k l in
    omega arith

-- The machine's checked operation, and 5 where it gives nothing
pub told : (o : Option ℕ) (P : Type 0) (v : ℕ) {t : Bool} {r : Checked ℕ} → r ≡ ok_or o Overflow → SomeIff o P v → (P → t ≡ true) → ((P → ⊥) → t ≡ false) → r ≡ cond t (value v) (refused Overflow)
told None P v e h y n = rw (e, n h)
told (Some x) P v e h y n = rw (e, y h.0, h.1)

-- No refusal but overflow
pub record OnlyOverflow {A : Type 0} (m : Checked A) : Type 0 where
  pub why : (p : Refusal) → m ≡ refused p → p ≡ Overflow

only-cond : {A : Type 0} (t : Bool) (x : A) → OnlyOverflow (cond t (value x) (refused Overflow))
only-cond true x = record { why = λ p e. absurd (not_value (sym e)) }
only-cond false x = record { why = λ p e. cc }

pub only-value : {A : Type 0} (x : A) → OnlyOverflow (value x)
only-value x = only-cond true x

pub only-add64 : (a b : ℕ) → OnlyOverflow (add64 a b)
unfolding add64
only-add64 a b = only-cond (ltb (a + b) (2 ^ 64)) (a + b)

pub only-sub64 : (a b : ℕ) → OnlyOverflow (sub64 a b)
unfolding sub64
only-sub64 a b = only-cond (leb b a) (a - b)

pub only-mul64 : (a b : ℕ) → OnlyOverflow (mul64 a b)
unfolding mul64
only-mul64 a b = only-cond (ltb (a * b) (2 ^ 64)) (a * b)

pub only-sum64 : (xs : List ℕ) → OnlyOverflow (sum64 xs)
unfolding sum64
only-sum64 xs = only-cond (ltb (sum xs) (2 ^ 64)) (sum xs)

pub only-bind : {A B : Type 0} {m : Checked A} {k : A → Checked B} → OnlyOverflow m → ((x : A) → OnlyOverflow (k x)) → OnlyOverflow (bind m k)
unfolding bind
only-bind {A} {B} {m} {k} h g = go m h
  where
    go : (m : Checked A) → OnlyOverflow m → OnlyOverflow (bind m k)
    go (value x) h = g x
    go (refused p) h = record { why = λ q e. h.why q (cc) }

pub ruleset only = (only-value, only-add64, only-sub64, only-mul64, only-sum64, only-bind)

-- what comes after is refused by 5, so that the whole is
pub refused-after : {A B : Type 0} {m : Checked A} {k : A → Checked B} → OnlyOverflow m → ((x : A) → k x ≡ refused Overflow) → bind m k ≡ refused Overflow
unfolding bind
refused-after {A} {B} {m} {k} o h = go m o
  where
    go : (m : Checked A) → OnlyOverflow m → bind m k ≡ refused Overflow
    go (value x) o = h x
    go (refused p) o = ap refused (o.why p refl)

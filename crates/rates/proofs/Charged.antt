-- What a score costs, case by case.
use mathlib.Core.Path.{◌≡◌, refl, sym, ap, ◌∙◌}
use mathlib.Core.Bool.{Bool, true, false, not, true≢false}
use Prim.Native.Nat.{ℕ, ◌*◌, ◌/◌, ◌^◌, ◌≤◌, ◌<◌}
use native.Mathlib.Nat.{mul-zero, zero-mul, div-lt_iff_lt-mul}
use native.Mathlib.Omega.{arith}
use Rattle.definitions.specs.declared.Deltas.{Deltas}
use Rattle.definitions.specs.declared.Refusal.{Refusal}
use Rattle.definitions.specs.Checked.{Checked, value, refused, bind, mul64}
use Rattle.definitions.specs.declared.Refusal.TheVariants.{Overflow}
use Rattle.definitions.specs.Rust.Altair.Helpers.{no_deltas}
use Rattle.arithmetic.proofs.Operations.{OnlyOverflow, only-value, only-bind, only-mul64, mul64-refused, product-fits, product-over}
use Rattle.rates.specs.Rated.{penalty_of, Most, by_score}
use Rattle.laws.proofs.Fits.{mul64-fits}

pub most-none : {balance : ℕ} → balance ≡ 0 → Most balance 18446744073709551615
most-none z =
    record {
      fits = λ score l. rw (z, zero-mul score) (omega arith);
      over = λ score l m. absurd (omega (arith, l, m));
    }

pub most-some : {balance : ℕ} → (balance ≡ 0 → ⊥) → Most balance (18446744073709551615 / balance)
most-some {balance} n =
    record { fits = λ score l. product-fits balance score n l; over = λ score l m. product-over balance score n m }

-- every refusal is 5
pub only-score : (bias quotient : ℕ) (eligible hit : Bool) (balance score : ℕ) → OnlyOverflow (by_score bias quotient eligible hit balance score)
unfolding by_score
only-score bias quotient true true balance score = only-value _
only-score bias quotient true false balance score = only-bind (only-mul64 _ _) (λ n. only-bind (only-mul64 _ _) (λ d. only-value _))
only-score bias quotient false hit balance score = only-value _

module _ (bias quotient balance score : ℕ) (eligible hit : Bool) where
  pub not_eligible : not eligible ≡ true → value no_deltas ≡ by_score bias quotient eligible hit balance score
  unfolding by_score
  not_eligible e = go eligible e
    where
      go : (b : Bool) → not b ≡ true → value no_deltas ≡ by_score bias quotient b hit balance score
      go true e = absurd (true≢false (sym e))
      go false e = refl

  module _ (e : not eligible ≡ false) where
    pub target_hit : hit ≡ true → value no_deltas ≡ by_score bias quotient eligible hit balance score
    unfolding by_score
    target_hit i = rw i (go eligible)
      where
        go : (b : Bool) → value no_deltas ≡ by_score bias quotient b true balance score
        go true = refl
        go false = refl

    charged : {r : Checked Deltas} → hit ≡ false → r ≡ bind (mul64 balance score) (λ numerator. bind (mul64 bias quotient) (λ denominator. value (penalty_of (numerator / denominator)))) → r ≡ by_score bias quotient eligible hit balance score
    unfolding by_score
    charged {r} i k = rw i (go eligible e)
      where
        go : (b : Bool) → not b ≡ false → r ≡ by_score bias quotient b false balance score
        go true e = k
        go false e = absurd (true≢false e)

    module _ (i : hit ≡ false) where
      pub no-product : {p : Refusal} → mul64 bias quotient ≡ refused p → refused p ≡ by_score bias quotient eligible hit balance score
      unfolding bind
      no-product {p} z = charged i (rw z (go (mul64 balance score) (only-mul64 _ _)))
        where
          go : (m : Checked ℕ) → OnlyOverflow m → ◌≡◌ {A = Checked Deltas} (refused p) (bind m (λ numerator. refused p))
          go (value x) o = refl
          go (refused q) o = ap refused ((only-mul64 _ _).why p z ∙ sym (o.why q refl))

      pub too_much : 2 ^ 64 ≤ balance * score → refused Overflow ≡ by_score bias quotient eligible hit balance score
      unfolding bind
      too_much l = charged i (rw (mul64-refused balance score l))

      module _ {denominator : ℕ} (z : mul64 bias quotient ≡ value denominator) where
        pub by_division : balance * score < 2 ^ 64 → value (penalty_of (balance * score / denominator)) ≡ by_score bias quotient eligible hit balance score
        unfolding bind
        by_division l = charged i (rw (mul64-fits balance score l, z))

        pub none-charged : 0 < denominator → score ≡ 0 → value no_deltas ≡ by_score bias quotient eligible hit balance score
        unfolding bind
        none-charged p o =
            let zero : balance * score ≡ 0 = rw (o, mul-zero balance) in
            let less : 0 / denominator < 1 = (div-lt_iff_lt-mul {k = denominator} p).1 (omega arith) in
            let none : 0 / denominator ≡ 0 = omega arith in
            charged i (rw (mul64-fits balance score (omega (arith, zero)), z, zero, none))

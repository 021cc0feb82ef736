-- A loop over every validator's net change: what is left to be tested decides.
use mathlib.Core.List.{List}
use mathlib.Core.Path.{◌≡◌, refl, ◌∙◌}
use Prim.Native.Nat.{ℕ, suc, ◌+◌, ◌*◌, ◌/◌, ◌≤◌, ◌<◌}
use native.Mathlib.Numerals.{add-one}
use native.Mathlib.Omega.{arith}
use lib.IntN.{ℤ}
use lib.ListN.{length, get_or, drop, drop_of_length-le}
use lib.Seq.{drop-cons}
use Rattle.definitions.specs.Record.{decode, nobody}
use Rattle.definitions.specs.Checked.{value, refused, bind}
use Rattle.definitions.specs.declared.Refusal.{Refusal}
use Rattle.laws.proofs.Encode.{length-decode}
use Rattle.laws.proofs.Loops.Entry.{number-at}
use Rattle.definitions.specs.NetChange.{net_change, change_tests}

pub record Fitting (opening closing : List ℕ) (n i : ℕ) : Type 0 where
  pub count : n ≡ length opening / 10
  pub below : i ≤ n
  pub rest : change_tests (decode opening) (decode closing) ≡ change_tests (drop i (decode opening)) (drop i (decode closing))

-- as many validators as the opening has
pub many : (opening : List ℕ) → length opening ≡ 10 * (length opening / 10) → (xs : List ℕ) → length xs ≡ length opening → length (decode xs) ≡ length opening / 10
many opening shaped xs e = length-decode (length opening / 10) xs (e ∙ shaped)

module _ (opening closing : List ℕ) (shaped : length opening ≡ 10 * (length opening / 10)) (alike : length closing ≡ length opening) where
  -- the tests from the validator i on begin with its own, of the balances where they stand
  first : (i : ℕ) → i < length opening / 10 → change_tests (drop i (decode opening)) (drop i (decode closing)) ≡ bind (net_change (get_or opening (10 * i + 6) 0) (get_or closing (10 * i + 6) 0)) (λ _. change_tests (drop (suc i) (decode opening)) (drop (suc i) (decode closing)))
  unfolding change_tests
  first i l =
      let a : i < length (decode opening) = omega (arith, many opening shaped opening refl) in
      let b : i < length (decode closing) = omega (arith, many opening shaped closing alike) in
      rw (number-at (length opening / 10) opening i shaped l 6 (omega arith), number-at (length opening / 10) closing i (alike ∙ shaped) l 6 (omega arith), drop-cons (decode opening) i nobody a, drop-cons (decode closing) i nobody b)

  pub fitting_none : Fitting opening closing (length opening / 10) 0
  fitting_none = record { count = refl; below = omega arith; rest = refl }

  module _ {n i : ℕ} (f : Fitting opening closing n i) where
    pub fitting_more : {z : ℤ} → i < n → net_change (get_or opening (10 * i + 6) 0) (get_or closing (10 * i + 6) 0) ≡ value z → Fitting opening closing n (i + 1)
    unfolding bind
    fitting_more {z} h g =
        let l : i < length opening / 10 = omega (arith, f.count) in
        record { count = f.count; below = omega arith; rest = rw (add-one i) (f.rest ∙ rw (first i l, g)) }

    pub fitting_wide : {p : Refusal} → i < n → net_change (get_or opening (10 * i + 6) 0) (get_or closing (10 * i + 6) 0) ≡ refused p → change_tests (decode opening) (decode closing) ≡ refused p
    unfolding bind
    fitting_wide h g =
        let l : i < length opening / 10 = omega (arith, f.count) in
        rw (f.rest, first i l, g)

    pub fitting_all : n ≤ i → change_tests (decode opening) (decode closing) ≡ value tt
    unfolding change_tests
    fitting_all h =
        let e : length (decode opening) ≤ i = omega (arith, f.count, many opening shaped opening refl) in
        let none : change_tests (drop i (decode opening)) (drop i (decode closing)) ≡ value tt = rw (drop_of_length-le (decode opening) e) in
        rw (f.rest, none)

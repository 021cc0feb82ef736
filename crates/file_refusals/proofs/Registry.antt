-- Where reading stops in the registry: validator by validator, number by number.
use mathlib.Core.Path.{◌≡◌, refl, sym, ap, ◌∙◌}
use mathlib.Core.Bool.{Bool, true, false, cond}
use mathlib.Core.List.{List, [], ◌∷◌}
use Prim.Native.Nat.{ℕ, zero, suc, ◌+◌, ◌*◌, ◌/◌, ◌-◌, ◌^◌, ◌≤◌, ◌<◌}
use native.Mathlib.Omega.{arith}
use borrow.Author.Tests.{le-leb, lt-leb, eq-eqb, ne_eqb, eqb-true}
use lib.Dec.{eqb}
use lib.ListN.{length, get_or, drop}
use lib.Seq.{drop-drop}
use Rattle.definitions.specs.Record.{Validator, decode_one, decode_first, decode}
use Rattle.definitions.specs.Lists.{all, every}
use Rattle.definitions.specs.Refusals.{good_validator, good_registry}
use Rattle.definitions_file.specs.File.{numbers_from_bytes, number_at, bad_place, stopped_at}
use Rattle.laws.proofs.Encode.{length-decode}
use Rattle.laws.proofs.Tests.{both}
use Rattle.laws_file.proofs.Numbers.{number-at, length_from_bytes}
use Rattle.laws_file.proofs.Stopped.{stopped-at, small-place}
use Rattle.file_refusals.specs.Tests.{limit_at}

from-drop : (k n j : ℕ) (bytes : List ℕ) → j ≡ k + n → drop k (numbers_from_bytes j bytes) ≡ numbers_from_bytes n (drop (8 * k) bytes)
unfolding numbers_from_bytes
from-drop zero n j bytes e = let f : j ≡ n = omega arith in rw f
from-drop (suc k) n j bytes e =
    let f : j ≡ suc (k + n) = omega arith in
    let g : 8 * suc k ≡ 8 + 8 * k = omega arith in
    rw (f, g) (from-drop k n (k + n) (drop 8 bytes) refl ∙ rw drop-drop)

-- m validators from an offset on
pub entries_from : List ℕ → ℕ → ℕ → List Validator
entries_from bytes m at = decode_first m (numbers_from_bytes (10 * m) (drop at bytes))

-- the first k numbers of the validator at an offset are allowed
abbrev pub Allowed : List ℕ → ℕ → ℕ → Type 0
Allowed bytes at k = (j : ℕ) → j < k → number_at (at + 8 * j) bytes ≤ limit_at j

module _ (bytes : List ℕ) (at m : ℕ) where
  -- the validator at the offset
  first : Validator
  first = decode_one (numbers_from_bytes (10 * suc m) (drop at bytes))

  entries-more : entries_from bytes (suc m) at ≡ first ∷ entries_from bytes m (at + 80)
  unfolding entries_from first decode_first
  entries-more =
      ap (λ (xs : List ℕ). first ∷ decode_first m xs)
      (from-drop 10 (10 * m) (10 * suc m) (drop at bytes) (omega arith) ∙ ap (numbers_from_bytes (10 * m)) (drop-drop 80 at bytes))

  number : (k : ℕ) → k < 10 → get_or (numbers_from_bytes (10 * suc m) (drop at bytes)) k 0 ≡ number_at (at + 8 * k) bytes
  number k l = number-at (10 * suc m) k (drop at bytes) (omega arith) ∙ rw drop-drop

  first_good : Allowed bytes at 10 → good_validator first ≡ true
  unfolding good_validator first every
  first_good a =
      rw (
        number 1 (omega arith),
        number 7 (omega arith),
        number 8 (omega arith),
        le-leb _ _ (a 1 (omega arith)),
        le-leb _ _ (a 7 (omega arith)),
        le-leb _ _ (a 8 (omega arith)),
      )

  record Bad (k : ℕ) : Type 0 where
    fails : good_validator first ≡ false
    place : bad_place first ≡ k

  -- a number above its limit is at one of the three places that have one
  bad-slashed : 1 < number_at (at + 8) bytes → Bad 1
  unfolding good_validator bad_place first every
  bad-slashed b =
      record {
        fails = rw (number 1 (omega arith), lt-leb _ _ b);
        place = rw (number 1 (omega arith), lt-leb _ _ b);
      }

  bad-previous : Allowed bytes at 7 → 255 < number_at (at + 56) bytes → Bad 7
  unfolding good_validator bad_place first every
  bad-previous a b =
      record {
        fails = rw (number 1 (omega arith), number 7 (omega arith), le-leb _ _ (a 1 (omega arith)), lt-leb _ _ b);
        place = rw (number 1 (omega arith), number 7 (omega arith), le-leb _ _ (a 1 (omega arith)), lt-leb _ _ b);
      }

  bad-current : Allowed bytes at 8 → 255 < number_at (at + 64) bytes → Bad 8
  unfolding good_validator bad_place first every
  bad-current a b =
      record {
        fails = rw (number 1 (omega arith), number 7 (omega arith), number 8 (omega arith), le-leb _ _ (a 1 (omega arith)), le-leb _ _ (a 7 (omega arith)), lt-leb _ _ b);
        place = rw (number 1 (omega arith), number 7 (omega arith), number 8 (omega arith), le-leb _ _ (a 1 (omega arith)), le-leb _ _ (a 7 (omega arith)), lt-leb _ _ b);
      }

  bad-at : (k : ℕ) → Allowed bytes at k → limit_at k < number_at (at + 8 * k) bytes → number_at (at + 8 * k) bytes < 2 ^ 64 → Bad k
  bad-at k a b f = one (eqb k 1) refl
    where
      eight : (t : Bool) → eqb k 8 ≡ t → limit_at k ≡ cond t 255 18446744073709551615 → Bad k
      eight true e m = let q = eqb-true k 8 e in rw q (bad-current (rw q at a) (rw q at b))
      eight false e m = absurd (omega arith)

      seven : (t : Bool) → eqb k 7 ≡ t → limit_at k ≡ cond t 255 (cond (eqb k 8) 255 18446744073709551615) → Bad k
      seven true e m = let q = eqb-true k 7 e in rw q (bad-previous (rw q at a) (rw q at b))
      seven false e m = eight (eqb k 8) refl m

      one : (t : Bool) → eqb k 1 ≡ t → Bad k
      one true e = let q = eqb-true k 1 e in rw q (bad-slashed (rw q at b))
      one false e = seven (eqb k 7) refl (rw e)

-- The loop: the first i of n validators are good

abbrev pub registry_in : List ℕ → ℕ → ℕ → List Validator
registry_in bytes from n = decode (numbers_from_bytes (10 * n) (drop from bytes))

pub record Passing (bytes : List ℕ) (from n i : ℕ) : Type 0 where
  pub within : i ≤ n
  pub left : stopped_at from (registry_in bytes from n) ≡ stopped_at (from + 80 * i) (entries_from bytes (n - i) (from + 80 * i))

pub passing_none : (bytes : List ℕ) (from n : ℕ) → Passing bytes from n 0
unfolding entries_from decode
passing_none bytes from n =
    let e : length (numbers_from_bytes (10 * n) (drop from bytes)) / 10 ≡ n = omega (arith, length_from_bytes (10 * n) (drop from bytes)) in
    let z : n - 0 ≡ n = omega arith in
    let f : from + 0 ≡ from = omega arith in
    record { within = omega arith; left = rw (e, z, f) }

module _ {bytes : List ℕ} {from n i : ℕ} (p : Passing bytes from n i) where
  pub passing_all : n ≤ i → from + 80 * i ≡ stopped_at from (registry_in bytes from n)
  unfolding entries_from decode_first stopped_at
  passing_all l = let z : n - i ≡ 0 = omega arith in sym (p.left ∙ rw z)

  module _ (l : i < n) where
    here : stopped_at from (registry_in bytes from n) ≡ stopped_at (from + 80 * i) (first bytes (from + 80 * i) (n - (i + 1)) ∷ entries_from bytes (n - (i + 1)) (from + 80 * i + 80))
    here =
        let e : n - i ≡ suc (n - (i + 1)) = omega arith in
        p.left ∙ rw e (ap (stopped_at (from + 80 * i)) (entries-more bytes (from + 80 * i) (n - (i + 1))))

    pub passing_more : Allowed bytes (from + 80 * i) 10 → Passing bytes from n (i + 1)
    unfolding stopped_at
    passing_more a =
        let e : from + 80 * (i + 1) ≡ from + 80 * i + 80 = omega arith in
        record { within = omega arith; left = here ∙ rw (e, first_good bytes (from + 80 * i) (n - (i + 1)) a) }

    pub passing_stop : (k : ℕ) → Allowed bytes (from + 80 * i) k → limit_at k < number_at (from + 80 * i + 8 * k) bytes → number_at (from + 80 * i + 8 * k) bytes < 2 ^ 64 → from + 80 * i + 8 * k ≡ stopped_at from (registry_in bytes from n)
    unfolding stopped_at
    passing_stop k a b f =
        let bad = bad-at bytes (from + 80 * i) (n - (i + 1)) k a b f in
        sym (here ∙ rw (bad.fails, bad.place))

-- What the place says of the registry

stopped-end : (offset : ℕ) (vs : List Validator) → all good_validator vs ≡ true → stopped_at offset vs ≡ offset + 80 * length vs
unfolding all stopped_at
stopped-end offset [] e = omega arith
stopped-end offset (v ∷ vs) e =
    let p = both (good_validator v) (all good_validator vs) e in
    rw p.0 (stopped-end (offset + 80) vs p.1 ∙ omega arith)

stopped-short : (offset : ℕ) (vs : List Validator) → all good_validator vs ≡ false → stopped_at offset vs < offset + 80 * length vs
stopped-short offset vs e = let s = stopped-at offset vs e in omega (arith, small-place s.first, s.inside, s.there)

module _ (bytes : List ℕ) (from n : ℕ) where
  count : length (registry_in bytes from n) ≡ n
  count = length-decode n (numbers_from_bytes (10 * n) (drop from bytes)) (length_from_bytes (10 * n) (drop from bytes))

  pub registry-tested : eqb (stopped_at from (registry_in bytes from n)) (from + 80 * n) ≡ good_registry (numbers_from_bytes (10 * n) (drop from bytes))
  unfolding good_registry
  registry-tested = go (all good_validator (registry_in bytes from n)) refl
    where
      go : (t : Bool) → all good_validator (registry_in bytes from n) ≡ t → eqb (stopped_at from (registry_in bytes from n)) (from + 80 * n) ≡ t
      go true g = eq-eqb _ _ (stopped-end from (registry_in bytes from n) g ∙ omega (arith, count))
      go false g = ne_eqb _ _ (λ (e : stopped_at from (registry_in bytes from n) ≡ from + 80 * n). omega (arith, stopped-short from (registry_in bytes from n) g, count))

-- The pair: an exit epoch is the fourth number of its entry

module _ (bytes : List ℕ) (from n : ℕ) where
  pub numbers-long : length (numbers_from_bytes (10 * n) (drop from bytes)) ≡ 10 * n
  numbers-long = length_from_bytes (10 * n) (drop from bytes)

  -- the number that is read where the reader then stands behind validator i's exit epoch
  pub exit-number : (i : ℕ) → i < n → (at : ℕ) {x next : ℕ} → (x ≡ number_at at bytes) × (next ≡ at + 8) → next ≡ from + 8 * (10 * i + 4) + 8 → x ≡ get_or (numbers_from_bytes (10 * n) (drop from bytes)) (10 * i + 4) 0
  exit-number i l at e behind =
      let place : at ≡ from + 8 * (10 * i + 4) = omega (arith, e.1, behind) in
      e.0 ∙ rw place (sym (number-at (10 * n) (10 * i + 4) (drop from bytes) (omega arith) ∙ rw drop-drop))

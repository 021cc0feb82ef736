-- A loop that puts f of each validator in its place.
use mathlib.Core.Path.{◌≡◌, refl, sym, ap, ◌∙◌}
use mathlib.Core.List.{List, [], ◌∷◌, map}
use Prim.Native.Nat.{ℕ, zero, suc, ◌+◌, ◌*◌, ◌≤◌, ◌<◌}
use native.Mathlib.Omega.{arith}
use native.Mathlib.Numerals.{add-one}
use lib.ListN.{length, get_or, set}
use Rattle.definitions.specs.Record.{Validator, decode_one, encode_one, encode, decode, nobody}
use Rattle.laws.proofs.Encode.{length-encode, length-decode, encode-decode, decode-encode}
use Rattle.laws.proofs.Loops.Entry.{entry_at, put_at, entry-ten, entry-is, entry-back}

-- f of each of the first i
unfoldable pub map_first : (Validator → Validator) → ℕ → List Validator → List Validator
map_first f zero vs = vs
map_first f (suc i) [] = []
map_first f (suc i) (v ∷ vs) = f v ∷ map_first f i vs

module _ (f : Validator → Validator) where
  length-map_first : (i : ℕ) (vs : List Validator) → length (map_first f i vs) ≡ length vs
  unfolding map_first
  length-map_first zero vs = refl
  length-map_first (suc i) [] = refl
  length-map_first (suc i) (v ∷ vs) = ap suc (length-map_first i vs)

  get_d_map_first : (i : ℕ) (vs : List Validator) (d : Validator) → get_or (map_first f i vs) i d ≡ get_or vs i d
  unfolding map_first
  get_d_map_first zero vs d = refl
  get_d_map_first (suc i) [] d = refl
  get_d_map_first (suc i) (v ∷ vs) d = get_d_map_first i vs d

  map_first-more : (i : ℕ) (vs : List Validator) (d : Validator) → set (map_first f i vs) i (f (get_or vs i d)) ≡ map_first f (suc i) vs
  unfolding map_first
  map_first-more zero [] d = refl
  map_first-more zero (v ∷ vs) d = refl
  map_first-more (suc i) [] d = refl
  map_first-more (suc i) (v ∷ vs) d = ap (λ (t : List Validator). f v ∷ t) (map_first-more i vs d)

  map_first-all : (vs : List Validator) → map_first f (length vs) vs ≡ map f vs
  unfolding map_first
  map_first-all [] = refl
  map_first-all (v ∷ vs) = ap (λ (t : List Validator). f v ∷ t) (map_first-all vs)

-- The registry xs after i turns over the registry xs₀ of n validators
pub record Mapped (f : Validator → Validator) (n : ℕ) (xs₀ : List ℕ) (i : ℕ) (xs : List ℕ) : Type 0 where
  pub begun : length xs₀ ≡ 10 * n
  pub below : i ≤ n
  pub long : length xs ≡ 10 * n
  pub held : xs ≡ encode (map_first f i (decode xs₀))

pub mapped-none : (f : Validator → Validator) {n : ℕ} {xs₀ : List ℕ} → length xs₀ ≡ 10 * n → Mapped f n xs₀ 0 xs₀
unfolding map_first
mapped-none f {n} {xs₀} h = record { begun = h; below = omega arith; long = h; held = sym (encode-decode n xs₀ h) }

module _ {f : Validator → Validator} {n : ℕ} {xs₀ : List ℕ} {i : ℕ} {xs : List ℕ} (m : Mapped f n xs₀ i xs) where
  pub mapped-all : n ≤ i → xs ≡ encode (map f (decode xs₀))
  mapped-all l =
      let e : i ≡ length (decode xs₀) = omega (arith, length-decode n xs₀ m.begun) in
      m.held ∙ rw (e, map_first-all)

  module _ (l : i < n) where
    -- the part that is lent has ten numbers, and the validator in it is still the opening's
    pub mapped-ten : length (entry_at xs i) ≡ 10
    mapped-ten = entry-ten n xs i m.long l

    now-decoded : decode xs ≡ map_first f i (decode xs₀)
    now-decoded = ap decode m.held ∙ decode-encode (map_first f i (decode xs₀))

    pub mapped-is : decode_one (entry_at xs i) ≡ get_or (decode xs₀) i nobody
    mapped-is = entry-is n xs i m.long l ∙ rw now-decoded (get_d_map_first f i (decode xs₀) nobody)

    -- the part comes back as e
    pub mapped-more : {e : List ℕ} → e ≡ encode_one (f (decode_one (entry_at xs i))) → Mapped f n xs₀ (i + 1) (put_at xs i e)
    mapped-more {e} h =
        let vs = decode xs₀ in
        let t = entry-back n xs i m.long l (f (get_or vs i nobody)) (h ∙ ap (λ (v : Validator). encode_one (f v)) mapped-is) in
        let k : put_at xs i e ≡ encode (map_first f (i + 1) vs) = rw (t, now-decoded, map_first-more f i vs nobody, add-one i) in
        let len = length-encode (map_first f (i + 1) vs) in
        record { begun = m.begun; below = omega arith; long = rw k (omega (arith, len, length-map_first f (i + 1) vs, length-decode n xs₀ m.begun)); held = k }

-- `search (rules, mapping)` answers each need of such a loop that is not plain arithmetic
pub ruleset mapping = (mapped-none, mapped-ten, mapped-more, mapped-all)

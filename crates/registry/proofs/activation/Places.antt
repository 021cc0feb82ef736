-- A loop that changes one validator a turn, by its number.
use mathlib.Core.Path.{◌≡◌, refl, sym, ap, ◌∙◌}
use mathlib.Core.List.{List, [], ◌∷◌}
use Prim.Native.Nat.{ℕ, zero, suc, ◌+◌, ◌*◌, ◌<◌}
use native.Mathlib.Omega.{arith}
use native.Mathlib.Numerals.{add-one}
use lib.ListN.{length, get_or, set}
use Rattle.definitions.specs.Record.{Validator, decode_one, encode_one, encode, decode, nobody}
use Rattle.laws.proofs.Encode.{length-encode, length-decode, encode-decode, decode-encode}
use Rattle.laws.specs.Queue.{map_below}
use Rattle.laws.proofs.ActivationQueue.Dequeued.{length-below}
use Rattle.laws.proofs.Loops.Entry.{entry_at, put_at, entry-is, entry-back}

below-later : (f : ℕ → Validator → Validator) (i : ℕ) (vs : List Validator) → get_or (map_below i f vs) i nobody ≡ get_or vs i nobody
unfolding map_below
below-later f zero vs = refl
below-later f (suc i) [] = refl
below-later f (suc i) (v ∷ vs) = below-later (λ j. f (suc j)) i vs

below_more : (f : ℕ → Validator → Validator) (i : ℕ) (vs : List Validator) → set (map_below i f vs) i (f i (get_or vs i nobody)) ≡ map_below (suc i) f vs
unfolding map_below
below_more f zero [] = refl
below_more f zero (v ∷ vs) = refl
below_more f (suc i) [] = refl
below_more f (suc i) (v ∷ vs) = ap (λ (t : List Validator). f 0 v ∷ t) (below_more (λ j. f (suc j)) i vs)

-- the registry xs after i turns over the registry xs₀ of n validators
pub record Placed (f : ℕ → Validator → Validator) (n : ℕ) (xs₀ : List ℕ) (i : ℕ) (xs : List ℕ) : Type 0 where
  pub begun : length xs₀ ≡ 10 * n
  pub long : length xs ≡ 10 * n
  pub held : xs ≡ encode (map_below i f (decode xs₀))

pub placed-none : (f : ℕ → Validator → Validator) {n : ℕ} {xs₀ : List ℕ} → length xs₀ ≡ 10 * n → Placed f n xs₀ 0 xs₀
unfolding map_below
placed-none f {n} {xs₀} h = record { begun = h; long = h; held = sym (encode-decode n xs₀ h) }

module _ {f : ℕ → Validator → Validator} {n : ℕ} {xs₀ : List ℕ} {i : ℕ} {xs : List ℕ} (m : Placed f n xs₀ i xs) (l : i < n) where
  decoded : decode xs ≡ map_below i f (decode xs₀)
  decoded = ap decode m.held ∙ decode-encode (map_below i f (decode xs₀))

  -- the validator that is lent is the one that the registry began with
  pub placed-is : decode_one (entry_at xs i) ≡ get_or (decode xs₀) i nobody
  placed-is = entry-is n xs i m.long l ∙ ap (λ (us : List Validator). get_or us i nobody) decoded ∙ below-later f i (decode xs₀)

  pub placed-more : {e : List ℕ} → e ≡ encode_one (f i (decode_one (entry_at xs i))) → Placed f n xs₀ (i + 1) (put_at xs i e)
  placed-more {e} h =
      let vs = decode xs₀ in
      let v = f i (get_or vs i nobody) in
      let t : put_at xs i e ≡ encode (map_below (i + 1) f vs) =
      entry-back n xs i m.long l v (h ∙ ap (λ (w : Validator). encode_one (f i w)) placed-is) ∙ ap encode (rw (decoded, add-one i) (below_more f i vs)) in
      record { begun = m.begun; long = rw t (omega (arith, length-encode (map_below (i + 1) f vs), length-below (i + 1) f vs, length-decode n xs₀ m.begun)); held = t }

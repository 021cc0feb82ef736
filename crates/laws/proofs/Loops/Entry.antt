-- The ten numbers of one validator: lent, given back, and read one by one.
use mathlib.Core.Path.{◌≡◌, sym, ap, ◌∙◌}
use mathlib.Core.List.{List, ◌++◌}
use Prim.Native.Nat.{ℕ, ◌+◌, ◌-◌, ◌*◌, ◌<◌}
use native.Mathlib.Omega.{arith}
use lib.ListN.{length, get_or, take, drop, set, length-take, length-drop}
use lib.Seq.{get_or-drop, get_or-take}
use Rattle.definitions.specs.Record.{Validator, decode_one, encode_one, encode, decode, nobody}
use Rattle.laws.proofs.Encode.{length-decode, encode-decode, entry-at, entry-put}

-- `xs[a..b]` with a = 10 * i and b = a + 10
abbrev pub entry_at : List ℕ → ℕ → List ℕ
entry_at xs i = take (10 * i + 10 - 10 * i) (drop (10 * i) xs)

-- the whole, where that part came back as e
abbrev pub put_at : List ℕ → ℕ → List ℕ → List ℕ
put_at xs i e = take (10 * i) xs ++ (e ++ drop (10 * i + 10 - 10 * i) (drop (10 * i) xs))

ten-long : (i : ℕ) → 10 * i + 10 - 10 * i ≡ 10
ten-long i = omega arith

module _ (n : ℕ) (xs : List ℕ) (i : ℕ) (long : length xs ≡ 10 * n) (l : i < n) where
  below : i < length (decode xs)
  below = omega (arith, length-decode n xs long)

  pub entry-ten : length (entry_at xs i) ≡ 10
  entry-ten = simp (length-take, length-drop) (omega arith)

  entry-part : take 10 (drop (10 * i) xs) ≡ encode_one (get_or (decode xs) i nobody)
  entry-part = ap (λ (t : List ℕ). take 10 (drop (10 * i) t)) (sym (encode-decode n xs long)) ∙ entry-at (decode xs) i nobody below

  pub entry-is : decode_one (entry_at xs i) ≡ get_or (decode xs) i nobody
  entry-is = rw (ten-long i) (ap decode_one entry-part)

  -- one of the ten, with no part lent
  pub number-at : (k : ℕ) → k < 10 → get_or xs (10 * i + k) 0 ≡ get_or (encode_one (get_or (decode xs) i nobody)) k 0
  number-at k h =
      sym (get_or-drop (10 * i) xs k 0) ∙ sym (get_or-take 10 (drop (10 * i) xs) k 0 h) ∙ ap (λ (t : List ℕ). get_or t k 0) entry-part

  pub entry-back : {e : List ℕ} (v : Validator) → e ≡ encode_one v → put_at xs i e ≡ encode (set (decode xs) i v)
  entry-back v h =
      rw (h, ten-long i)
      (ap (λ (t : List ℕ). take (10 * i) t ++ (encode_one v ++ drop 10 (drop (10 * i) t))) (sym (encode-decode n xs long)) ∙ entry-put (decode xs) i v below)

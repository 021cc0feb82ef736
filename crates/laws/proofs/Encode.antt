-- Encoding and decoding the registry are inverse, and the ten numbers of one validator in the whole.
use mathlib.Core.Path.{◌≡◌, refl, sym, ap, ap₂, ◌∙◌}
use mathlib.Core.List.{List, [], ◌∷◌, ◌++◌}
use Prim.Native.Nat.{ℕ, zero, suc, ◌+◌, ◌*◌, ◌/◌, ◌-◌, ◌≤◌, ◌<◌}
use native.Mathlib.Omega.{arith}
use lib.ListN.{length, get_or, take, drop, set, length-drop, take-append-drop}
use lib.Seq.{drop-cons, take_all}
use Rattle.definitions.specs.Record.{Validator, decode_one, encode_one, encode, decode_first, decode}

pub length-encode : (vs : List Validator) → length (encode vs) ≡ 10 * length vs
unfolding encode
length-encode [] = refl
length-encode (v ∷ vs) = let h = length-encode vs in omega arith

first-encode : (vs : List Validator) → decode_first (length vs) (encode vs) ≡ vs
unfolding encode decode_first
first-encode [] = refl
first-encode (v ∷ vs) = ap (λ (t : List Validator). v ∷ t) (first-encode vs)

pub decode-encode : (vs : List Validator) → decode (encode vs) ≡ vs
unfolding decode
decode-encode vs =
    let e : length (encode vs) / 10 ≡ length vs = omega (arith, length-encode vs) in
    rw e (first-encode vs)

-- n numbers from k on, one by one
unfoldable pub from : ℕ → ℕ → List ℕ → List ℕ
from zero k xs = []
from (suc n) k xs = get_or xs k 0 ∷ from n (suc k) xs

pub from-take : (n k : ℕ) (xs : List ℕ) → k + n ≤ length xs → from n k xs ≡ take n (drop k xs)
unfolding from
from-take zero k xs h = refl
from-take (suc n) k xs h =
    let l : k < length xs = omega arith in
    rw (drop-cons xs k 0) (ap (λ (t : List ℕ). get_or xs k 0 ∷ t) (from-take n (suc k) xs (omega arith)))

pub one-encode : (xs : List ℕ) → 10 ≤ length xs → encode_one (decode_one xs) ≡ take 10 xs
unfolding from
one-encode xs h = from-take 10 0 xs (omega arith)

-- an entry lent alone
pub ten : (e : List ℕ) → length e ≡ 10 → e ≡ encode_one (decode_one e)
ten e h = sym (one-encode e (omega arith) ∙ take_all 10 e (omega arith))

encode-first : (n : ℕ) (xs : List ℕ) → length xs ≡ 10 * n → encode (decode_first n xs) ≡ xs
unfolding encode decode_first
encode-first zero [] h = refl
encode-first zero (x ∷ xs) h = absurd (omega arith)
encode-first (suc n) xs h =
    let l : 10 ≤ length xs = omega arith in
    ap₂ ◌++◌ (one-encode xs l) (encode-first n (drop 10 xs) (omega (arith, length-drop 10 xs))) ∙ take-append-drop 10 xs

pub encode-decode : (n : ℕ) (xs : List ℕ) → length xs ≡ 10 * n → encode (decode xs) ≡ xs
unfolding decode
encode-decode n xs h =
    let e : length xs / 10 ≡ n = omega arith in
    rw e (encode-first n xs h)

pub length-first : (n : ℕ) (xs : List ℕ) → length (decode_first n xs) ≡ n
unfolding decode_first
length-first zero xs = refl
length-first (suc n) xs = ap suc (length-first n (drop 10 xs))

pub length-decode : (n : ℕ) (xs : List ℕ) → length xs ≡ 10 * n → length (decode xs) ≡ n
unfolding decode
length-decode n xs h = length-first (length xs / 10) xs ∙ omega arith

ten_suc : (i : ℕ) → 10 * suc i ≡ suc (suc (suc (suc (suc (suc (suc (suc (suc (suc (10 * i))))))))))
ten_suc i = omega arith

-- the ten numbers at i of the whole
pub entry-at : (vs : List Validator) (i : ℕ) (d : Validator) → i < length vs → take 10 (drop (10 * i) (encode vs)) ≡ encode_one (get_or vs i d)
unfolding encode
entry-at [] i d h = absurd (omega arith)
entry-at (v ∷ vs) zero d h = refl
entry-at (v ∷ vs) (suc i) d h = rw (ten_suc i) (entry-at vs i d (omega arith))

-- ten numbers put in their place at i
pub entry-put : (vs : List Validator) (i : ℕ) (v : Validator) → i < length vs → take (10 * i) (encode vs) ++ (encode_one v ++ drop 10 (drop (10 * i) (encode vs))) ≡ encode (set vs i v)
unfolding encode
entry-put [] i v h = absurd (omega arith)
entry-put (w ∷ vs) zero v h = refl
entry-put (w ∷ vs) (suc i) v h = rw (ten_suc i) (ap (λ (t : List ℕ). encode_one w ++ t) (entry-put vs i v (omega arith)))

pub take_whole : (xs ys : List ℕ) → take (length xs) (xs ++ ys) ≡ xs
take_whole [] ys = refl
take_whole (x ∷ xs) ys = ap (λ (t : List ℕ). x ∷ t) (take_whole xs ys)

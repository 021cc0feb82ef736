-- A list at the front of a buffer, and deposits as lent numbers.
use mathlib.Core.Path.{◌≡◌, refl, sym, ap, ap₂, ◌∙◌}
use mathlib.Core.List.{List, [], ◌∷◌, ◌++◌, append_assoc}
use Prim.Native.Nat.{ℕ, zero, suc, ◌+◌, ◌-◌, ◌*◌, ◌/◌, ◌≤◌}
use native.Mathlib.Omega.{arith}
use lib.ListN.{length, take, drop, length-append, length-drop, take-append-drop, drop_of_length-le}
use lib.Seq.{take_all, drop-nil, take_at, drop_at, drop-append-add, drop-drop}
use Rattle.laws.proofs.Encode.{from, from-take}
use Rattle.definitions_electra.specs.declared.PendingDeposit.{PendingDeposit}
use Rattle.definitions_electra.specs.Record.{decode_deposit, encode_deposit, encode_deposits, first_deposits, decode_deposits}
use Rattle.definitions_electra.specs.Calls.{over}

-- what is longer hides what is shorter
pub over-over : (a b c : List ℕ) → length b ≤ length a → over a (over b c) ≡ over a c
over-over a b c h =
    let k = length a - length b in
    let e : length b + k ≡ length a = omega arith in
    rw (← e) (ap (λ (t : List ℕ). a ++ t) (drop-append-add b (drop (length b) c) k ∙ drop-drop k (length b) c))

pub over-append : (a b c : List ℕ) → over (a ++ b) c ≡ a ++ over b (drop (length a) c)
over-append a b c = rw (length-append a b, append_assoc a b, drop-drop (length b) (length a) c)

module _ (a c : List ℕ) (n : ℕ) (h : length a ≡ n) where
  pub front-over : take n (over a c) ≡ a
  front-over = take_at a (drop (length a) c) n h

  pub behind-over : drop n (over a c) ≡ drop n c
  behind-over = drop_at a (drop (length a) c) n h ∙ ap (λ (k : ℕ). drop k c) h

-- as `to[0..n]` comes back where it was given `from`
pub front_copied : {e : List ℕ} (from to : List ℕ) → e ≡ from → e ++ drop (length from - 0) to ≡ over from to
front_copied from to h = let z : length from - 0 ≡ length from = omega arith in rw (h, z)

-- `xs[b..]`, and what stands behind it
module _ (xs : List ℕ) (b : ℕ) where
  pub tail-lent : take (length xs - b) (drop b xs) ≡ drop b xs
  tail-lent = take_all (length xs - b) (drop b xs) (omega (arith, length-drop b xs))

  pub tail-back : drop (length xs - b) (drop b xs) ≡ []
  tail-back = let l : length (drop b xs) ≤ length xs - b = omega (arith, length-drop b xs) in drop_of_length-le (drop b xs) l

-- Five numbers a deposit

five_suc : (i : ℕ) → 5 * suc i ≡ suc (suc (suc (suc (suc (5 * i)))))
five_suc i = omega arith

pub length-encoded : (ds : List PendingDeposit) → length (encode_deposits ds) ≡ 5 * length ds
unfolding encode_deposits
length-encoded [] = refl
length-encoded (d ∷ ds) = let h = length-encoded ds in omega arith

pub encoded-append : (ds es : List PendingDeposit) → encode_deposits (ds ++ es) ≡ encode_deposits ds ++ encode_deposits es
unfolding encode_deposits
encoded-append [] es = refl
encoded-append (d ∷ ds) es = ap (λ (t : List ℕ). encode_deposit d ++ t) (encoded-append ds es)

drop-encoded : (i : ℕ) (ds : List PendingDeposit) → drop (5 * i) (encode_deposits ds) ≡ encode_deposits (drop i ds)
unfolding encode_deposits
drop-encoded zero ds = refl
drop-encoded (suc i) [] = drop-nil (5 * suc i)
drop-encoded (suc i) (d ∷ ds) = rw (five_suc i) (drop-encoded i ds)

pub one-encoded : (xs : List ℕ) → 5 ≤ length xs → encode_deposit (decode_deposit xs) ≡ take 5 xs
unfolding from
one-encoded xs h = from-take 5 0 xs (omega arith)

first-encoded : (m : ℕ) (xs : List ℕ) → length xs ≡ 5 * m → encode_deposits (first_deposits m xs) ≡ xs
unfolding encode_deposits first_deposits
first-encoded zero [] h = refl
first-encoded zero (x ∷ xs) h = absurd (omega arith)
first-encoded (suc m) xs h =
    let l : 5 ≤ length xs = omega arith in
    ap₂ ◌++◌ (one-encoded xs l) (first-encoded m (drop 5 xs) (omega (arith, length-drop 5 xs))) ∙ take-append-drop 5 xs

pub rest-encoded : (xs : List ℕ) (i : ℕ) → length xs ≡ 5 * (length xs / 5) → drop (5 * i) xs ≡ encode_deposits (drop i (decode_deposits xs))
unfolding decode_deposits
rest-encoded xs i h = ap (drop (5 * i)) (sym (first-encoded (length xs / 5) xs h)) ∙ drop-encoded i (first_deposits (length xs / 5) xs)

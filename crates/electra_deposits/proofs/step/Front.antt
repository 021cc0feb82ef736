-- Validators at the front of a registry buffer with room, and the loop on the opening there.
use mathlib.Core.Path.{◌≡◌, refl, sym, ap, ◌∙◌}
use mathlib.Core.List.{List, [], ◌∷◌, ◌++◌}
use Prim.Native.Nat.{ℕ, ◌-◌, ◌*◌, ◌/◌, ◌≤◌}
use native.Mathlib.Omega.{arith}
use lib.ListN.{length, take, drop, replicate, length-append, length-drop, take-append-drop}
use lib.Seq.{length-take-le, take_at, drop_at}
use Rattle.definitions.specs.Record.{Validator, encode_one, encode, decode}
use Rattle.definitions.specs.Checked.{Checked}
use Rattle.laws.proofs.Encode.{length-encode, length-decode, encode-decode, decode-encode}
use Rattle.definitions_electra.specs.Calls.{over}
use Rattle.definitions_electra.specs.Record.{decode_deposits}
use Rattle.electra_deposits.specs.declared.adding.NewNumbers.{NewNumbers}
use Rattle.electra_deposits.specs.declared.QueueNumbers.{QueueNumbers}
use Rattle.electra_deposits.specs.declared.Deposited.{Deposited}
use Rattle.electra_deposits.specs.Alone.{alone, Deposits}
use Rattle.electra_deposits.specs.Room.{rules_by, opening, joined, Added}
use Rattle.electra_deposits.specs.Written.{closing_queue, Queued}
use Rattle.electra_deposits.specs.Step.{Lent, Fronted, Finished}
use Rattle.electra_deposits.proofs.closing.Over.{front-over, behind-over}

pub encode-append : (vs ws : List Validator) → encode (vs ++ ws) ≡ encode vs ++ encode ws
unfolding encode
encode-append [] ws = refl
encode-append (v ∷ vs) ws = ap (λ (t : List ℕ). encode_one v ++ t) (encode-append vs ws)

module _ (m : ℕ) (xs : List ℕ) (long : length xs ≡ 10 * m) (i : ℕ) (l : i ≤ m) where
  parts : xs ≡ encode (take i (decode xs)) ++ encode (drop i (decode xs))
  parts = sym (encode-decode m xs long) ∙ ap encode (sym (take-append-drop i (decode xs))) ∙ encode-append (take i (decode xs)) (drop i (decode xs))

  first-long : length (encode (take i (decode xs))) ≡ 10 * i
  first-long =
      let k : i ≤ length (decode xs) = omega (arith, length-decode m xs long) in
      length-encode (take i (decode xs)) ∙ ap (λ (k : ℕ). 10 * k) (length-take-le i (decode xs) k)

  pub front-decoded : take i (decode xs) ≡ decode (take (10 * i) xs)
  front-decoded =
      let e : take (10 * i) xs ≡ encode (take i (decode xs)) = ap (take (10 * i)) parts ∙ take_at (encode (take i (decode xs))) (encode (drop i (decode xs))) (10 * i) first-long in
      sym (ap decode e ∙ decode-encode (take i (decode xs)))

  pub behind-encoded : drop (10 * i) xs ≡ encode (drop i (decode xs))
  behind-encoded = ap (drop (10 * i)) parts ∙ drop_at (encode (take i (decode xs))) (encode (drop i (decode xs))) (10 * i) first-long

-- i validators, and behind them what stands in the buffer
pub roomy-over : (m : ℕ) (xs : List ℕ) → length xs ≡ 10 * m → (vs : List Validator) (i : ℕ) → length vs ≡ i → i ≤ m → encode (vs ++ drop i (decode xs)) ≡ over (encode vs) xs
roomy-over m xs long vs i h l =
    let e : length (encode vs) ≡ 10 * i = length-encode vs ∙ ap (λ (k : ℕ). 10 * k) h in
    encode-append vs (drop i (decode xs)) ∙ rw (e, behind-encoded m xs long i l)

pub long-over : (a b : List ℕ) → length a ≤ length b → length (over a b) ≡ length b
long-over a b l = length-append a (drop (length a) b) ∙ omega (arith, length-drop (length a) b)

module _ {registry compounding deposits xs cs ps : List ℕ} (h : Lent registry compounding deposits xs cs ps) where
  pub registry-fits : length registry ≤ length xs
  registry-fits = omega (arith, h.tens, h.room, h.room_too)

  pub compounding-fits : length compounding ≤ length cs
  compounding-fits = omega (arith, h.credentials, h.room_too)

  pub long-compounding : {es : List ℕ} → es ≡ over compounding cs → length es ≡ length cs
  long-compounding e = ap length e ∙ long-over compounding cs compounding-fits

  pub cleared : {qs : List ℕ} → qs ≡ replicate (length ps) 0 → qs ≡ replicate (length deposits / 5) 0
  cleared e = rw h.table at e

  -- so that it is lent again
  pub lent_again : {ys : List ℕ} → length ys ≡ length xs → Lent registry compounding deposits ys cs ps
  lent_again a =
      record {
        tens = h.tens;
        credentials = h.credentials;
        fives = h.fives;
        keys = h.keys;
        room = omega (arith, a, h.room);
        room_too = h.room_too;
        table = h.table;
      }

-- The loop on the opening's copy
module _ (q : QueueNumbers) (registry ds xs : List ℕ) {ys : List ℕ} (copied : ys ≡ over registry xs) where
  whole : take (length registry - 0) ys ≡ registry
  whole =
      let z : length registry - 0 ≡ length registry = omega arith in
      rw (z, copied) (front-over registry xs (length registry) refl)

  pub front_long : length registry ≡ 10 * (length registry / 10) → length (take (length registry - 0) ys) ≡ 10 * (length (take (length registry - 0) ys) / 10)
  front_long l = rw whole l

  pub fronted : {e : List ℕ} {r : Checked Deposited} → length e ≡ length (take (length registry - 0) ys) → Deposits (alone q (take (length registry - 0) ys) ds) e r → Fronted (alone q registry ds) (length registry) xs (e ++ drop (length registry - 0) ys) r
  fronted {e} l h =
      let z : length registry - 0 ≡ length registry = omega arith in
      let m : length e ≡ length registry = l ∙ ap length whole in
      record { front = e; is-long = m; is = rw (z, copied, m) (ap (λ (t : List ℕ). e ++ t) (behind-over registry xs (length registry) refl)); deposits = rw whole at h }

-- Those added, and the closing queue
pub finished : (next : ℕ) (k : NewNumbers) (registry deposits : List ℕ) (index carried : ℕ) {xs cs es ys fs ds₀ ds : List ℕ} {c l : ℕ} → es ≡ cs → Added (joined (rules_by k 0) (length registry / 10) (opening (length registry / 10) xs es) (take index (decode_deposits deposits))) xs es ys fs c → Queued (closing_queue (length registry / 10) next (decode registry) index (decode_deposits deposits)) ds₀ ds l → Finished next k registry deposits index carried xs cs ds₀ ys fs ds (record { refusal = 0; deposit_balance_to_consume = carried; validators = c; deposits = l })
finished next k registry deposits index carried {c = c} {l = l} e a w = record { count = c; left = l; added = rw e at a; queued = w; answer = refl }

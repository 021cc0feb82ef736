-- The second loop over the queue: those postponed, one by one.
use mathlib.Core.Path.{◌≡◌, refl, sym, ap, ◌∙◌}
use mathlib.Core.Bool.{Bool, true, false, cond, ◌&&◌, not}
use mathlib.Core.List.{List, [], ◌∷◌, ◌++◌}
use Prim.Native.Nat.{ℕ, ◌+◌, ◌-◌, ◌*◌, ◌/◌, ◌≤◌, ◌<◌}
use native.Mathlib.Omega.{arith}
use native.Mathlib.Numerals.{add-one}
use lib.Dec.{ltb}
use lib.ListN.{length, get_or, take, drop, set, length-append, length-take, length-drop}
use lib.Seq.{take-suc, take_all}
use Rattle.definitions.specs.Lists.{filter}
use Rattle.definitions.specs.Record.{nobody, decode, FAR_FUTURE_EPOCH}
use Rattle.laws.proofs.Encode.{length-decode}
use Rattle.laws.proofs.Loops.Filtered.{filter_le}
use Rattle.definitions_electra.specs.declared.PendingDeposit.{PendingDeposit}
use Rattle.definitions_electra.specs.Record.{encode_deposit, encode_deposits, decode_deposit, decode_deposits}
use Rattle.definitions_electra.specs.Calls.{over}
use Rattle.electra_deposits.specs.Alone.{is_postponed, withdrawn_at, exited_at, none}
use Rattle.laws_electra.proofs.Deposits.{length-deposits}
use Rattle.electra_deposits.proofs.Postponed.{with_none, filter-append}
use Rattle.electra_deposits.specs.Written.{Queued, Adds, Postponing}
use Rattle.electra_deposits.proofs.closing.Over.{tail-lent, tail-back, front-over, behind-over, over-append, length-encoded, encoded-append, one-encoded, rest-encoded}

-- The test

both-tests : (a b c : Bool) → (a && (not b && c)) ≡ cond (a && b) false (a && c)
both-tests true true c = refl
both-tests true false c = refl
both-tests false b c = refl

module _ (next : ℕ) (xs : List ℕ) (d : PendingDeposit) (long : length xs ≡ 10 * (length xs / 10)) {w : Bool} (is-w : w ≡ withdrawn_at next (decode xs) d.pubkey) where
  is-test : is_postponed (length xs / 10) next (decode xs) d ≡ cond w false (exited_at (decode xs) d.pubkey)
  unfolding is_postponed
  is-test = rw (is-w, length-decode (length xs / 10) xs long) (both-tests (ltb d.pubkey (length xs / 10)) (ltb (get_or (decode xs) d.pubkey nobody).withdrawable_epoch next) (ltb (get_or (decode xs) d.pubkey nobody).exit_epoch FAR_FUTURE_EPOCH))

  pub is-withdrawn : w ≡ true → false ≡ is_postponed (length xs / 10) next (decode xs) d
  is-withdrawn t = rw (is-test, t)

  pub is-exiting : {x : Bool} → w ≡ false → x ≡ exited_at (decode xs) d.pubkey → x ≡ is_postponed (length xs / 10) next (decode xs) d
  is-exiting t h = rw (is-test, t) h

-- Five numbers

pub five : (e : List ℕ) (d : PendingDeposit) → length e ≡ 5 → set (set (set (set (set e 0 d.pubkey) 1 d.compounding) 2 d.amount) 3 d.slot) 4 d.valid ≡ encode_deposit d
five e d l = let z : e ≡ encode_deposit (decode_deposit e) = sym (one-encoded e (omega arith) ∙ take_all 5 e (omega arith)) in rw z

-- One more

pub adds_none : {on : Bool} (d : PendingDeposit) (count : ℕ) (xs : List ℕ) → on ≡ false → Adds on d count xs xs count
adds_none d count xs o = record { adds = λ ds buffer q. rw (o, with_none ds) q }

put-behind : (a e c : List ℕ) (k : ℕ) → length a ≡ 5 * k → length e ≡ 5 → take (5 * k) (over a c) ++ (e ++ drop (5 * k + 5 - 5 * k) (drop (5 * k) (over a c))) ≡ over (a ++ e) c
put-behind a e c k l m =
    let s : 5 * k + 5 - 5 * k ≡ length e = omega arith in
    rw (front-over a c (5 * k) l, behind-over a c (5 * k) l, s, over-append a e c, l)

pub adds_one : {on : Bool} {e : List ℕ} (d : PendingDeposit) (count : ℕ) (xs : List ℕ) → on ≡ true → e ≡ encode_deposit d → Adds on d count xs (take (5 * count) xs ++ (e ++ drop (5 * count + 5 - 5 * count) (drop (5 * count) xs))) (count + 1)
unfolding encode_deposits
adds_one {e = e} d count xs o h =
    record {
      adds = λ ds buffer q. record {
        held = rw (o, q.held, h, encoded-append ds (d ∷ [])) (put-behind (encode_deposits ds) (encode_deposit d) buffer count (length-encoded ds ∙ ap (λ (k : ℕ). 5 * k) (sym q.count)) refl);
        count = rw o (omega (arith, q.count, length-append ds (d ∷ [])));
      };
    }

-- The loop

filter-next : {A : Type 0} (p : A → Bool) (xs : List A) (i : ℕ) (d : A) → i < length xs → filter p (take (i + 1) xs) ≡ filter p (take i xs) ++ cond (p (get_or xs i d)) (get_or xs i d ∷ []) []
unfolding filter
filter-next p xs i d l = rw (add-one i, take-suc xs i d l) (filter-append p (take i xs) (get_or xs i d ∷ []))

pub postponing-none : (registry : List ℕ) (next : ℕ) (deposits xs : List ℕ) → Postponing registry next deposits 0 xs xs 0
unfolding filter encode_deposits
postponing-none registry next deposits xs = record { queued = record { held = refl; count = refl } }

module _ {registry : List ℕ} {next : ℕ} {deposits : List ℕ} {i : ℕ} {xs ys : List ℕ} {count : ℕ} (g : Postponing registry next deposits i xs ys count) where
  pub postponing-few : count ≤ i
  postponing-few = omega (arith, g.queued.count, filter_le (is_postponed (length registry / 10) next (decode registry)) (take i (decode_deposits deposits)), length-take i (decode_deposits deposits))

  pub postponing-more : {d : PendingDeposit} {on : Bool} {zs : List ℕ} {many : ℕ} → i < length deposits / 5 → d ≡ get_or (decode_deposits deposits) i none → on ≡ is_postponed (length registry / 10) next (decode registry) d → Adds on d count ys zs many → Postponing registry next deposits (i + 1) xs zs many
  postponing-more l e o a =
      let p = is_postponed (length registry / 10) next (decode registry) in
      let ds = decode_deposits deposits in
      record { queued = rw (filter-next p ds i none (omega (arith, length-deposits deposits)), ← e, ← o) (a.adds (filter p (take i ds)) xs g.queued) }

-- Rest and postponed
module _ (deposits : List ℕ) (index : ℕ) (ws : List PendingDeposit) (xs : List ℕ) {c ys : List ℕ} {many : ℕ} (five : length deposits ≡ 5 * (length deposits / 5)) (l : index ≤ length deposits / 5) where
  pub written : c ≡ over (take (length deposits - 5 * index) (drop (5 * index) deposits)) xs → Queued ws (take (length c - 5 * (length deposits / 5 - index)) (drop (5 * (length deposits / 5 - index)) c)) ys many → Queued (drop index (decode_deposits deposits) ++ ws) xs (take (5 * (length deposits / 5 - index)) c ++ (ys ++ drop (length c - 5 * (length deposits / 5 - index)) (drop (5 * (length deposits / 5 - index)) c))) (length deposits / 5 - index + many)
  written copied q =
      let ds = decode_deposits deposits in
      let b = 5 * (length deposits / 5 - index) in
      let rest = encode_deposits (drop index (decode_deposits deposits)) in
      let r : c ≡ over rest xs = copied ∙ ap (λ (t : List ℕ). over t xs) (tail-lent deposits (5 * index) ∙ rest-encoded deposits index five) in
      let h : length rest ≡ b = omega (arith, length-encoded (drop index ds), length-drop index ds, length-deposits deposits) in
      let front : take b c ≡ rest = ap (take b) r ∙ front-over rest xs b h in
      let behind : drop b c ≡ drop b xs = ap (drop b) r ∙ behind-over rest xs b h in
      let t : ys ≡ over (encode_deposits ws) (drop b xs) = rw (tail-lent c b, behind) at q.held in
      record {
        held = rw (front, tail-back c b, with_none ys, t, encoded-append (drop index ds) ws, over-append rest (encode_deposits ws) xs, h);
        count = omega (arith, q.count, length-append (drop index ds) ws, length-drop index ds, length-deposits deposits);
      }

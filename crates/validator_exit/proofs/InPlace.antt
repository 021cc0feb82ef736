-- One validator's exit in place by the registry's pair: it is the rescanning exit, and the pair afterwards is the registry's again.
use mathlib.Core.Path.{◌≡◌, refl, sym, ap, ◌∙◌}
use mathlib.Core.List.{List}
use Prim.Native.Nat.{ℕ, ◌+◌, ◌*◌, ◌≤◌, ◌<◌}
use native.Mathlib.Omega.{arith}
use lib.ListN.{length, get_or, set}
use lib.Seq.{get_or-set_same, set-get_or}
use Rattle.definitions.specs.Record.{Validator, FAR_FUTURE_EPOCH, decode_one, encode_one, encode, decode, nobody}
use Rattle.definitions.specs.Checked.{Checked, value, refused, bind, done, settle}
use Rattle.definitions.specs.declared.Refusal.{Refusal}
use Rattle.definitions.specs.ExitQueue.{queue_of}
use Rattle.laws.proofs.Checked.{not_value, value_same}
use Rattle.laws.proofs.Encode.{length-decode, decode-encode, encode-decode}
use Rattle.laws.specs.Ran.{Settles}
use Rattle.laws.proofs.Loops.Entry.{entry_at, put_at, entry-is, entry-back, number-at}
use Rattle.laws.proofs.Loops.Ran.{ran-entry}
use Rattle.definitions.specs.declared.ExitQueue.{ExitQueue}
use Rattle.exit_queue.specs.Exits.{exit_at, Leaves}
use Rattle.exit_queue.proofs.exits.Exits.{exit-known}
use Rattle.exit_queue.specs.Queue.{Tracks, joined, start_pair, exit_by}
use Rattle.exit_queue.specs.Turns.{Exits}
use Rattle.exit_queue.proofs.Tracks.{tracks-set, tracks-few, tracks-start}
use Rattle.exit_queue.proofs.Exiting.{exit-tracked}
use Rattle.exit_queue.proofs.Turns.{moved-far, exits-settles}
use Rattle.exit_queue.proofs.QueueOf.{tracks-is, tracks-queue}
use Rattle.validator_exit.specs.Exits.{LeavesPair}

pub tracked : {vs : List Validator} {q : ExitQueue} → q ≡ queue_of vs → Tracks 0 vs q
tracked {vs} e = rw e (tracks-queue vs)

-- a function on one validator's ten numbers leaves the registry as lent where it is refused
settles-leaves : (f : Validator → Checked Validator) (n : ℕ) (xs : List ℕ) (i : ℕ) {e : List ℕ} {r : Checked (Unit {0})} → length xs ≡ 10 * n → i < n → Settles f (entry_at xs i) e r → Leaves (bind (f (get_or (decode xs) i nobody)) (λ w. value (set (decode xs) i w))) xs (put_at xs i e) r
unfolding bind
settles-leaves f n xs i {e} {r} long l h = record { ran = ran-entry f n xs i long l h; kept = λ p q. go (f v) refl p q }
  where
    v : Validator
    v = get_or (decode xs) i nobody

    is : decode_one (entry_at xs i) ≡ v
    is = entry-is n xs i long l

    go : (m : Checked Validator) → f v ≡ m → (p : Refusal) → bind m (λ w. value (set (decode xs) i w)) ≡ refused p → put_at xs i e ≡ xs
    go (value w) g p q = absurd (not_value (sym q))
    go (refused s) g p q =
        let same : e ≡ encode_one v = h.held ∙ ap (λ (u : Validator). encode_one (settle (f u) u)) is ∙ ap (λ (m : Checked Validator). encode_one (settle m v)) g in
        entry-back n xs i long l v same ∙ ap encode (set-get_or (decode xs) i nobody) ∙ encode-decode n xs long

module _ (least limit delay n : ℕ) (xs : List ℕ) (i : ℕ) {q : ExitQueue} (long : length xs ≡ 10 * n) (l : i < n) (real : least < FAR_FUTURE_EPOCH) (true_pair : q ≡ queue_of (decode xs)) where
  pub starts : Tracks least (decode xs) (start_pair least q)
  starts = tracks-start real (tracked true_pair)

  pub starts-few : (start_pair least q).number ≤ n
  starts-few = omega (arith, tracks-few starts, length-decode n xs long)

  pub pair-few : q.number ≤ n
  pair-few = omega (arith, tracks-few (tracked true_pair), length-decode n xs long)

  -- who leaves already is left as he is
  pub leaves-known : (get_or xs (10 * i + 4) 0 ≡ FAR_FUTURE_EPOCH → ⊥) → LeavesPair (exit_at least limit delay (decode xs) i) xs xs (value q)
  leaves-known f = record { leaves = exit-known least limit delay n xs i long l f; queue = λ z. sym (value_same z) ∙ true_pair }

  -- the part came back as e, and the answer is t
  module _ {start : ExitQueue} (from : start ≡ start_pair least q) {e : List ℕ} {t : Checked ExitQueue} (h : Exits (exit_by limit delay start) start (entry_at xs i) e t) where
    leaves : Leaves (exit_at least limit delay (decode xs) i) xs (put_at xs i e) (done t)
    leaves = rw (exit-tracked least limit delay starts i, ← from) (settles-leaves (exit_by limit delay start) n xs i long l (exits-settles h))

    pub leaves-refused : {p : Refusal} {r : Checked ExitQueue} → t ≡ refused p → r ≡ refused p → LeavesPair (exit_at least limit delay (decode xs) i) xs (put_at xs i e) r
    leaves-refused z k = rw k (record { leaves = rw z at leaves; queue = λ y. absurd (not_value y) })

    pub leaves-written : get_or xs (10 * i + 4) 0 ≡ FAR_FUTURE_EPOCH → {was : ExitQueue} → t ≡ value was → length (put_at xs i e) ≡ 10 * n → {p : ExitQueue} → p ≡ joined q (get_or (put_at xs i e) (10 * i + 4) 0) → LeavesPair (exit_at least limit delay (decode xs) i) xs (put_at xs i e) (value p)
    leaves-written far z long' k = record { leaves = rw z at leaves; queue = λ y. sym (value_same y) ∙ k ∙ ap (joined q) exits ∙ moves }
      where
        v : Validator
        v = get_or (decode xs) i nobody

        inside : i < length (decode xs)
        inside = omega (arith, length-decode n xs long)

        w : Validator
        w = settle (exit_by limit delay start v) v

        put : decode (put_at xs i e) ≡ set (decode xs) i w
        put = ap decode (entry-back n xs i long l w (h.held ∙ ap (λ (u : Validator). encode_one (settle (exit_by limit delay start u) u)) (entry-is n xs i long l))) ∙ decode-encode (set (decode xs) i w)

        exits : get_or (put_at xs i e) (10 * i + 4) 0 ≡ w.exit_epoch
        exits = number-at n (put_at xs i e) i long' l 4 (omega arith) ∙ ap (λ (us : List Validator). (get_or us i nobody).exit_epoch) put ∙ ap (λ (u : Validator). u.exit_epoch) (get_or-set_same (decode xs) i w nobody inside)

        gone : v.exit_epoch ≡ FAR_FUTURE_EPOCH
        gone = sym (number-at n xs i long l 4 (omega arith)) ∙ far

        moves : joined q w.exit_epoch ≡ queue_of (decode (put_at xs i e))
        moves = sym (moved-far q v w gone) ∙ tracks-is (tracks-set (tracked true_pair) i w inside (λ f. absurd (f gone))) ∙ ap queue_of (sym put)

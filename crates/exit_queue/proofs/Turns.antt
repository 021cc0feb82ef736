-- One validator's exit: what the code's ways through it give, and what a loop over the registry has of a turn.
use mathlib.Core.Path.{◌≡◌, refl, sym, ap, subst, ◌∙◌}
use mathlib.Core.Bool.{Bool, true, false, cond}
use mathlib.Core.List.{List}
use Prim.Native.Nat.{ℕ, ◌*◌, ◌<◌}
use native.Mathlib.Omega.{arith}
use borrow.Author.Tests.{eq-eqb, ne_eqb}
use lib.Dec.{eqb}
use lib.ListN.{length, get_or, set}
use Rattle.definitions.specs.Record.{Validator, FAR_FUTURE_EPOCH, decode_one, encode_one, encode, decode, nobody}
use Rattle.definitions.specs.Updates.{with_exit}
use Rattle.definitions.specs.Checked.{Checked, value, refused, bind, done, add64}
use Rattle.definitions.specs.declared.Refusal.{Refusal}
use Rattle.laws.proofs.Checked.{bound, value_same}
use Rattle.arithmetic.proofs.Laws.{bind-value, bind-refused}
use Rattle.laws.proofs.Encode.{length-decode, decode-encode, ten}
use Rattle.laws.specs.Ran.{Settles, Ran}
use Rattle.laws.proofs.Loops.Entry.{entry_at, put_at, entry-is, entry-back}
use Rattle.laws.proofs.Loops.Ran.{ran-value, ran-refused}
use Rattle.definitions.specs.declared.ExitQueue.{ExitQueue}
use Rattle.exit_queue.specs.Queue.{Tracks, last_after, number_after, joined, next_epoch, exit_by, moved}
use Rattle.exit_queue.specs.Turns.{Exits, Turns}
use Rattle.exit_queue.proofs.Tracks.{tracks-set}

-- who has an exit epoch has kept it, or who has none got one
pub moved-known : (q : ExitQueue) (v w : Validator) → (v.exit_epoch ≡ FAR_FUTURE_EPOCH → ⊥) → moved q v w ≡ q
unfolding moved
moved-known q v w f = rw (ne_eqb v.exit_epoch FAR_FUTURE_EPOCH f)

pub moved-far : (q : ExitQueue) (v w : Validator) → v.exit_epoch ≡ FAR_FUTURE_EPOCH → moved q v w ≡ joined q w.exit_epoch
unfolding moved
moved-far q v w f = rw (eq-eqb v.exit_epoch FAR_FUTURE_EPOCH f)

-- the exit epoch is as it was: the pair stays, also where it is FAR
pub moved_none : (q : ExitQueue) (v w : Validator) → w.exit_epoch ≡ v.exit_epoch → moved q v w ≡ q
unfolding moved last_after number_after
moved_none q v w e = rw e (go (eqb v.exit_epoch FAR_FUTURE_EPOCH) refl)
  where
    go : (t : Bool) → eqb v.exit_epoch FAR_FUTURE_EPOCH ≡ t → cond t (joined q v.exit_epoch) q ≡ q
    go true a = rw a
    go false a = refl

pub moved-from : (q : ExitQueue) (u v w : Validator) → u.exit_epoch ≡ v.exit_epoch → moved q u w ≡ moved q v w
unfolding moved
moved-from q u v w e = rw e

-- An exit is an entry settled
done-moved : {A B : Type 0} (m : Checked A) (g : A → B) → done (bind m (λ a. value (g a))) ≡ done m
unfolding bind
done-moved (value a) g = refl
done-moved (refused p) g = refl

pub exits-settles : {f : Validator → Checked Validator} {q : ExitQueue} {before after : List ℕ} {r : Checked ExitQueue} → Exits f q before after r → Settles f before after (done r)
exits-settles {f} {q} {before} h =
    record { is = ap done h.is ∙ done-moved (f (decode_one before)) (λ w. moved q (decode_one before) w); held = h.held }

-- The four ways through an exit
module _ (limit delay : ℕ) (q : ExitQueue) (before : List ℕ) (l : length before ≡ 10) where
  exits-value : {r : Checked ExitQueue} {after : List ℕ} {w : Validator} → exit_by limit delay q (decode_one before) ≡ value w → after ≡ encode_one w → r ≡ value (moved q (decode_one before) w) → Exits (exit_by limit delay q) q before after r
  exits-value h e k = record { is = k ∙ sym (bind-value _ h); held = rw h e }

  exits-refused : {p : Refusal} {r : Checked ExitQueue} → exit_by limit delay q (decode_one before) ≡ refused p → r ≡ refused p → Exits (exit_by limit delay q) q before before r
  exits-refused h k = record { is = k ∙ sym (bind-refused _ h); held = rw h (ten before l) }

  pub exit-known : (get_or before 4 0 ≡ FAR_FUTURE_EPOCH → ⊥) → Exits (exit_by limit delay q) q before before (value q)
  unfolding exit_by
  exit-known f = exits-value (rw (ne_eqb (get_or before 4 0) FAR_FUTURE_EPOCH f)) (ten before l) (ap value (sym (moved-known q (decode_one before) (decode_one before) f)))

  module _ (f : get_or before 4 0 ≡ FAR_FUTURE_EPOCH) where
    pub exit-full : {p : Refusal} {r : Checked ExitQueue} → next_epoch limit q ≡ refused p → r ≡ refused p → Exits (exit_by limit delay q) q before before r
    unfolding exit_by bind
    exit-full h k = exits-refused (rw (eq-eqb (get_or before 4 0) FAR_FUTURE_EPOCH f, h)) k

    module _ {exit : ℕ} (h : next_epoch limit q ≡ value exit) where
      pub exit-over : {p : Refusal} {r : Checked ExitQueue} → add64 exit delay ≡ refused p → r ≡ refused p → Exits (exit_by limit delay q) q before before r
      unfolding exit_by bind
      exit-over k t = exits-refused (rw (eq-eqb (get_or before 4 0) FAR_FUTURE_EPOCH f, h, k)) t

      pub exit-written : {withdrawable : ℕ} {p : ExitQueue} {after : List ℕ} → add64 exit delay ≡ value withdrawable → after ≡ encode_one (with_exit exit withdrawable (decode_one before)) → p ≡ joined q exit → Exits (exit_by limit delay q) q before after (value p)
      unfolding exit_by bind
      exit-written {withdrawable} k e g =
          exits-value (rw (eq-eqb (get_or before 4 0) FAR_FUTURE_EPOCH f, h, k)) e (ap value (g ∙ sym (moved-far q (decode_one before) (with_exit exit withdrawable (decode_one before)) f)))

-- A loop's turn at i: the part came back as e, and the answer is r
module _ (f : Validator → Checked Validator) {q : ExitQueue} (n : ℕ) (xs : List ℕ) (i : ℕ) {e : List ℕ} {r : Checked ExitQueue} (long : length xs ≡ 10 * n) (l : i < n) (h : Turns f q (entry_at xs i) e r) where
  v : Validator
  v = get_or (decode xs) i nobody

  is : decode_one (entry_at xs i) ≡ v
  unfolding v
  is = entry-is n xs i long l

  put : (w : Validator) → f v ≡ value w → put_at xs i e ≡ encode (set (decode xs) i w)
  put w g = entry-back n xs i long l w (h.held w (ap f is ∙ g))

  pub turn-ran : Ran (bind (f (get_or (decode xs) i nobody)) (λ w. value (set (decode xs) i w))) (put_at xs i e) (done r)
  unfolding bind v
  turn-ran = go (f v) refl
    where
      go : (m : Checked Validator) → f v ≡ m → Ran (bind m (λ w. value (set (decode xs) i w))) (put_at xs i e) (done r)
      go (value w) g = rw (ap done (h.is ∙ bind-value _ (ap f is ∙ g))) (ran-value (put w g))
      go (refused p) g = rw (ap done (h.is ∙ bind-refused _ (ap f is ∙ g))) (ran-refused refl)

  pub turn-tracks : {least : ℕ} → Tracks least (decode xs) q → ((w : Validator) → f (get_or (decode xs) i nobody) ≡ value w → ((get_or (decode xs) i nobody).exit_epoch ≡ FAR_FUTURE_EPOCH → ⊥) → w.exit_epoch ≡ (get_or (decode xs) i nobody).exit_epoch) → {p : ExitQueue} → r ≡ value p → Tracks least (decode (put_at xs i e)) p
  unfolding v
  turn-tracks {least} t keeps {p} z =
      let k = bound (f (decode_one (entry_at xs i))) (λ w. value (moved q (decode_one (entry_at xs i)) w)) (sym h.is ∙ z) in
      let w = k.first in
      let g : f v ≡ value w = ap f (sym is) ∙ k.gave in
      let a : decode (put_at xs i e) ≡ set (decode xs) i w = ap decode (put w g) ∙ decode-encode (set (decode xs) i w) in
      let b : p ≡ moved q v w = sym (value_same k.then) ∙ ap (λ (u : Validator). moved q u w) is in
      let c : Tracks least (decode (put_at xs i e)) (moved q v w) = rw a (tracks-set t i w (omega (arith, length-decode n xs long)) (keeps w g)) in
      subst (λ (o : ExitQueue). Tracks least (decode (put_at xs i e)) o) (sym b) c

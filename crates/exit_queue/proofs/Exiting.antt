-- An exit by the pair is the rescanning exit.
use mathlib.Core.Path.{◌≡◌, refl, sym, ap}
use mathlib.Core.Bool.{Bool, true, false, cond}
use mathlib.Core.List.{List}
use Prim.Native.Nat.{ℕ}
use borrow.Author.Tests.{ne_eqb}
use lib.Dec.{leb, eqb}
use lib.ListN.{get_or, set}
use lib.Seq.{set-get_or}
use Rattle.definitions.specs.Record.{Validator, FAR_FUTURE_EPOCH, nobody}
use Rattle.definitions.specs.Updates.{with_exit}
use Rattle.definitions.specs.Checked.{Checked, value, refused, bind, add64}
use Rattle.laws.proofs.Checked.{value_same}
use Rattle.arithmetic.proofs.Operations.{OnlyOverflow, only-value, only-add64}
use Rattle.exit_queue.specs.Exits.{queue_epoch, exit_at}
use Rattle.definitions.specs.declared.ExitQueue.{ExitQueue}
use Rattle.exit_queue.specs.Queue.{Tracks, next_epoch, exit_by}

next-tracked : (least limit : ℕ) {vs : List Validator} {q : ExitQueue} → Tracks least vs q → next_epoch limit q ≡ queue_epoch least limit vs
unfolding next_epoch queue_epoch
next-tracked least limit t = rw (t.number, t.last)

pub exit-tracked : (least limit delay : ℕ) {vs : List Validator} {q : ExitQueue} → Tracks least vs q → (i : ℕ) → exit_at least limit delay vs i ≡ bind (exit_by limit delay q (get_or vs i nobody)) (λ w. value (set vs i w))
unfolding exit_at exit_by bind
exit-tracked least limit delay {vs} {q} t i = rw (next-tracked least limit t) (go (eqb v.exit_epoch FAR_FUTURE_EPOCH) (queue_epoch least limit vs))
  where
    v : Validator
    v = get_or vs i nobody

    later : (exit : ℕ) (m : Checked ℕ) → bind m (λ withdrawable. value (set vs i (with_exit exit withdrawable v))) ≡ bind (bind m (λ withdrawable. value (with_exit exit withdrawable v))) (λ w. value (set vs i w))
    later exit (value withdrawable) = refl
    later exit (refused p) = refl

    go : (s : Bool) (m : Checked ℕ) → cond s (bind m (λ exit. bind (add64 exit delay) (λ withdrawable. value (set vs i (with_exit exit withdrawable v))))) (value vs) ≡ bind (cond s (bind m (λ exit. bind (add64 exit delay) (λ withdrawable. value (with_exit exit withdrawable v)))) (value v)) (λ w. value (set vs i w))
    go true (value exit) = later exit (add64 exit delay)
    go true (refused p) = refl
    go false m = ap value (sym (set-get_or vs i nobody))

pub only-next_epoch : (limit : ℕ) (q : ExitQueue) → OnlyOverflow (next_epoch limit q)
unfolding next_epoch
only-next_epoch limit q = go (leb limit q.number)
  where
    go : (t : Bool) → OnlyOverflow (cond t (add64 q.last_epoch 1) (value q.last_epoch))
    go true = only-add64 q.last_epoch 1
    go false = only-value q.last_epoch

-- whoever has an exit epoch keeps it
pub exit-keeps : (limit delay : ℕ) (q : ExitQueue) (v w : Validator) → exit_by limit delay q v ≡ value w → (v.exit_epoch ≡ FAR_FUTURE_EPOCH → ⊥) → w.exit_epoch ≡ v.exit_epoch
unfolding exit_by
exit-keeps limit delay q v w e f = ap (λ (u : Validator). u.exit_epoch) (sym (value_same (rw (ne_eqb v.exit_epoch FAR_FUTURE_EPOCH f) at e)))

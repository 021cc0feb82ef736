-- The exit queue's pair, and when it answers as a rescan of the registry does.
use Rattle.std.specs.Prelude.{◌≡◌, Bool, cond, ◌&&◌, List, ℕ, ◌+◌, max, leb, ltb, eqb}
use Rattle.definitions.specs.Lists.{maximum}
use Rattle.definitions.specs.Record.{Validator, FAR_FUTURE_EPOCH}
use Rattle.definitions.specs.Checked.{Checked, value, bind, add64}
use Rattle.definitions.specs.Updates.{with_exit}
use Rattle.definitions.specs.Document.Phase0.Helpers.{exit_epochs, exit_queue_churn}
use Rattle.definitions.specs.declared.ExitQueue.{ExitQueue}

-- The pair is what a rescan finds: the latest of `least` and the exit epochs that are taken, and how many leave at it. `least` is the
-- activation exit epoch of the present epoch. FAR is never the last epoch.
pub record Tracks (least : ℕ) (vs : List Validator) (q : ExitQueue) : Type 0 where
  pub last : q.last_epoch ≡ maximum least (exit_epochs vs)
  pub number : q.number ≡ exit_queue_churn q.last_epoch vs
  pub real : q.last_epoch ≡ FAR_FUTURE_EPOCH → ⊥

-- One more leaves at `epoch`. FAR is no exit: a rescan leaves it out, and the pair stays.

unfoldable pub last_after : ℕ → ℕ → ℕ
last_after last epoch = cond (eqb epoch FAR_FUTURE_EPOCH) last (max epoch last)

unfoldable pub number_after : ℕ → ℕ → ℕ → ℕ
number_after last number epoch =
    cond (eqb epoch FAR_FUTURE_EPOCH) number (cond (ltb last epoch) 1 (cond (eqb epoch last) (number + 1) number))

abbrev pub joined : ExitQueue → ℕ → ExitQueue
joined q epoch =
    record { last_epoch = last_after q.last_epoch epoch; number = number_after q.last_epoch q.number epoch }

-- The pair that exits of the present epoch go by, from the record's, which is `Tracks 0`: the largest exit epoch below FAR, or 0, and how many have exactly it
unfoldable pub start_pair : ℕ → ExitQueue → ExitQueue
start_pair least q = cond (ltb q.last_epoch least) (record { last_epoch = least; number = 0 }) q

-- One validator's exit by the pair

-- the last epoch, or the one after it where that one is full
unfoldable pub next_epoch : ℕ → ExitQueue → Checked ℕ
next_epoch limit q = cond (leb limit q.number) (add64 q.last_epoch 1) (value q.last_epoch)

unfoldable pub exit_by : ℕ → ℕ → ExitQueue → Validator → Checked Validator
exit_by limit delay q v =
    cond (eqb v.exit_epoch FAR_FUTURE_EPOCH)
    (bind (next_epoch limit q) (λ exit.
    bind (add64 exit delay) (λ withdrawable.
    value (with_exit exit withdrawable v))))
    (value v)

-- the pair once v has become w: whoever had an exit epoch has kept it, and the pair stays
unfoldable pub moved : ExitQueue → Validator → Validator → ExitQueue
moved q v w = cond (eqb v.exit_epoch FAR_FUTURE_EPOCH) (joined q w.exit_epoch) q

-- two pairs are the same
abbrev pub same_queue : ExitQueue → ExitQueue → Bool
same_queue a b = eqb a.last_epoch b.last_epoch && eqb a.number b.number

-- The exit queue's pair tested: only a register's own passes.
use mathlib.Core.Path.{◌≡◌, refl}
use mathlib.Core.Bool.{Bool, true, false, ◌&&◌, false≢true}
use mathlib.Core.List.{List}
use borrow.Author.Tests.{eqb-true, eq-eqb}
use lib.Dec.{eqb}
use Rattle.definitions.specs.declared.ExitQueue.{ExitQueue}
use Rattle.definitions.specs.Record.{Validator}
use Rattle.definitions.specs.ExitQueue.{queue_of, is_queue_of}

pub is-queue : (q : ExitQueue) (vs : List Validator) → is_queue_of q vs ≡ true → q ≡ queue_of vs
unfolding is_queue_of
is-queue q vs e = go (eqb q.last_epoch (queue_of vs).last_epoch) (eqb q.number (queue_of vs).number) refl refl e
  where
    go : (a b : Bool) → eqb q.last_epoch (queue_of vs).last_epoch ≡ a → eqb q.number (queue_of vs).number ≡ b → a && b ≡ true → q ≡ queue_of vs
    go true true l n e = λ i. record { last_epoch = eqb-true q.last_epoch (queue_of vs).last_epoch l i; number = eqb-true q.number (queue_of vs).number n i }
    go true false l n e = absurd (false≢true e)
    go false b l n e = absurd (false≢true e)

pub is_its_own : (vs : List Validator) → is_queue_of (queue_of vs) vs ≡ true
unfolding is_queue_of
is_its_own vs = rw (eq-eqb (queue_of vs).last_epoch (queue_of vs).last_epoch refl, eq-eqb (queue_of vs).number (queue_of vs).number refl)

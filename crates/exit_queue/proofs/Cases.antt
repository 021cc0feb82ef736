-- The cases in which a pair is easily wrong, each by itself. Tracks.antt and Exiting.antt have them among all others.
use mathlib.Core.Path.{◌≡◌, refl}
use Prim.Native.Nat.{ℕ, ◌≤◌}
use native.Mathlib.Omega.{arith}
use borrow.Author.Tests.{le-leb, eq-eqb}
use Rattle.definitions.specs.Record.{Validator, FAR_FUTURE_EPOCH}
use Rattle.definitions.specs.Updates.{with_exit}
use Rattle.definitions.specs.Checked.{value, refused, bind, add64}
use Rattle.definitions.specs.declared.Refusal.TheVariants.{Overflow}
use Rattle.definitions.specs.declared.ExitQueue.{ExitQueue}
use Rattle.exit_queue.specs.Queue.{last_after, number_after, joined, next_epoch, exit_by, moved}

-- churn limit 0: every exit takes the next epoch
pub no-churn : (q : ExitQueue) → next_epoch 0 q ≡ add64 q.last_epoch 1
unfolding next_epoch
no-churn q = rw (le-leb 0 q.number (omega arith))

-- FAR is no exit
pub no-exit : (q : ExitQueue) → joined q FAR_FUTURE_EPOCH ≡ q
unfolding last_after number_after
no-exit q = refl

-- The last epoch is the largest, FAR - 1, and full: the next one is FAR
module _ (limit number : ℕ) (full : limit ≤ number) (v : Validator) (far : v.exit_epoch ≡ FAR_FUTURE_EPOCH) where
  abbrev largest : ExitQueue
  largest = record { last_epoch = 18446744073709551614; number = number }

  -- with delay 0 it is written, and the pair stays
  pub written-far : exit_by limit 0 largest v ≡ value (with_exit FAR_FUTURE_EPOCH FAR_FUTURE_EPOCH v)
  unfolding exit_by next_epoch bind add64
  written-far = rw (eq-eqb v.exit_epoch FAR_FUTURE_EPOCH far, le-leb limit number full)

  pub stays-far : moved largest v (with_exit FAR_FUTURE_EPOCH FAR_FUTURE_EPOCH v) ≡ largest
  unfolding moved last_after number_after
  stays-far = rw (eq-eqb v.exit_epoch FAR_FUTURE_EPOCH far)

  -- with delay 1 it is refused
  pub refused-far : exit_by limit 1 largest v ≡ refused Overflow
  unfolding exit_by next_epoch bind add64
  refused-far = rw (eq-eqb v.exit_epoch FAR_FUTURE_EPOCH far, le-leb limit number full)

-- The activations of the registry step, validator by validator: those who wait with fewer than the churn limit ahead.
use mathlib.Core.Path.{◌≡◌, refl, ap, ap₂, ◌∙◌}
use mathlib.Core.Bool.{Bool, true, false, cond, ◌&&◌}
use mathlib.Core.List.{List}
use Prim.Native.Nat.{ℕ, ◌<◌}
use borrow.Author.Tests.{lt-ltb}
use lib.Dec.{ltb}
use lib.ListN.{length, get_or}
use Rattle.definitions.specs.Record.{Validator, nobody}
use Rattle.definitions.specs.Updates.{with_activation}
use Rattle.definitions.specs.Document.Phase0.Helpers.{is_eligible_for_activation}
use Rattle.definitions.specs.Document.Phase0.EpochProcessing.{dequeued}
use Rattle.laws.specs.Queue as queue
use Rattle.laws.proofs.ActivationQueue.Dequeued as Dequeued
use Rattle.history.proofs.Waiting.{eligibility_at, activation_at, waits, ahead}
use Rattle.history.proofs.Counting.{how_many, count_same}
use Rattle.history.proofs.Order.{before}

-- who waits passes the queue's test
pub waits-eligible : (f : ℕ) (vs : List Validator) (i : ℕ) → i < length vs → is_eligible_for_activation f (get_or vs i nobody) ≡ waits f vs i
unfolding waits is_eligible_for_activation
waits-eligible f vs i l = rw (lt-ltb i (length vs) l)

-- who is ahead in the step's queue is ahead in the statement's words
pub same_ahead : (f : ℕ) (vs : List Validator) (i : ℕ) → queue.ahead f vs i ≡ ahead f vs i
unfolding queue.ahead ahead how_many
same_ahead f vs i =
    count_same (λ j. is_eligible_for_activation f (get_or vs j nobody) && before vs j i) (λ j. waits f vs j && before vs j i) (length vs) (λ j m. ap (λ (b : Bool). b && before vs j i) (waits-eligible f vs j m))

module _ (to churn f : ℕ) (vs : List Validator) where
  -- the step, validator by validator
  dequeued-at : (i : ℕ) → i < length vs → get_or (dequeued to churn f vs) i nobody ≡ cond (waits f vs i && ltb (ahead f vs i) churn) (with_activation to (get_or vs i nobody)) (get_or vs i nobody)
  dequeued-at i l =
      Dequeued.dequeued-at to churn f vs i l
      ∙ ap₂ (λ (a : Bool) (n : ℕ). cond (a && ltb n churn) (with_activation to (get_or vs i nobody)) (get_or vs i nobody)) (waits-eligible f vs i l) (same_ahead f vs i)

  pub dequeued-eligibility : (i : ℕ) → i < length vs → eligibility_at (dequeued to churn f vs) i ≡ eligibility_at vs i
  dequeued-eligibility i l = ap (λ (v : Validator). v.activation_eligibility_epoch) (dequeued-at i l) ∙ go (waits f vs i && ltb (ahead f vs i) churn)
    where
      go : (b : Bool) → (cond b (with_activation to (get_or vs i nobody)) (get_or vs i nobody)).activation_eligibility_epoch ≡ eligibility_at vs i
      go true = refl
      go false = refl

  pub dequeued-activation : (i : ℕ) → i < length vs → activation_at (dequeued to churn f vs) i ≡ cond (waits f vs i && ltb (ahead f vs i) churn) to (activation_at vs i)
  dequeued-activation i l = ap (λ (v : Validator). v.activation_epoch) (dequeued-at i l) ∙ go (waits f vs i && ltb (ahead f vs i) churn)
    where
      go : (b : Bool) → (cond b (with_activation to (get_or vs i nobody)) (get_or vs i nobody)).activation_epoch ≡ cond b to (activation_at vs i)
      go true = refl
      go false = refl

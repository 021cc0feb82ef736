-- Test 8 after the other tests, and what it gives once passed.
use mathlib.Core.Path.{◌≡◌, refl, sym, ◌∙◌}
use mathlib.Core.Bool.{Bool, true, false, cond}
use mathlib.Core.List.{List}
use Prim.Native.Nat.{ℕ}
use borrow.Author.Tests.{eq-eqb}
use Rattle.definitions.specs.declared.ExitQueue.{ExitQueue}
use Rattle.definitions.specs.Record.{Validator, decode}
use Rattle.definitions.specs.Checked.{Checked, value, refused, bind}
use Rattle.definitions.specs.declared.Refusal.{Refusal}
use Rattle.definitions.specs.declared.Refusal.TheVariants.{WrongQueue}
use Rattle.definitions.specs.ExitQueue.{queue_of, is_queue_of, queue_test}
use Rattle.definitions_close.specs.QueueCalls.{then_queue}
use Rattle.laws.proofs.Checked.{not_value}
use Rattle.laws.proofs.Queue.{is-queue}
use Rattle.validator_exit.specs.Found.{pair_test}

pub queue-passes : (vs : List Validator) → queue_test (queue_of vs) vs ≡ value tt
unfolding queue_test is_queue_of
queue-passes vs = rw (eq-eqb (queue_of vs).last_epoch (queue_of vs).last_epoch refl, eq-eqb (queue_of vs).number (queue_of vs).number refl)

module _ (tests : Checked (Unit {0})) (q : ExitQueue) (registry : List ℕ) {x : Checked (Unit {0})} (e : x ≡ tests) where
  -- another test refused
  pub refused-sooner : {p : Refusal} → x ≡ refused p → then_queue tests q registry ≡ refused p
  unfolding then_queue bind
  refused-sooner z = rw (sym e ∙ z)

  -- they passed, and the pair that was found is the registry's
  pub tested-queue : x ≡ value tt → {found : ExitQueue} {r : Checked (Unit {0})} → found ≡ queue_of (decode registry) → r ≡ pair_test q found → r ≡ then_queue tests q registry
  unfolding then_queue bind queue_test is_queue_of pair_test
  tested-queue z f h = h ∙ rw (sym e ∙ z, f)

-- all passed
pub record QueuePassed (tests : Checked (Unit {0})) (q : ExitQueue) (registry : List ℕ) : Type 0 where
  pub before : tests ≡ value tt
  pub queue : q ≡ queue_of (decode registry)

pub queue-passed : (tests : Checked (Unit {0})) (q : ExitQueue) (registry : List ℕ) {x : Checked (Unit {0})} → x ≡ then_queue tests q registry → x ≡ value tt → QueuePassed tests q registry
unfolding then_queue bind queue_test
queue-passed tests q registry e z = go tests refl (is_queue_of q (decode registry)) refl (sym e ∙ z)
  where
    test : Bool → Checked (Unit {0})
    test b = cond b (value tt) (refused WrongQueue)

    go : (m : Checked (Unit {0})) → tests ≡ m → (b : Bool) → is_queue_of q (decode registry) ≡ b → bind m (λ _. test b) ≡ value tt → QueuePassed tests q registry
    go (value u) p true g h = record { before = p; queue = is-queue q (decode registry) g }
    go (value u) p false g h = absurd (not_value h)
    go (refused r) p b g h = absurd (not_value h)

-- The tests, as the code asks them: 1 of the amounts, those of the close, and then 8.
use mathlib.Core.Path.{◌≡◌, sym, ◌∙◌}
use Prim.Native.Nat.{◌*◌, ◌/◌}
use borrow.Author.Tests.{eq-eqb, ne_eqb}
use lib.ListN.{length}
use Rattle.definitions.specs.declared.ActivationLimit.{ActivationLimit}
use Rattle.definitions.specs.declared.ExitQueue.{ExitQueue}
use Rattle.definitions.specs.Record.{decode}
use Rattle.definitions.specs.declared.Refusal.{Refusal}
use Rattle.definitions.specs.declared.Refusal.TheVariants.{BadShape}
use Rattle.definitions.specs.Checked.{Checked, refused, bind}
use Rattle.definitions.specs.Refusals.{after_tests}
use Rattle.definitions.specs.ExitQueue.{queue_of, is_queue_of, queue_test}
use Rattle.definitions.specs.Close.{limited_tests}
use Rattle.definitions_close.specs.FullClose.{FullCall, limited_full_tests}
use Rattle.validator_exit.specs.Found.{pair_test}

module _ (by : ActivationLimit) (c : FullCall) where
  pub amounts-refused : (length c.amounts ≡ 9 * (length c.call.registry / 10) → ⊥) → limited_full_tests by c ≡ refused BadShape
  unfolding limited_full_tests
  amounts-refused n = rw (ne_eqb _ _ n)

  module _ (shaped : length c.amounts ≡ 9 * (length c.call.registry / 10)) where
    then-queue : limited_full_tests by c ≡ after_tests (limited_tests by c.call) (queue_test c.queue (decode c.call.registry))
    unfolding limited_full_tests after_tests
    then-queue = rw (eq-eqb _ _ shaped)

    -- a test of the close refused
    pub close-refused : {p : Refusal} → limited_tests by c.call ≡ refused p → limited_full_tests by c ≡ refused p
    unfolding after_tests bind
    close-refused e = then-queue ∙ rw e

    -- all of them and 8, by the pair that was found
    pub queue-tested : {x y z : Checked (Unit {0})} {found : ExitQueue} → x ≡ limited_tests by c.call → found ≡ queue_of (decode c.call.registry) → y ≡ pair_test c.queue found → z ≡ after_tests x y → z ≡ limited_full_tests by c
    unfolding queue_test is_queue_of pair_test
    queue-tested e f g h = h ∙ rw (e, g, f) (sym then-queue)

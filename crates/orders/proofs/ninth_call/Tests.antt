-- The tests of the ninth call, one group after the other. `x` is what the code of a group answered.
use mathlib.Core.Path.{◌≡◌, sym, ap, ◌∙◌}
use Prim.Native.Nat.{ℕ, ◌*◌, ◌/◌, ◌%◌}
use native.Mathlib.Omega.{arith}
use borrow.Author.Tests.{leb-true, eqb-true, lt-ltb}
use lib.Dec.{eqb}
use lib.ListN.{length}
use Rattle.definitions.specs.declared.Refusal.{Refusal}
use Rattle.definitions.specs.Checked.{Checked, value, refused, done}
use Rattle.definitions.specs.Rules.{settings_under}
use Rattle.definitions_close.specs.QueueCalls.{then_queue}
use Rattle.definitions_close.specs.Orders.{room, NinthCall, ninth_tests}
use Rattle.laws.proofs.Rules.{shaped-under, good-under}
use Rattle.laws.proofs.Tests.{both, in_order-value}
use Rattle.refusals.proofs.Laws.{registry-shaped, good-finality}
use Rattle.validator_exit.specs.declared.Seen.{Seen}
use Rattle.validator_exit.specs.Exits.{sees}
use Rattle.validator_exit.specs.Found.{pair_test}
use Rattle.validator_exit.proofs.Tests.{pass-tested, pass-found}
use Rattle.validator_exit.proofs.queue_tests.Queue.{queue-passed}
use Rattle.validator_exit.proofs.queue_tests.Found.{early-refused, entry-refused, pair-code}
use Rattle.orders.specs.Ninth.{lent_tests, Ready}

module _ (n : NinthCall) {x : Checked (Unit {0})} (e : x ≡ lent_tests n.rules n.period n.running.answer.finality n.running.orders n.closing_registry n.orders n.answers) where
  pub lent-refuses : {p : Refusal} → x ≡ refused p → ninth_tests n ≡ refused p
  unfolding lent_tests ninth_tests then_queue
  lent-refuses z = early-refused _ _ _ n.running.answer.queue n.closing_registry e z

  -- before the registry is looked at
  module _ (z : x ≡ value tt) where
    pub lent-long : length n.closing_registry ≡ 10 * (length n.closing_registry / 10)
    unfolding lent_tests
    lent-long = (registry-shaped n.closing_registry ((in_order-value _ _ _ (sym e ∙ z)).shaped 1)).long

    -- the registry's entries, and 8
    module _ (epoch : ℕ) {pass : Checked Seen} (f : pass ≡ sees epoch n.closing_registry) where
      pub pass-refuses : {p : Refusal} → pass ≡ refused p → ninth_tests n ≡ refused p
      unfolding lent_tests ninth_tests then_queue
      pass-refuses y = entry-refused _ _ _ n.running.answer.queue n.closing_registry e z (pass-tested epoch n.closing_registry f) (ap done y)

      pub pair-tests : {g : Seen} {t : Checked (Unit {0})} → pass ≡ value g → t ≡ pair_test n.running.answer.queue g.queue → t ≡ ninth_tests n
      unfolding lent_tests ninth_tests then_queue
      pair-tests y h = pair-code _ _ _ n.running.answer.queue n.closing_registry e z (pass-tested epoch n.closing_registry f) (ap done y) (pass-found epoch n.closing_registry f y).1 h

-- all passed
pub ready : (n : NinthCall) {x : Checked (Unit {0})} → x ≡ ninth_tests n → x ≡ value tt → Ready (settings_under n.rules) n.running n.closing_registry n.orders n.answers
unfolding ninth_tests then_queue
ready n e z =
    let k = queue-passed _ n.running.answer.queue n.closing_registry e z in
    let p = in_order-value _ _ _ k.before in
    let listed = leb-true n.running.orders (room n.orders) (both (eqb (length n.orders % 2) 0) _ (p.shaped 2)).1 in
    let alike = eqb-true (length n.answers) (room n.orders) (p.shaped 3) in
    record {
      settings =
          record {
            shaped = shaped-under n.rules (p.shaped 0);
            good = good-under n.rules (p.settings 0);
            small = lt-ltb _ _ (good-finality n.running.answer.finality (p.recorded 0)).slot;
          };
      long = (registry-shaped n.closing_registry (p.shaped 1)).long;
      queue = k.queue;
      listed = listed;
      answered = omega (arith, listed, alike);
    }

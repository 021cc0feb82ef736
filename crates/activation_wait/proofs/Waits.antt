-- What the call answers, by its tests and once they have passed.
use mathlib.Core.Bool.{Bool, true, false}
use mathlib.Core.List.{List}
use mathlib.Core.Path.{◌≡◌, sym, ap, ◌∙◌}
use Prim.Native.Nat.{ℕ, ◌*◌, ◌/◌, ◌<◌}
use borrow.Author.Tests.{ltb-true}
use lib.ListN.{length, get_or}
use Rattle.definitions.specs.declared.Settings.{Settings}
use Rattle.definitions.specs.Record.{decode_one, decode, nobody}
use Rattle.definitions.specs.declared.Refusal.{Refusal}
use Rattle.definitions.specs.Checked.{Checked, value, refused, number_of}
use Rattle.definitions.specs.Document.Phase0.Helpers.{is_eligible_for_activation}
use Rattle.definitions.specs.RegisterOrder.{ahead}
use Rattle.definitions_wait.specs.Wait.{wait_tests, no_wait, waiting, wait_of, wait_for, activation_wait}
use Rattle.laws.proofs.Loops.Entry.{entry_at, entry-is}
use Rattle.laws.proofs.Tests.{in_order-value}
use Rattle.refusals.proofs.Answers.{after-passed, after-refused}
use Rattle.refusals.proofs.Laws.{registry-shaped}

module _ (s : Settings) (finalized_epoch : ℕ) (registry : List ℕ) (index : ℕ) where
  module _ {x : Checked (Unit {0})} (e : x ≡ wait_tests s finalized_epoch registry index) where
    pub wait-refused : {p : Refusal} {n : ℕ} → x ≡ refused p → n ≡ number_of p → no_wait n ≡ activation_wait s finalized_epoch registry index
    wait-refused z k =
        ap no_wait k
        ∙ sym (ap wait_for (after-refused (wait_tests s finalized_epoch registry index) (value (wait_of s finalized_epoch (decode registry) index)) e z))

    pub wait-lent : x ≡ value tt → (length registry ≡ 10 * (length registry / 10)) × (index < length registry / 10)
    unfolding wait_tests
    wait-lent z = let p = in_order-value _ _ _ (sym e ∙ z) in ((registry-shaped registry (p.shaped 1)).long, ltb-true _ _ (p.shaped 2))

    pub wait-passed : x ≡ value tt → wait_of s finalized_epoch (decode registry) index ≡ activation_wait s finalized_epoch registry index
    wait-passed z = sym (ap wait_for (after-passed (wait_tests s finalized_epoch registry index) (value (wait_of s finalized_epoch (decode registry) index)) e z))

  module _ (n : ℕ) (long : length registry ≡ 10 * n) (l : index < n) {b : Bool} (e : b ≡ is_eligible_for_activation finalized_epoch (decode_one (entry_at registry index))) where
    eligible : is_eligible_for_activation finalized_epoch (get_or (decode registry) index nobody) ≡ b
    eligible = sym (e ∙ ap (is_eligible_for_activation finalized_epoch) (entry-is n registry index long l))

    pub wait-none : b ≡ false → no_wait 0 ≡ wait_of s finalized_epoch (decode registry) index
    unfolding wait_of
    wait-none t = rw (eligible ∙ t)

    pub wait-some : b ≡ true → {k : ℕ} → k ≡ ahead finalized_epoch (decode registry) index → waiting s.min_per_epoch_churn_limit k ≡ wait_of s finalized_epoch (decode registry) index
    unfolding wait_of
    wait-some t k = rw (eligible ∙ t, k)

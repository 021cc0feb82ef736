-- What the head tells by its tests. `x` is what they answered.
use mathlib.Core.List.{List}
use mathlib.Core.Path.{◌≡◌, sym, ap, ◌∙◌}
use Prim.Native.Nat.{ℕ, ◌*◌, ◌/◌, ◌<◌}
use lib.ListN.{length}
use Rattle.definitions.specs.declared.Settings.{Settings}
use Rattle.definitions.specs.declared.Finality.{Finality}
use Rattle.definitions.specs.Checked.{Checked, value, refused, number_of}
use Rattle.definitions.specs.declared.Refusal.{Refusal}
use Rattle.laws.proofs.Tests.{in_order-value}
use Rattle.refusals.proofs.Answers.{after-passed, after-refused}
use Rattle.refusals.proofs.Laws.{good-settings, registry-shaped}
use Rattle.definitions_file.specs.ListingAnswers.{head_tests, head_numbers, no_head, head_for, head_of}

module _ (s : Settings) (state_slot : ℕ) (closing : Finality) (opening : List ℕ) {x : Checked (Unit {0})} (e : x ≡ head_tests s state_slot closing opening) where
  pub head-refused : {p : Refusal} {k : ℕ} → x ≡ refused p → k ≡ number_of p → no_head k ≡ head_of s state_slot closing opening
  head-refused z n = rw (after-refused (head_tests s state_slot closing opening) (value (head_numbers s state_slot closing opening)) e z, n)

  pub head-lent : x ≡ value tt → (0 < s.slots_per_epoch) × (length opening ≡ 10 * (length opening / 10))
  unfolding head_tests
  head-lent z =
      let p = in_order-value _ _ _ (sym e ∙ z) in
      ((good-settings s (p.settings 0)).positive.slots_per_epoch, (registry-shaped opening (p.shaped 1)).long)

  pub head_passed : x ≡ value tt → head_numbers s state_slot closing opening ≡ head_of s state_slot closing opening
  head_passed z = sym (ap head_for (after-passed (head_tests s state_slot closing opening) (value (head_numbers s state_slot closing opening)) e z))

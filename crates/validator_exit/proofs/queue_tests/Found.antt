-- A call tests 1, 2 and what of 3 is no entry, by `first`; then one pass tests the entries and finds the pair. `x` is what the first
-- tests answered.
use mathlib.Core.Path.{◌≡◌, refl, sym, ◌∙◌}
use mathlib.Core.Bool.{Bool, cond}
use mathlib.Core.List.{List, [], ◌∷◌, ◌++◌}
use Prim.Native.Nat.{ℕ}
use Rattle.definitions.specs.declared.ExitQueue.{ExitQueue}
use Rattle.definitions.specs.declared.Refusal.{Refusal}
use Rattle.definitions.specs.declared.Refusal.TheVariants.{BadRecord}
use Rattle.definitions.specs.Lists.{every}
use Rattle.definitions.specs.Record.{decode}
use Rattle.definitions.specs.Checked.{Checked, value, refused, bind}
use Rattle.definitions.specs.Refusals.{in_order, good_registry}
use Rattle.definitions.specs.ExitQueue.{queue_of}
use Rattle.definitions_close.specs.QueueCalls.{then_queue}
use Rattle.laws.proofs.Checked.{not_value}
use Rattle.laws.proofs.Tests.{and_true}
use Rattle.validator_exit.specs.Found.{pair_test, found_tests}
use Rattle.validator_exit.proofs.queue_tests.Recorded.{recorded-refused, recorded-tested}
use Rattle.validator_exit.proofs.queue_tests.Queue.{refused-sooner, tested-queue}

-- nothing was refused: neither an entry
pub found_passed : (tested : Checked (Unit {0})) (queue found : ExitQueue) {t : Checked (Unit {0})} → t ≡ found_tests tested queue found → t ≡ value tt → tested ≡ value tt
unfolding found_tests bind
found_passed (value u) queue found h z = refl
found_passed (refused p) queue found h z = absurd (not_value (sym h ∙ z))

module _ (shaped settings first : List Bool) (queue : ExitQueue) (registry : List ℕ) {x : Checked (Unit {0})} (e : x ≡ in_order shaped settings first) where
  abbrev others : Checked (Unit {0})
  others = in_order shaped settings (first ++ (good_registry registry ∷ []))

  pub early-refused : {p : Refusal} → x ≡ refused p → then_queue others queue registry ≡ refused p
  early-refused z = refused-sooner others queue registry refl (recorded-refused shaped settings first (good_registry registry ∷ []) e z)

  module _ (z : x ≡ value tt) {tested : Checked (Unit {0})} (h : tested ≡ cond (good_registry registry) (value tt) (refused BadRecord)) where
    pub entries-code : tested ≡ others
    unfolding every
    entries-code = h ∙ sym (recorded-tested shaped settings first (good_registry registry ∷ []) e z ∙ rw (and_true (good_registry registry)))

    -- an entry failed
    pub entry-refused : {p : Refusal} → tested ≡ refused p → then_queue others queue registry ≡ refused p
    entry-refused y = refused-sooner others queue registry entries-code y

    -- none did, and the pair was tested
    pub pair-code : tested ≡ value tt → {found : ExitQueue} {t : Checked (Unit {0})} → found ≡ queue_of (decode registry) → t ≡ pair_test queue found → t ≡ then_queue others queue registry
    pair-code y f k = tested-queue others queue registry entries-code y f k

    pub found-code : {found : ExitQueue} {t : Checked (Unit {0})} → (tested ≡ value tt → found ≡ queue_of (decode registry)) → t ≡ found_tests tested queue found → t ≡ then_queue others queue registry
    unfolding found_tests bind
    found-code {found} {t} f k = go tested refl k
      where
        go : (m : Checked (Unit {0})) → tested ≡ m → t ≡ bind m (λ _. pair_test queue found) → t ≡ then_queue others queue registry
        go (value u) y k = pair-code y (f y) k
        go (refused p) y k = k ∙ sym (entry-refused y)

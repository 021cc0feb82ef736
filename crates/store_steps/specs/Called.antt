-- The calls of a close by steps with a store as the definition's records, and the rules of the ninth from what is lent.
use Rattle.std.specs.Prelude.{List, [], ◌∷◌, ℕ}
use Rattle.definitions.specs.declared.Rules.{Rules}
use Rattle.definitions.specs.Checked.{Checked}
use Rattle.definitions.specs.Refusals.{in_order, after_tests, is_small, length_is, registry_shaped}
use Rattle.definitions_close.specs.CloseBySteps.{StepOutcome}
use Rattle.definitions_close.specs.Store.{Store, entries, store_shaped, good_entries}
use Rattle.definitions_close.specs.StoreClose.{rules_at_slot, rules_for}
use Rattle.definitions_close.specs.StoreSteps.{StoreStepCall, store_so_far, store_step_by}
use Rattle.definitions_close.specs.Orders.{room, orders_shaped}

-- the first call in its turn, and a later one: by the rules for the opening, and for the record so far
unfoldable pub first_step : StoreStepCall → StepOutcome
first_step c = store_step_by c (rules_for c.whole)

unfoldable pub later_step : StoreStepCall → StepOutcome
later_step c = store_step_by c (rules_for (store_so_far c.running c.whole))

-- the tests of `ninth_rules`, and the rules themselves, of any ninth call with these
unfoldable pub ninth_tests_with : Store → ℕ → ℕ → List ℕ → List ℕ → List ℕ → Checked (Unit {0})
ninth_tests_with store period count registry orders answers =
    let lists = orders_shaped count orders ∷ length_is (room orders) answers ∷ [] in
    in_order (store_shaped store ∷ registry_shaped registry ∷ lists) (good_entries (entries store) ∷ is_small period ∷ []) []

unfoldable pub ninth_rules_with : Store → ℕ → ℕ → ℕ → List ℕ → List ℕ → List ℕ → Checked Rules
ninth_rules_with store period slot count registry orders answers =
    after_tests (ninth_tests_with store period count registry orders answers) (rules_at_slot slot (entries store))

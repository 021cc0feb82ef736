-- A call of a close with a store as the definition's record, and the rules that it goes by, from what is lent.
use Rattle.std.specs.Prelude.{Bool, ◌&&◌, List, [], ◌∷◌, ℕ}
use Rattle.definitions.specs.declared.Rules.{Rules}
use Rattle.definitions.specs.Lists.{every}
use Rattle.definitions.specs.Checked.{Checked}
use Rattle.definitions.specs.Refusals.{in_order, after_tests, registry_shaped, roots_shaped, slashings_shaped, same_length}
use Rattle.definitions_close.specs.Amounts.{amounts_shaped}
use Rattle.definitions_close.specs.Store.{Entry, Store, entries, last_of, of_last, store_shaped, good_entries}
use Rattle.definitions_close.specs.StoreClose.{rules_at_slot}

-- the tests of `rules_for` of any call with these: neither finality nor the queue is asked
unfoldable pub tests_with : Store → List ℕ → List ℕ → List ℕ → List ℕ → List ℕ → List ℕ → Checked (Unit {0})
tests_with store registry slashings roots closing_registry closing_slashings amounts =
    let closing = same_length registry closing_registry ∷ same_length slashings closing_slashings ∷ [] in
    let by_settings : Entry → Bool = λ e. roots_shaped e.rules.settings roots && slashings_shaped e.rules.settings slashings in
    let lent = amounts_shaped registry amounts ∷ of_last by_settings (last_of (entries store)) ∷ closing in
    in_order (every (store_shaped store ∷ registry_shaped registry ∷ lent) ∷ []) (good_entries (entries store) ∷ []) []

-- `rules_for` of any call with these
unfoldable pub rules_with : Store → ℕ → List ℕ → List ℕ → List ℕ → List ℕ → List ℕ → List ℕ → Checked Rules
rules_with store slot registry slashings roots closing_registry closing_slashings amounts =
    after_tests (tests_with store registry slashings roots closing_registry closing_slashings amounts) (rules_at_slot slot (entries store))

-- Test 1 in its two halves: what is lent, and the closing buffers.
use Rattle.std.specs.Prelude.{Bool, List, [], ◌∷◌, ℕ, ◌+◌, ◌*◌}
use Rattle.definitions.specs.Refusals.{settings_shaped, registry_shaped, roots_shaped, slashings_shaped, same_length, length_is}
use Rattle.definitions_electra.specs.declared.ElectraRules.{ElectraRules}
use Rattle.definitions_electra.specs.Refusals.{count_of, deposits_of, deposits_shaped, consolidations_shaped, keys_shaped, indices_shaped, compounding_shaped}
use Rattle.electra_close_tests.specs.declared.Room.{Room}

abbrev pub lent_tests : ElectraRules → List ℕ → List ℕ → List ℕ → List ℕ → List ℕ → List ℕ → List Bool
lent_tests r registry compounding slashings roots deposits consolidations =
    settings_shaped r.settings
    ∷ registry_shaped registry
    ∷ roots_shaped r.settings roots
    ∷ slashings_shaped r.settings slashings
    ∷ compounding_shaped registry compounding
    ∷ deposits_shaped deposits
    ∷ keys_shaped registry deposits
    ∷ consolidations_shaped consolidations
    ∷ indices_shaped registry consolidations
    ∷ []

abbrev pub room_for : List ℕ → List ℕ → Room
room_for registry deposits =
    let many = count_of registry + deposits_of deposits in
    record { compounding = many; registry = 10 * many; amounts = 12 * many; places = deposits_of deposits }

abbrev pub closing_tests : Room → List ℕ → List ℕ → List ℕ → List ℕ → List ℕ → List ℕ → List ℕ → List ℕ → List ℕ → List ℕ → List Bool
closing_tests room slashings deposits consolidations closing_registry closing_compounding closing_slashings closing_deposits closing_consolidations amounts
    places =
    length_is room.registry closing_registry
    ∷ length_is room.compounding closing_compounding
    ∷ same_length slashings closing_slashings
    ∷ same_length deposits closing_deposits
    ∷ same_length consolidations closing_consolidations
    ∷ length_is room.amounts amounts
    ∷ length_is room.places places
    ∷ []

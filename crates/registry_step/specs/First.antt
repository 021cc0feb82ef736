-- The tests of the registry step but for 3 of the registry's entries, and 8, which the survey tells.
use Rattle.std.specs.Prelude.{List, [], ◌∷◌, ℕ, ◌/◌, leb, length}
use Rattle.definitions.specs.declared.Settings.{Settings}
use Rattle.definitions.specs.Checked.{Checked}
use Rattle.definitions.specs.Refusals.{in_order, settings_shaped, registry_shaped, same_length, good_settings, is_small}

abbrev pub first_tests : ℕ → Settings → ℕ → ℕ → List ℕ → List ℕ → Checked (Unit {0})
first_tests stop s state_slot finalized_epoch opening closing =
    let shaped = settings_shaped s ∷ registry_shaped opening ∷ same_length opening closing ∷ leb stop (length opening / 10) ∷ [] in
    in_order shaped (good_settings s ∷ []) (is_small state_slot ∷ is_small finalized_epoch ∷ [])

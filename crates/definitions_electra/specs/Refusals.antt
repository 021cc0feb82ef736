-- Tests 1, 2 and 3 of the Electra calls. Document 03, F-2, the table.
use Rattle.std.specs.Prelude.{Bool, ◌&&◌, not, List, [], ◌∷◌, ◌++◌, ℕ, ◌+◌, ◌*◌, ◌/◌, ◌%◌, ◌^◌, leb, ltb, eqb, length}
use Rattle.definitions.specs.Lists.{all, every}
use Rattle.definitions.specs.Checked.{Checked}
use Rattle.definitions.specs.Refusals.{in_order, is_small, settings_shaped, registry_shaped, slashings_shaped, same_length, length_is, good_settings, good_registry}
use Rattle.definitions.specs.LeafRefusals.{is_index}
use Rattle.definitions.specs.Rules.{good_bellatrix}
use Rattle.definitions_electra.specs.declared.Electra.{Electra}
use Rattle.definitions_electra.specs.declared.ElectraRules.{ElectraRules}
use Rattle.definitions_electra.specs.declared.PendingDeposit.{PendingDeposit}
use Rattle.definitions_electra.specs.Record.{decode_deposits, decode_consolidations}

-- Test 1

abbrev pub count_of : List ℕ → ℕ
count_of registry = length registry / 10

abbrev pub deposits_of : List ℕ → ℕ
deposits_of deposits = length deposits / 5

unfoldable pub deposits_shaped : List ℕ → Bool
deposits_shaped deposits = eqb (length deposits % 5) 0 && leb (deposits_of deposits) (2 ^ 24)

unfoldable pub consolidations_shaped : List ℕ → Bool
consolidations_shaped consolidations = eqb (length consolidations % 2) 0 && leb (length consolidations / 2) (2 ^ 24)

-- a key of N + D or more
unfoldable pub keys_shaped : List ℕ → List ℕ → Bool
keys_shaped registry deposits = all (λ d. ltb d.pubkey (count_of registry + deposits_of deposits)) (decode_deposits deposits)

-- a source or target of N or more
unfoldable pub indices_shaped : List ℕ → List ℕ → Bool
indices_shaped registry consolidations =
    all (λ c. ltb c.source_index (count_of registry) && ltb c.target_index (count_of registry)) (decode_consolidations consolidations)

abbrev pub compounding_shaped : List ℕ → List ℕ → Bool
compounding_shaped registry compounding = length_is (count_of registry) compounding

-- closing buffers with room for every deposit's validator
abbrev pub roomy_registry : List ℕ → List ℕ → List ℕ → Bool
roomy_registry registry deposits closing = length_is (10 * (count_of registry + deposits_of deposits)) closing

abbrev pub roomy_compounding : List ℕ → List ℕ → List ℕ → Bool
roomy_compounding registry deposits closing = length_is (count_of registry + deposits_of deposits) closing

-- Test 2: "a setting of 2^48 or more; min_per_epoch_churn_limit_electra below the increment, or max_per_epoch_activation_exit_churn_limit 0"

abbrev pub electra_numbers : Electra → List ℕ
electra_numbers e =
    e.min_activation_balance ∷
    e.max_effective_balance_electra ∷
    e.min_per_epoch_churn_limit_electra ∷
    e.max_per_epoch_activation_exit_churn_limit ∷
    e.max_pending_deposits_per_epoch ∷
    []

unfoldable pub good_electra : ElectraRules → Bool
good_electra r =
    every (
    good_settings r.settings
    ∷ good_bellatrix r.bellatrix
    ∷ all is_small (electra_numbers r.electra)
    ∷ leb r.settings.effective_balance_increment r.electra.min_per_epoch_churn_limit_electra
    ∷ not (eqb r.electra.max_per_epoch_activation_exit_churn_limit 0)
    ∷ []
    )

-- Test 3

unfoldable pub good_compounding : List ℕ → Bool
good_compounding compounding = all (λ c. leb c 1) compounding

unfoldable pub good_deposit : PendingDeposit → Bool
good_deposit d = every (leb d.compounding 1 ∷ leb d.valid 1 ∷ is_small d.slot ∷ [])

unfoldable pub good_deposits : List ℕ → Bool
good_deposits deposits = all good_deposit (decode_deposits deposits)

-- The five steps: each tests exactly what it is lent

unfoldable pub registry_tests : ElectraRules → ℕ → ℕ → List ℕ → List ℕ → Checked (Unit {0})
registry_tests r state_slot finalized_epoch opening closing =
    in_order (settings_shaped r.settings ∷ registry_shaped opening ∷ same_length opening closing ∷ []) (good_electra r ∷ [])
    (is_small state_slot ∷ is_small finalized_epoch ∷ good_registry opening ∷ [])

unfoldable pub slashings_tests : ElectraRules → ℕ → List ℕ → List ℕ → List ℕ → Checked (Unit {0})
slashings_tests r state_slot slashings opening closing =
    in_order (settings_shaped r.settings ∷ slashings_shaped r.settings slashings ∷ registry_shaped opening ∷ same_length opening closing ∷ [])
    (good_electra r ∷ []) (is_small state_slot ∷ good_registry opening ∷ [])

-- `work` is the working list of the keys, as long as there are deposits
unfoldable pub deposits_tests : ElectraRules → ℕ → ℕ → List ℕ → List ℕ → List ℕ → List ℕ → List ℕ → List ℕ → List ℕ → Checked (Unit {0})
deposits_tests r state_slot finalized_epoch registry compounding deposits closing_registry closing_compounding closing_deposits work =
    let lent = settings_shaped r.settings ∷ registry_shaped registry ∷ compounding_shaped registry compounding
    ∷ deposits_shaped deposits ∷ keys_shaped registry deposits ∷ [] in
    let closing = roomy_registry registry deposits closing_registry ∷ roomy_compounding registry deposits closing_compounding
    ∷ same_length deposits closing_deposits ∷ length_is (deposits_of deposits) work ∷ [] in
    in_order (lent ++ closing) (good_electra r ∷ [])
    (is_small state_slot ∷ is_small finalized_epoch ∷ good_registry registry ∷ good_compounding compounding ∷ good_deposits deposits ∷ [])

unfoldable pub consolidations_tests : ElectraRules → ℕ → List ℕ → List ℕ → List ℕ → List ℕ → Checked (Unit {0})
consolidations_tests r state_slot registry consolidations closing_registry closing_consolidations =
    let lent = settings_shaped r.settings ∷ registry_shaped registry ∷ consolidations_shaped consolidations ∷ indices_shaped registry consolidations ∷ [] in
    let closing = same_length registry closing_registry ∷ same_length consolidations closing_consolidations ∷ [] in
    in_order (lent ++ closing) (good_electra r ∷ []) (is_small state_slot ∷ good_registry registry ∷ [])

unfoldable pub effective_balance_tests : ElectraRules → List ℕ → List ℕ → List ℕ → Checked (Unit {0})
effective_balance_tests r compounding opening closing =
    let shaped = settings_shaped r.settings ∷ registry_shaped opening ∷ compounding_shaped opening compounding ∷ same_length opening closing ∷ [] in
    in_order shaped (good_electra r ∷ []) (good_registry opening ∷ good_compounding compounding ∷ [])

-- The leaves

-- get_max_effective_balance
unfoldable pub credential_tests : ElectraRules → ℕ → Checked (Unit {0})
credential_tests r compounding = in_order (settings_shaped r.settings ∷ []) (good_electra r ∷ []) (leb compounding 1 ∷ [])

-- get_balance_churn_limit, get_activation_exit_churn_limit, compute_exit_epoch_and_update_churn
unfoldable pub slot_registry_tests : ElectraRules → ℕ → List ℕ → Checked (Unit {0})
slot_registry_tests r state_slot registry =
    in_order (settings_shaped r.settings ∷ registry_shaped registry ∷ []) (good_electra r ∷ []) (is_small state_slot ∷ good_registry registry ∷ [])

-- initiate_validator_exit
unfoldable pub exit_tests : ElectraRules → ℕ → ℕ → List ℕ → Checked (Unit {0})
exit_tests r state_slot index registry =
    in_order (settings_shaped r.settings ∷ registry_shaped registry ∷ is_index index registry ∷ []) (good_electra r ∷ [])
    (is_small state_slot ∷ good_registry registry ∷ [])

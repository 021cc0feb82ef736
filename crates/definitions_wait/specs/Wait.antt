-- Demand 3: "a validator that waits for activation .. with k others ahead of it, has its activation epoch once floor(k / m) + 1 further closes are
-- accepted .. where m, at least 1, is the smallest activation churn limit the settings allow". The call that answers k and that number; that
-- these are demand 3's own: theorems, Wait.antt.
use Rattle.std.specs.Prelude.{cond, List, [], ◌∷◌, ℕ, ◌+◌, ◌/◌, eqb, get_or}
use Rattle.definitions.specs.declared.Settings.{Settings}
use Rattle.definitions.specs.Record.{Validator, nobody, decode}
use Rattle.definitions.specs.Checked.{Checked, value, refused, number_of}
use Rattle.definitions.specs.Refusals.{in_order, is_small, settings_shaped, registry_shaped, good_settings, good_registry, after_tests}
use Rattle.definitions.specs.LeafRefusals.{is_index}
use Rattle.definitions.specs.Document.Phase0.Helpers.{is_eligible_for_activation}
use Rattle.definitions.specs.RegisterOrder.{ahead}
use Rattle.definitions_wait.specs.declared.WaitAnswer.{WaitAnswer}

unfoldable pub wait_tests : Settings → ℕ → List ℕ → ℕ → Checked (Unit {0})
wait_tests s finalized_epoch registry index =
    in_order (settings_shaped s ∷ registry_shaped registry ∷ is_index index registry ∷ []) (good_settings s ∷ [])
    (is_small finalized_epoch ∷ good_registry registry ∷ [])

-- floor(k / m) + 1; where m is 0 no number of closes will do, and it is 0
unfoldable pub closes_for : ℕ → ℕ → ℕ
closes_for m k = cond (eqb m 0) 0 (k / m + 1)

abbrev pub waiting : ℕ → ℕ → WaitAnswer
waiting m k = record { refusal = 0; waits = 1; ahead = k; closes = closes_for m k }

abbrev pub no_wait : ℕ → WaitAnswer
no_wait refusal = record { refusal = refusal; waits = 0; ahead = 0; closes = 0 }

-- "waits for activation when its eligibility epoch is at most the finalized epoch and its activation epoch is FAR"
unfoldable pub wait_of : Settings → ℕ → List Validator → ℕ → WaitAnswer
wait_of s finalized_epoch vs index =
    cond (is_eligible_for_activation finalized_epoch (get_or vs index nobody)) (waiting s.min_per_epoch_churn_limit (ahead finalized_epoch vs index))
    (no_wait 0)

abbrev pub wait_for : Checked WaitAnswer → WaitAnswer
wait_for (value a) = a
wait_for (refused r) = no_wait (number_of r)

abbrev pub activation_wait : Settings → ℕ → List ℕ → ℕ → WaitAnswer
activation_wait s finalized_epoch registry index =
    wait_for (after_tests (wait_tests s finalized_epoch registry index) (value (wait_of s finalized_epoch (decode registry) index)))

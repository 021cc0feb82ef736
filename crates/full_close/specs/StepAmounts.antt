-- The amounts once justification is done: beside `registry_steps` of write_steps.
use Rattle.std.specs.Prelude.{List, ℕ}
use Rattle.definitions.specs.declared.Settings.{Settings}
use Rattle.definitions.specs.declared.ActivationLimit.{ActivationLimit}
use Rattle.definitions.specs.Record.{Validator}
use Rattle.definitions.specs.Checked.{Checked, value, bind}
use Rattle.definitions.specs.Rust.Phase0.EpochProcessing.{limited_registry_updates}
use Rattle.definitions.specs.Rust.Altair.EpochProcessing.{process_inactivity_updates, process_rewards_and_penalties}
use Rattle.definitions_close.specs.Amounts.{booked_by_rewards, taken_by_slashings, nines}

unfoldable pub step_amounts : ActivationLimit → Settings → ℕ → ℕ → List ℕ → List Validator → Checked (List ℕ)
step_amounts limit s state_slot finalized_epoch slashings vs =
    let quotient = s.inactivity_penalty_quotient_altair in
    bind (process_inactivity_updates s state_slot finalized_epoch vs) (λ scored.
    bind (booked_by_rewards s quotient state_slot finalized_epoch scored) (λ eights.
    bind (process_rewards_and_penalties s quotient state_slot finalized_epoch scored) (λ paid.
    bind (limited_registry_updates limit s state_slot finalized_epoch paid) (λ updated.
    bind (taken_by_slashings s s.proportional_slashing_multiplier_altair state_slot slashings updated) (λ ninths.
    value (nines eights ninths))))))

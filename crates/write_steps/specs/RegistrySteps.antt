-- The steps over the registry once justification is done. The slashings' reset, between the last two, reads nothing of it.
use Rattle.std.specs.Prelude.{List, ℕ}
use Rattle.definitions.specs.declared.Settings.{Settings}
use Rattle.definitions.specs.declared.ActivationLimit.{ActivationLimit}
use Rattle.definitions.specs.Record.{Validator}
use Rattle.definitions.specs.Checked.{Checked, value, bind}
use Rattle.definitions.specs.Rust.Phase0.EpochProcessing.{limited_registry_updates, process_effective_balance_updates}
use Rattle.definitions.specs.Rust.Altair.EpochProcessing.{process_inactivity_updates, process_rewards_and_penalties, process_slashings, process_participation_flag_updates}

-- The steps over the registry, each on what the one before it left: the second to the sixth, and the eighth
unfoldable pub registry_steps : ActivationLimit → Settings → ℕ → ℕ → List ℕ → List Validator → Checked (List Validator)
registry_steps limit s state_slot finalized_epoch slashings vs =
    bind (process_inactivity_updates s state_slot finalized_epoch vs) (λ scored.
    bind (process_rewards_and_penalties s s.inactivity_penalty_quotient_altair state_slot finalized_epoch scored) (λ paid.
    bind (limited_registry_updates limit s state_slot finalized_epoch paid) (λ updated.
    bind (process_slashings s s.proportional_slashing_multiplier_altair state_slot slashings updated) (λ slashed.
    bind (process_effective_balance_updates s slashed) (λ balanced.
    value (process_participation_flag_updates balanced))))))

-- the last three of them
unfoldable pub last_steps : Settings → ℕ → ℕ → List ℕ → List Validator → Checked (List Validator)
last_steps s multiplier state_slot slashings vs =
    bind (process_slashings s multiplier state_slot slashings vs) (λ slashed.
    bind (process_effective_balance_updates s slashed) (λ updated.
    value (process_participation_flag_updates updated)))

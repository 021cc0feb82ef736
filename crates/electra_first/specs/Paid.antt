-- Inactivity and rewards.
use Rattle.std.specs.Prelude.{List, ℕ}
use Rattle.definitions.specs.declared.Settings.{Settings}
use Rattle.definitions.specs.Record.{Validator}
use Rattle.definitions.specs.Checked.{Checked, value, bind}
use Rattle.definitions.specs.Rust.Altair.EpochProcessing.{process_inactivity_updates, process_rewards_and_penalties}

pub record Paid : Type 0 where
  pub scored : List Validator
  pub paid : List Validator

unfoldable pub paid_by : Settings → ℕ → ℕ → List Validator → Checked Paid
paid_by s state_slot finalized_epoch vs =
    bind (process_inactivity_updates s state_slot finalized_epoch vs) (λ scored.
    bind (process_rewards_and_penalties s s.inactivity_penalty_quotient_altair state_slot finalized_epoch scored) (λ paid.
    value (record { scored = scored; paid = paid })))

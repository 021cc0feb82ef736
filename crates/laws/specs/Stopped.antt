-- 02, R-6: the registry step with a stop, told by the step without one. "from that validator number up activation epochs stay, all else is as
-- without a stop".
use Rattle.std.specs.Prelude.{◌≡◌, List, [], ◌∷◌, ℕ, zero, suc, length}
use Rattle.definitions.specs.declared.Settings.{Settings}
use Rattle.definitions.specs.declared.ActivationLimit.{ActivationLimit}
use Rattle.definitions.specs.Record.{Validator}
use Rattle.definitions.specs.Updates.{with_activation}
use Rattle.definitions.specs.Checked.{value, bind}
use Rattle.definitions.specs.Rust.Phase0.EpochProcessing.{limited_registry_updates}
use Rattle.definitions.specs.RegisterOrder.{limited_updates_to}

-- the registry ws, from `stop` up with the activation epochs of vs
unfoldable pub kept_from : ℕ → List Validator → List Validator → List Validator
kept_from stop [] ws = ws
kept_from stop (v ∷ vs) [] = []
kept_from zero (v ∷ vs) (w ∷ ws) = with_activation v.activation_epoch w ∷ kept_from zero vs ws
kept_from (suc stop) (v ∷ vs) (w ∷ ws) = w ∷ kept_from stop vs ws

-- whatever the limit, the settings, the slot and the registry; refused calls too
pub record Stopped (limit : ActivationLimit) (s : Settings) (state_slot finalized_epoch : ℕ) (vs : List Validator) : Type 0 where
  -- "Who is activated is the same": with stop N it is the step, by the sorted queue
  pub whole : limited_updates_to limit (length vs) s state_slot finalized_epoch vs ≡ limited_registry_updates limit s state_slot finalized_epoch vs
  pub stopped : (stop : ℕ) → limited_updates_to limit stop s state_slot finalized_epoch vs ≡ bind (limited_registry_updates limit s state_slot finalized_epoch vs) (λ ws. value (kept_from stop vs ws))

-- A close under a limit of activations has the interface: its smallest activation churn limit is that of the smallest churn limit.
use mathlib.Core.Path.{◌≡◌, sym, subst₂}
use Prim.Native.Nat.{ℕ, ◌/◌, ◌<◌, ◌^◌}
use native.Mathlib.Omega.{arith}
use native.Mathlib.Nat.{div-le_self}
use Rattle.definitions.specs.declared.Settings.{Settings}
use Rattle.definitions.specs.declared.ActivationLimit.{ActivationLimit}
use Rattle.definitions.specs.Record.{BeaconState}
use Rattle.definitions.specs.Checked.{value}
use Rattle.definitions.specs.Rust.Phase0.Helpers.{compute_epoch_at_slot, get_current_epoch, get_validator_churn_limit}
use Rattle.definitions.specs.Rust.Phase0.EpochProcessing.{activation_limit}
use Rattle.definitions.specs.Close.{limited_epoch}
use Rattle.history.specs.Events.{Event}
use Rattle.history.proofs.Shape.{EventShape}
use Rattle.history.proofs.Registry.{churn-enough, limit-grows}
use Rattle.history.proofs.EightSteps.{Eight, eight}

-- the event of an accepted close by the settings s: it returned what the eight steps gave
pub record Worked (limit : ActivationLimit) (s : Settings) (e : Event) : Type 0 where
  pub state : BeaconState
  pub worked : limited_epoch limit s e.opening ≡ value state
  pub finality : e.returned.finality ≡ state.finality
  pub validators : e.returned.validators ≡ state.validators
  pub epoch : e.epoch ≡ e.opening.finality.slot / s.slots_per_epoch
  pub lookahead : e.lookahead ≡ s.max_seed_lookahead
  pub slot_small : e.opening.finality.slot < 2 ^ 48
  pub lookahead-small : s.max_seed_lookahead < 2 ^ 48

pub limited-shaped : (limit : ActivationLimit) (s : Settings) (e : Event) → Worked limit s e → EventShape (activation_limit limit s.min_per_epoch_churn_limit) e
unfolding get_current_epoch compute_epoch_at_slot
limited-shaped limit s e w =
    record {
      churn = activation_limit limit (get_validator_churn_limit s slot x.queue);
      enough = limit-grows limit (churn-enough s slot x.queue);
      fits = omega (arith, w.epoch, w.lookahead, w.slot_small, w.lookahead-small, div-le_self slot s.slots_per_epoch);
      checkpoints = rw w.epoch x.checkpoints;
      queue = x.queue;
      registry = rw (w.epoch, w.lookahead) x.registry;
    }
  where
    slot : ℕ
    slot = e.opening.finality.slot

    x : Eight limit s e.opening.finality e.opening.validators e.returned.finality e.returned.validators
    x = subst₂ (Eight limit s e.opening.finality e.opening.validators) (sym w.finality) (sym w.validators) (eight limit s e.opening w.worked)

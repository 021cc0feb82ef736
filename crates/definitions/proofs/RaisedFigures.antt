-- Figures of request R-7, by computing. The increment is mainnet's, 10^9.
use mathlib.Core.Path.{◌≡◌, refl}
use mathlib.Core.List.{[], ◌∷◌}
use Rattle.definitions.specs.Lists.{filter, sum}
use Rattle.definitions.specs.Checked.{value, bind, sum64}
use Rattle.definitions.specs.Mainnet.{mainnet}
use Rattle.definitions.specs.Raised.{was_raised, total_with_raised, none_raised, raised_totals}
use Rattle.definitions.specs.Rust.Phase0.Helpers.{is_active_validator, compute_epoch_at_slot, get_current_epoch, get_previous_epoch, get_active_validator_indices, get_total_balance}
use Rattle.definitions.specs.Rust.Altair.Helpers.{has_flag, is_unslashed_participating, get_unslashed_participating_indices}
use Rattle.definitions.proofs.Figures.{voter, five}

pub record RaisedFigures : Type 0 where
  -- "a target of nobody weighs one increment"
  pub nobody : total_with_raised mainnet [] ≡ value (record { balance = 1_000_000_000; raised = 1 })
  -- "the plain sum was below one increment": a sum equal to it was not
  pub below : total_with_raised mainnet (voter 999_999_999 0 0 ∷ []) ≡ value (record { balance = 1_000_000_000; raised = 1 })
  pub equal : total_with_raised mainnet (voter 1_000_000_000 0 0 ∷ []) ≡ value (record { balance = 1_000_000_000; raised = 0 })
  -- five are active, and nobody hits a target; or the previous epoch's alone
  pub no_target : raised_totals mainnet 64 (five 0 0) ≡ record { active = 0; previous = 1; current = 1 }
  pub previous-target : raised_totals mainnet 64 (voter 1_000_000_000 2 0 ∷ []) ≡ record { active = 0; previous = 0; current = 1 }
  pub no-validators : raised_totals mainnet 64 [] ≡ record { active = 1; previous = 1; current = 1 }
  -- "up to epoch 1 they are 0 0 0": slot 63 is the last of epoch 1
  pub epoch_1 : raised_totals mainnet 63 [] ≡ none_raised

pub raised-figures : RaisedFigures
unfolding was_raised total_with_raised raised_totals get_total_balance sum64 sum filter bind get_active_validator_indices is_active_validator get_current_epoch get_previous_epoch compute_epoch_at_slot is_unslashed_participating get_unslashed_participating_indices has_flag
raised-figures =
    record {
      nobody = refl;
      below = refl;
      equal = refl;
      no_target = refl;
      previous-target = refl;
      no-validators = refl;
      epoch_1 = refl;
    }

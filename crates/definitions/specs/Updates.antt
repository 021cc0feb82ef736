-- A validator, a record of finality or a state with some fields set: `state.x = y` of the two texts.
use Rattle.std.specs.Prelude.{List, ℕ}
use Rattle.definitions.specs.declared.Finality.{Finality}
use Rattle.definitions.specs.Record.{Validator, BeaconState}

abbrev pub with_effective_balance : ℕ → Validator → Validator
with_effective_balance x v =
    record {
      effective_balance = x;
      slashed = v.slashed;
      activation_eligibility_epoch = v.activation_eligibility_epoch;
      activation_epoch = v.activation_epoch;
      exit_epoch = v.exit_epoch;
      withdrawable_epoch = v.withdrawable_epoch;
      balance = v.balance;
      previous_epoch_participation = v.previous_epoch_participation;
      current_epoch_participation = v.current_epoch_participation;
      inactivity_score = v.inactivity_score;
    }

abbrev pub with_eligibility : ℕ → Validator → Validator
with_eligibility epoch v =
    record {
      effective_balance = v.effective_balance;
      slashed = v.slashed;
      activation_eligibility_epoch = epoch;
      activation_epoch = v.activation_epoch;
      exit_epoch = v.exit_epoch;
      withdrawable_epoch = v.withdrawable_epoch;
      balance = v.balance;
      previous_epoch_participation = v.previous_epoch_participation;
      current_epoch_participation = v.current_epoch_participation;
      inactivity_score = v.inactivity_score;
    }

abbrev pub with_activation : ℕ → Validator → Validator
with_activation epoch v =
    record {
      effective_balance = v.effective_balance;
      slashed = v.slashed;
      activation_eligibility_epoch = v.activation_eligibility_epoch;
      activation_epoch = epoch;
      exit_epoch = v.exit_epoch;
      withdrawable_epoch = v.withdrawable_epoch;
      balance = v.balance;
      previous_epoch_participation = v.previous_epoch_participation;
      current_epoch_participation = v.current_epoch_participation;
      inactivity_score = v.inactivity_score;
    }

abbrev pub with_exit : ℕ → ℕ → Validator → Validator
with_exit exit withdrawable v =
    record {
      effective_balance = v.effective_balance;
      slashed = v.slashed;
      activation_eligibility_epoch = v.activation_eligibility_epoch;
      activation_epoch = v.activation_epoch;
      exit_epoch = exit;
      withdrawable_epoch = withdrawable;
      balance = v.balance;
      previous_epoch_participation = v.previous_epoch_participation;
      current_epoch_participation = v.current_epoch_participation;
      inactivity_score = v.inactivity_score;
    }

abbrev pub with_balance : ℕ → Validator → Validator
with_balance x v =
    record {
      effective_balance = v.effective_balance;
      slashed = v.slashed;
      activation_eligibility_epoch = v.activation_eligibility_epoch;
      activation_epoch = v.activation_epoch;
      exit_epoch = v.exit_epoch;
      withdrawable_epoch = v.withdrawable_epoch;
      balance = x;
      previous_epoch_participation = v.previous_epoch_participation;
      current_epoch_participation = v.current_epoch_participation;
      inactivity_score = v.inactivity_score;
    }

abbrev pub with_score : ℕ → Validator → Validator
with_score x v =
    record {
      effective_balance = v.effective_balance;
      slashed = v.slashed;
      activation_eligibility_epoch = v.activation_eligibility_epoch;
      activation_epoch = v.activation_epoch;
      exit_epoch = v.exit_epoch;
      withdrawable_epoch = v.withdrawable_epoch;
      balance = v.balance;
      previous_epoch_participation = v.previous_epoch_participation;
      current_epoch_participation = v.current_epoch_participation;
      inactivity_score = x;
    }

abbrev pub with_participation : ℕ → ℕ → Validator → Validator
with_participation previous current v =
    record {
      effective_balance = v.effective_balance;
      slashed = v.slashed;
      activation_eligibility_epoch = v.activation_eligibility_epoch;
      activation_epoch = v.activation_epoch;
      exit_epoch = v.exit_epoch;
      withdrawable_epoch = v.withdrawable_epoch;
      balance = v.balance;
      previous_epoch_participation = previous;
      current_epoch_participation = current;
      inactivity_score = v.inactivity_score;
    }

abbrev pub with_validators : List Validator → BeaconState → BeaconState
with_validators vs st =
    record { finality = st.finality; validators = vs; slashings = st.slashings; block_roots = st.block_roots }

abbrev pub with_slashings : List ℕ → BeaconState → BeaconState
with_slashings xs st =
    record { finality = st.finality; validators = st.validators; slashings = xs; block_roots = st.block_roots }

abbrev pub with_finality : Finality → BeaconState → BeaconState
with_finality f st =
    record { finality = f; validators = st.validators; slashings = st.slashings; block_roots = st.block_roots }

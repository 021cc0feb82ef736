-- bellatrix/beacon-chain.md: the two functions that it changes of what an epoch's steps call, and process_epoch with them. All else is Altair's, as
-- the document says.
use Rattle.std.specs.Prelude.{List, ℕ}
use Rattle.definitions.specs.declared.Settings.{Settings}
use Rattle.definitions.specs.declared.Deltas.{Deltas}
use Rattle.definitions.specs.declared.Bellatrix.{Bellatrix}
use Rattle.definitions.specs.Record.{Validator, BeaconState}
use Rattle.definitions.specs.Document.Phase0.EpochProcessing.{process_registry_updates, process_effective_balance_updates, process_slashings_reset}
use Rattle.definitions.specs.Document.Altair.Helpers as altair
use Rattle.definitions.specs.Document.Altair.EpochProcessing as altair'
use Rattle.definitions.specs.Document.Altair.EpochProcessing.{process_justification_and_finalization, process_inactivity_updates, process_participation_flag_updates}

-- Helpers, Beacon state accessors: modified get_inactivity_penalty_deltas

-- penalty_denominator = config.INACTIVITY_SCORE_BIAS * INACTIVITY_PENALTY_QUOTIENT_BELLATRIX
unfoldable pub get_inactivity_penalty_deltas : Settings → Bellatrix → ℕ → List Validator → List Deltas
get_inactivity_penalty_deltas s b state_slot vs = altair.get_inactivity_penalty_deltas s b.inactivity_penalty_quotient_bellatrix state_slot vs

-- Epoch processing

-- Altair's text, in which the name get_inactivity_penalty_deltas now means the function above
unfoldable pub process_rewards_and_penalties : Settings → Bellatrix → BeaconState → BeaconState
process_rewards_and_penalties s b st = altair'.rewarded_by s (get_inactivity_penalty_deltas s b st.finality.slot st.validators) st

-- Slashings: modified process_slashings

-- adjusted_total_slashing_balance = min(sum(state.slashings) * PROPORTIONAL_SLASHING_MULTIPLIER_BELLATRIX, total_balance)
unfoldable pub process_slashings : Settings → Bellatrix → BeaconState → BeaconState
process_slashings s b st = altair'.process_slashings s b.proportional_slashing_multiplier_bellatrix st

-- altair, process_epoch, with the two functions that Bellatrix changes; bellatrix has no text of its own for it
unfoldable pub process_epoch : Settings → Bellatrix → BeaconState → BeaconState
process_epoch s b st =
    let justified = process_justification_and_finalization s st in
    let scored = process_inactivity_updates s justified in
    let rewarded = process_rewards_and_penalties s b scored in
    let registered = process_registry_updates s rewarded in
    let slashed = process_slashings s b registered in
    let balanced = process_effective_balance_updates s slashed in
    let reset = process_slashings_reset s balanced in
    process_participation_flag_updates reset

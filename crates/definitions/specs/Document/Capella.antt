-- capella/beacon-chain.md, section Epoch processing: of the eight steps it changes none. (It puts process_historical_summaries_update in the place
-- of process_historical_roots_update, neither of which is among the eight.)
use Rattle.definitions.specs.declared.Settings.{Settings}
use Rattle.definitions.specs.declared.Bellatrix.{Bellatrix}
use Rattle.definitions.specs.Record.{BeaconState}
use Rattle.definitions.specs.Document.Phase0.EpochProcessing.{process_registry_updates, process_effective_balance_updates, process_slashings_reset}
use Rattle.definitions.specs.Document.Altair.EpochProcessing.{process_justification_and_finalization, process_inactivity_updates, process_participation_flag_updates}
use Rattle.definitions.specs.Document.Bellatrix.{process_rewards_and_penalties, process_slashings}

unfoldable pub process_epoch : Settings → Bellatrix → BeaconState → BeaconState
process_epoch s b st =
    let justified = process_justification_and_finalization s st in
    let scored = process_inactivity_updates s justified in
    let rewarded = process_rewards_and_penalties s b scored in
    let registered = process_registry_updates s rewarded in
    let slashed = process_slashings s b registered in
    let balanced = process_effective_balance_updates s slashed in
    let reset = process_slashings_reset s balanced in
    process_participation_flag_updates reset

-- Agreement of the inactivity scores.
use Prim.Native.Nat.{ℕ}
use lib.Dec.{eqb}
use Rattle.definitions.specs.declared.Settings.{Settings}
use Rattle.definitions.specs.declared.ActivationLimit.{ActivationLimit}
use Rattle.definitions.specs.Record.{Validator, BeaconState}
use Rattle.definitions.specs.Document.Phase0.Helpers.{get_current_epoch, get_previous_epoch}
use Rattle.definitions.specs.Document.Phase0.EpochProcessing.{is_eligible, is_in_inactivity_leak}
use Rattle.definitions.specs.Document.Altair.Helpers.{is_unslashed_participating}
use Rattle.definitions.specs.Document.Altair.EpochProcessing as document
use Rattle.definitions.specs.Rust.Altair.EpochProcessing as rust
use Rattle.definitions.specs.Close.{limited_step, inactivity_step}
use Rattle.agreement.proofs.Agrees.{Agrees, IsOverflow, value-agrees, equal-agrees, bind-agrees, cond-agrees, add64-agrees, map-agrees}
use Rattle.agreement.proofs.Helpers.{leak, kept-validators}

inactivity-score : (s : Settings) (state_slot finalized_epoch : ℕ) (v : Validator) → Agrees IsOverflow (rust.update_inactivity_score s (get_current_epoch s state_slot) (get_previous_epoch s state_slot) (is_in_inactivity_leak s state_slot finalized_epoch) v) (document.update_inactivity_score s state_slot finalized_epoch v)
unfolding rust.update_inactivity_score document.update_inactivity_score rust.moved_score rust.recovered_score
inactivity-score s state_slot finalized_epoch v =
    let hit = is_unslashed_participating (get_current_epoch s state_slot) 1 (get_previous_epoch s state_slot) v in
    cond-agrees (is_eligible (get_previous_epoch s state_slot) v) (bind-agrees _ (cond-agrees hit value-agrees (add64-agrees _ _)) value-agrees) value-agrees

pub inactivity : (l : ActivationLimit) (s : Settings) (st : BeaconState) → Agrees IsOverflow (limited_step l s st inactivity_step) (document.process_inactivity_updates s st)
unfolding limited_step rust.process_inactivity_updates document.process_inactivity_updates
inactivity l s st =
    let genesis = eqb (get_current_epoch s st.finality.slot) 0 in
    bind-agrees _
    (cond-agrees genesis value-agrees (bind-agrees _ (leak s _ _) (map-agrees (inactivity-score s _ _) _)))
    (equal-agrees (kept-validators genesis _ st))

-- What every step keeps: how many validators there are, and the slot.
use mathlib.Core.Path.{◌≡◌, refl, sym, ap, ◌∙◌}
use mathlib.Core.Bool.{Bool, true, false, cond}
use mathlib.Core.List.{List, [], ◌∷◌, map, foldl, zip_with}
use Prim.Native.Nat.{ℕ, suc}
use native.Mathlib.Omega.{arith}
use lib.Dec.{eqb, leb}
use lib.ListN.{length, get_or, set, take, length-map, length-set}
use Rattle.definitions.specs.declared.ActivationLimit.{ActivationLimit}
use Rattle.definitions.specs.declared.ActivationLimit.TheVariants.{Churn, AtMost}
use Rattle.definitions.specs.declared.Settings.{Settings}
use Rattle.definitions.specs.declared.Finality.{Finality}
use Rattle.definitions.specs.declared.Deltas.{Deltas}
use Rattle.definitions.specs.Lists.{range}
use Rattle.definitions.specs.Record.{Validator, BeaconState, FAR_FUTURE_EPOCH, nobody}
use Rattle.definitions.specs.Updates.{with_activation, with_validators, with_finality}
use Rattle.definitions.specs.Checked.{value}
use Rattle.definitions.specs.Document.Phase0.Helpers.{get_current_epoch, initiate_validator_exit}
use Rattle.definitions.specs.Document.Phase0.EpochProcessing as document_epoch
use Rattle.definitions.specs.Document.Phase0.EpochProcessing.{queue_eligible, is_ejected, activation_queue, dequeued}
use Rattle.definitions.specs.Document.Altair.Helpers.{flag_index_deltas, inactivity_penalty_deltas, get_flag_index_deltas, get_inactivity_penalty_deltas}
use Rattle.definitions.specs.Document.Altair.EpochProcessing as document
use Rattle.definitions.specs.Document.Deneb as deneb
use Rattle.definitions.specs.Close as Rust
use Rattle.definitions.specs.Close.{finalized_epoch_of, Step, justification_step, inactivity_step, rewards_step, registry_step, slashings_step, effective_balances_step, slashings_reset_step, participation_flags_step}
use Rattle.agreement.specs.Agreement.{limited_registry, limited_document_step}
use Rattle.agreement.proofs.Close.{each_step}

pub record AsMany (vs ws : List Validator) : Type 0 where
  pub many : length vs ≡ length ws

as_many : {vs ws us : List Validator} → AsMany vs ws → AsMany ws us → AsMany vs us
as_many h g = record { many = h.many ∙ g.many }

set-many : (vs : List Validator) (i : ℕ) (v : Validator) → AsMany (set vs i v) vs
set-many vs i v = record { many = length-set vs i v }

map-many : (f : Validator → Validator) (vs : List Validator) → AsMany (map f vs) vs
map-many f vs = record { many = length-map vs f }

cond-many : (t : Bool) {vs ws us : List Validator} → AsMany vs us → AsMany ws us → AsMany (cond t vs ws) us
cond-many true h g = h
cond-many false h g = g

fold_many : {A : Type 0} {f : List Validator → A → List Validator} → ((vs : List Validator) (x : A) → AsMany (f vs x) vs) → (vs : List Validator) (xs : List A) → AsMany (foldl f vs xs) vs
fold_many h vs [] = record { many = refl }
fold_many h vs (x ∷ xs) = as_many (fold_many h _ xs) (h vs x)

zip_many : (vs : List Validator) (ds : List Deltas) → length ds ≡ length vs → AsMany (document.apply_deltas vs ds) vs
unfolding document.apply_deltas zip_with
zip_many [] ds e = record { many = refl }
zip_many (v ∷ vs) [] e = absurd (omega arith)
zip_many (v ∷ vs) (d ∷ ds) e = record { many = ap suc (zip_many vs ds (omega arith)).many }

-- lists of deltas of the validators vs, applied to as many
deltas-many : (vs ws : List Validator) (gs : List (Validator → Deltas)) → AsMany ws vs → AsMany (foldl document.apply_deltas ws (map (λ g. map g vs) gs)) vs
deltas-many vs ws [] h = h
deltas-many vs ws (g ∷ gs) h =
    deltas-many vs (document.apply_deltas ws (map g vs)) gs (as_many (zip_many ws (map g vs) (length-map vs g ∙ sym h.many)) h)

exit-many : (s : Settings) (state_slot : ℕ) (vs : List Validator) (index : ℕ) → AsMany (initiate_validator_exit s state_slot vs index) vs
unfolding initiate_validator_exit
exit-many s state_slot vs index =
    cond-many (eqb (get_or vs index nobody).exit_epoch FAR_FUTURE_EPOCH) (set-many vs index _) (record { many = refl })

registry-many : (s : Settings) (state_slot : ℕ) (vs : List Validator) (index : ℕ) → AsMany (document_epoch.update_registry_at s state_slot vs index) vs
unfolding document_epoch.update_registry_at
registry-many s state_slot vs index =
    let current_epoch = get_current_epoch s state_slot in
    let queued = set vs index (queue_eligible s current_epoch (get_or vs index nobody)) in
    cond-many (is_ejected s current_epoch (get_or queued index nobody)) (as_many (exit-many s state_slot queued index) (set-many vs index _)) (set-many vs index _)

dequeued-many : (epoch limit finalized_epoch : ℕ) (vs : List Validator) → AsMany (dequeued epoch limit finalized_epoch vs) vs
unfolding dequeued
dequeued-many epoch limit finalized_epoch vs =
    fold_many (λ ws i. set-many ws i (with_activation epoch (get_or ws i nobody))) vs (take limit (activation_queue finalized_epoch vs))

pub record Kept (st st' : BeaconState) : Type 0 where
  pub slot : st'.finality.slot ≡ st.finality.slot
  pub validators : AsMany st'.validators st.validators

kept-with : (st : BeaconState) {vs : List Validator} → AsMany vs st.validators → Kept st (with_validators vs st)
kept-with st h = record { slot = refl; validators = h }

kept-finality : (st : BeaconState) (f : Finality) → f.slot ≡ st.finality.slot → Kept st (with_finality f st)
kept-finality st f e = record { slot = e; validators = record { many = refl } }

-- a step that may do nothing
kept_unless : (t : Bool) {st st' : BeaconState} → Kept st st' → Kept st (cond t st st')
kept_unless true h = record { slot = refl; validators = record { many = refl } }
kept_unless false h = h

kept : (l : ActivationLimit) (s : Settings) (st : BeaconState) (k : Step) → Kept st (limited_document_step l s st k)
unfolding document.process_justification_and_finalization document_epoch.weigh_justification_and_finalization document_epoch.weighed document.process_inactivity_updates document.process_rewards_and_penalties get_flag_index_deltas get_inactivity_penalty_deltas document_epoch.process_registry_updates deneb.process_registry_updates document.process_slashings document_epoch.process_effective_balance_updates document_epoch.process_slashings_reset document.process_participation_flag_updates
kept l s st justification_step = kept_unless (leb (get_current_epoch s st.finality.slot) 1) (kept-finality st _ refl)
kept l s st inactivity_step = kept_unless (eqb (get_current_epoch s st.finality.slot) 0) (kept-with st (map-many _ _))
kept l s st rewards_step =
    let flag = flag_index_deltas s st.finality.slot (finalized_epoch_of st) st.validators in
    let inactivity = inactivity_penalty_deltas s s.inactivity_penalty_quotient_altair st.finality.slot in
    kept_unless (eqb (get_current_epoch s st.finality.slot) 0)
    (kept-with st (deltas-many st.validators st.validators (flag 0 ∷ flag 1 ∷ flag 2 ∷ inactivity ∷ []) (record { many = refl })))
kept l s st registry_step = kept-registry l
  where
    kept-registry : (l : ActivationLimit) → Kept st (limited_registry l s st)
    kept-registry Churn = kept-with st (as_many (dequeued-many _ _ _ _) (fold_many (registry-many s st.finality.slot) st.validators (range 0 (length st.validators))))
    kept-registry (AtMost maximum) = kept-with st (as_many (dequeued-many _ _ _ _) (fold_many (registry-many s st.finality.slot) st.validators (range 0 (length st.validators))))
kept l s st slashings_step = kept-with st (map-many _ _)
kept l s st effective_balances_step = kept-with st (map-many _ _)
kept l s st slashings_reset_step = record { slot = refl; validators = record { many = refl } }
kept l s st participation_flags_step = kept-with st (map-many _ _)

pub kept_step : (l : ActivationLimit) (s : Settings) (st st' : BeaconState) (k : Step) → Rust.limited_step l s st k ≡ value st' → Kept st st'
kept_step l s st st' k e = rw ((each_step l s st k).same st' e) at (kept l s st k)

-- Agreement, read off the definitions.
use mathlib.Core.Path.{◌≡◌, refl}
use mathlib.Core.Bool.{Bool, true, false, cond, ◌&&◌, ◌||◌}
use mathlib.Core.List.{List, [], ◌∷◌, zip_with}
use mathlib.Core.Logic.{◌⊎◌, inl, inr, ⊎_elim}
use Prim.Native.Nat.{ℕ, ◌+◌, ◌-◌, ◌*◌, ◌/◌, max}
use lib.Dec.{leb, ltb, eqb}
use lib.ListN.{get_or}
use Rattle.definitions.specs.declared.ActivationLimit.TheVariants.{Churn}
use Rattle.definitions.specs.declared.Settings.{Settings}
use Rattle.definitions.specs.Record.{Validator, FAR_FUTURE_EPOCH, is_slashed, nobody}
use Rattle.definitions.specs.Rules.{in_place}
use Rattle.definitions.specs.Checked.{Checked, value}
use Rattle.definitions.specs.declared.Refusal.{Refusal}
use Rattle.definitions.specs.declared.Refusal.TheVariants.{NoRoot, Overflow}
use Rattle.definitions.specs.Close.{Step, justification_step}
use Rattle.definitions.specs.Document.Phase0.Helpers.{is_active_validator, is_eligible_for_activation}
use Rattle.definitions.specs.Rust.Altair.EpochProcessing as rust
use Rattle.agreement.proofs.Agrees.{Agrees, IsOverflow, IsOverflowOrNoRoot, weaken, value-agrees, bind-agrees, cond-agrees, add64-agrees, sub64-agrees, mul64-agrees, sum64-agrees, map-agrees, fold_agrees, or_more}
use Rattle.agreement.proofs.Helpers.{start-slot, activation-exit-epoch, total_active_balance, increase_balance}
use Rattle.agreement.proofs.Close.{each_step}
use Rattle.agreement.proofs.Bellatrix.{in_place_lem}
use Rattle.definitions_electra.specs.declared.ElectraRules.{ElectraRules}
use Rattle.definitions_electra.specs.declared.ExitChurn.{ExitChurn}
use Rattle.definitions_electra.specs.Loops.{fold_until, fold_until_checked}
use Rattle.definitions_electra.specs.declared.PendingDeposit.{PendingDeposit}
use Rattle.definitions_electra.specs.Record.{PendingConsolidation, Registry, ElectraState}
use Rattle.definitions_electra.specs.Document.Electra.Helpers as helpers
use Rattle.definitions_electra.specs.Document.Electra.Helpers.{to_consume, is_eligible_for_activation_queue}
use Rattle.definitions_electra.specs.Document.Electra.EpochProcessing as document
use Rattle.definitions_electra.specs.Document.Electra.EpochProcessing.{current_epoch_of, finalized_epoch_of, is_known, is_withdrawn, is_exited, Queueing, Processing, Consolidating}
use Rattle.definitions_electra.specs.Evaluated.Electra.Helpers as helpers'
use Rattle.definitions_electra.specs.Evaluated.Electra.EpochProcessing as evaluated
use Rattle.definitions_electra.specs.Evaluated.Electra.EpochProcessing.{ElectraStep, kept, registry_updates, slashings, pending_deposits, pending_consolidations, effective_balances}
use Rattle.agreement_electra.specs.Agreement.{document_step, ChurnAgrees, StepAgrees, EpochAgrees}

-- A loop that may be left

pub until-agrees : {A B : Type 0} {P : Refusal → Type 0} (stops : B → A → Bool) {f : B → A → Checked B} {g : B → A → B} → ((b : B) (x : A) → Agrees P (f b x) (g b x)) → (b : B) (xs : List A) → Agrees P (fold_until_checked stops f b xs) (fold_until stops g b xs)
unfolding fold_until_checked fold_until
until-agrees stops h b [] = value-agrees
until-agrees stops h b (x ∷ xs) = cond-agrees (stops b x) value-agrees (bind-agrees _ (h b x) (until-agrees stops h _ xs))

-- The exit's churn

pub churned : (least limit : ℕ) (churn : ExitChurn) (balance : ℕ) → Agrees IsOverflow (helpers'.churned least limit churn balance) (helpers.churned least limit churn balance)
unfolding helpers'.churned helpers.churned helpers'.further_epochs
churned least limit churn balance =
    let available = to_consume (max churn.earliest_exit_epoch least) limit churn in
    cond-agrees (ltb available balance)
    (bind-agrees _ (sub64-agrees _ _)
    (bind-agrees _ (sub64-agrees _ _)
    (bind-agrees _ (add64-agrees _ _)
    (bind-agrees _ (add64-agrees _ _)
    (bind-agrees _ (mul64-agrees _ _)
    (bind-agrees _ (add64-agrees _ _)
    (bind-agrees _ (sub64-agrees _ _) value-agrees)))))))
    (bind-agrees _ (sub64-agrees _ _) value-agrees)

pub limit : (r : ElectraRules) (state_slot : ℕ) (vs : List Validator) → Agrees IsOverflow (helpers'.get_activation_exit_churn_limit r state_slot vs) (helpers.get_activation_exit_churn_limit r state_slot vs)
unfolding helpers'.get_activation_exit_churn_limit helpers.get_activation_exit_churn_limit
limit r state_slot vs = bind-agrees _ (total_active_balance r.settings _ _) value-agrees

pub balance-limit : (r : ElectraRules) (state_slot : ℕ) (vs : List Validator) → Agrees IsOverflow (helpers'.get_balance_churn_limit r state_slot vs) (helpers.get_balance_churn_limit r state_slot vs)
unfolding helpers'.get_balance_churn_limit helpers.get_balance_churn_limit
balance-limit r state_slot vs = bind-agrees _ (total_active_balance r.settings state_slot vs) value-agrees

pub exit-churn : (r : ElectraRules) (state_slot : ℕ) (vs : List Validator) (churn : ExitChurn) (balance : ℕ) → Agrees IsOverflow (helpers'.compute_exit_epoch_and_update_churn r state_slot vs churn balance) (helpers.compute_exit_epoch_and_update_churn r state_slot vs churn balance)
unfolding helpers'.compute_exit_epoch_and_update_churn helpers.compute_exit_epoch_and_update_churn
exit-churn r state_slot vs churn balance =
    bind-agrees _ (activation-exit-epoch r.settings _) (bind-agrees _ (limit r state_slot vs) (churned _ _ churn balance))

pub churn-agrees : ChurnAgrees
churn-agrees r state_slot vs churn after balance p = (exit-churn r state_slot vs churn balance).same after p

-- Registry

pub initiate_exit : (r : ElectraRules) (st : ElectraState) (index : ℕ) → Agrees IsOverflow (helpers'.initiate_validator_exit r st index) (helpers.initiate_validator_exit r st index)
unfolding helpers'.initiate_validator_exit helpers.initiate_validator_exit
initiate_exit r st index =
    cond-agrees (eqb (get_or st.altair.validators index nobody).exit_epoch FAR_FUTURE_EPOCH)
    (bind-agrees _ (exit-churn r _ _ _ _) (bind-agrees _ (add64-agrees _ _) value-agrees))
    value-agrees

registry-at : (r : ElectraRules) (activation_epoch : ℕ) (st : ElectraState) (index : ℕ) → Agrees IsOverflow (evaluated.update_registry_at r activation_epoch st index) (document.update_registry_at r activation_epoch st index)
unfolding evaluated.update_registry_at document.update_registry_at
registry-at r activation_epoch st index =
    let v = get_or st.altair.validators index nobody in
    cond-agrees (is_eligible_for_activation_queue r.electra v) (bind-agrees _ (add64-agrees _ _) value-agrees)
    (cond-agrees (is_active_validator v (current_epoch_of r st) && leb v.effective_balance r.settings.ejection_balance) (initiate_exit r st index)
    (cond-agrees (is_eligible_for_activation (finalized_epoch_of st) v) value-agrees value-agrees))

pub registry : (r : ElectraRules) (st : ElectraState) → Agrees IsOverflow (evaluated.process_registry_updates r st) (document.process_registry_updates r st)
unfolding evaluated.process_registry_updates document.process_registry_updates
registry r st = bind-agrees _ (activation-exit-epoch r.settings _) (fold_agrees (registry-at r _) _ _)

-- Slashings

and_agrees : (t : Bool) {m : Checked Bool} {b : Bool} → Agrees IsOverflow m b → Agrees IsOverflow (cond t m (value false)) (t && b)
and_agrees true h = h
and_agrees false h = value-agrees

slashing-due : (s : Settings) (epoch : ℕ) (v : Validator) → Agrees IsOverflow (rust.is_slashing_due s epoch v) (is_slashed v && eqb (epoch + s.epochs_per_slashings_vector / 2) v.withdrawable_epoch)
unfolding rust.is_slashing_due
slashing-due s epoch v = and_agrees (is_slashed v) (bind-agrees _ (add64-agrees _ _) value-agrees)

slash : (s : Settings) (epoch per_increment : ℕ) (v : Validator) → Agrees IsOverflow (evaluated.slash s epoch per_increment v) (document.slash s epoch per_increment v)
unfolding evaluated.slash document.slash
slash s epoch per_increment v =
    bind-agrees _ (slashing-due s epoch v)
    (cond-agrees (is_slashed v && eqb (epoch + s.epochs_per_slashings_vector / 2) v.withdrawable_epoch)
    (bind-agrees _ (mul64-agrees _ _) value-agrees)
    value-agrees)

pub slashings-step : (r : ElectraRules) (st : ElectraState) → Agrees IsOverflow (evaluated.process_slashings r st) (document.process_slashings r st)
unfolding evaluated.process_slashings document.process_slashings
slashings-step r st =
    bind-agrees _ (total_active_balance r.settings _ _)
    (bind-agrees _ (sum64-agrees _)
    (bind-agrees _ (mul64-agrees _ _)
    (bind-agrees _ (map-agrees (slash r.settings _ _) _) value-agrees)))

-- Pending deposits

apply : (r : ElectraRules) (reg : Registry) (d : PendingDeposit) → Agrees IsOverflow (evaluated.apply_pending_deposit r reg d) (document.apply_pending_deposit r reg d)
unfolding evaluated.apply_pending_deposit document.apply_pending_deposit
apply r reg d = cond-agrees (is_known reg d) (bind-agrees _ (increase_balance _ _) value-agrees) value-agrees

deposit : (r : ElectraRules) (q : Queueing) (p : Processing) (d : PendingDeposit) → Agrees IsOverflow (evaluated.process_deposit r q p d) (document.process_deposit r q p d)
unfolding evaluated.process_deposit document.process_deposit
deposit r q p d =
    cond-agrees (is_withdrawn q p.registry d) (bind-agrees _ (apply r _ d) value-agrees)
    (cond-agrees (is_exited p.registry d) value-agrees
    (bind-agrees _ (add64-agrees _ _)
    (cond-agrees (ltb q.available (p.processed_amount + d.amount)) value-agrees (bind-agrees _ (apply r _ d) value-agrees))))

left : (available : ℕ) (p : Processing) → Agrees IsOverflow (evaluated.left_to_consume available p) (cond p.is_churn_limit_reached (available - p.processed_amount) 0)
unfolding evaluated.left_to_consume
left available p = cond-agrees p.is_churn_limit_reached (sub64-agrees _ _) value-agrees

pub deposits : (r : ElectraRules) (st : ElectraState) → Agrees IsOverflow (evaluated.process_pending_deposits r st) (document.process_pending_deposits r st)
unfolding evaluated.process_pending_deposits document.process_pending_deposits evaluated.queueing
deposits r st =
    bind-agrees _
    (bind-agrees _ (add64-agrees _ _)
    (bind-agrees _ (limit r _ _)
    (bind-agrees _ (add64-agrees _ _)
    (bind-agrees _ (start-slot r.settings _) value-agrees))))
    (bind-agrees _ (until-agrees _ (deposit r _) _ _)
    (bind-agrees _ (left _ _) value-agrees))

-- Pending consolidations

consolidate : (vs : List Validator) (c : PendingConsolidation) → Agrees IsOverflow (evaluated.consolidate vs c) (document.consolidate vs c)
unfolding evaluated.consolidate document.consolidate
consolidate vs c = bind-agrees _ (increase_balance _ _) value-agrees

chosen : {A B : Type 0} (g : A → B) (t : Bool) (x y : A) → g (cond t x y) ≡ cond t (g x) (g y)
chosen g true x y = refl
chosen g false x y = refl

consolidation : (p : Consolidating) (c : PendingConsolidation) → Agrees IsOverflow (evaluated.process_consolidation p c) (document.process_consolidation p c)
unfolding evaluated.process_consolidation document.process_consolidation
consolidation p c =
    let slashed = is_slashed (get_or p.validators c.source_index nobody) in
    rw (chosen (document.next_consolidation p) slashed p.validators (document.consolidate p.validators c))
    (cond-agrees slashed value-agrees (bind-agrees _ (consolidate _ c) value-agrees))

pub consolidations : (r : ElectraRules) (st : ElectraState) → Agrees IsOverflow (evaluated.process_pending_consolidations r st) (document.process_pending_consolidations r st)
unfolding evaluated.process_pending_consolidations document.process_pending_consolidations
consolidations r st = bind-agrees _ (add64-agrees _ _) (bind-agrees _ (until-agrees _ consolidation _ _) value-agrees)

-- Effective balances

or_agrees : {A : Type 0} (t u : Bool) {m : Checked A} (x y : A) → Agrees IsOverflow m (cond u x y) → Agrees IsOverflow (cond t (value x) m) (cond (t || u) x y)
or_agrees true u x y h = value-agrees
or_agrees false u x y h = h

effective-balance : (r : ElectraRules) (c : ℕ) (v : Validator) → Agrees IsOverflow (evaluated.update_effective_balance r c v) (document.update_effective_balance r c v)
unfolding evaluated.update_effective_balance document.update_effective_balance
effective-balance r c v =
    let s = r.settings in
    let increment = s.effective_balance_increment / s.hysteresis_quotient in
    let low = ltb (v.balance + increment * s.hysteresis_downward_multiplier) v.effective_balance in
    let high = ltb (v.effective_balance + increment * s.hysteresis_upward_multiplier) v.balance in
    bind-agrees _ (mul64-agrees _ _)
    (bind-agrees _ (mul64-agrees _ _)
    (bind-agrees _ (add64-agrees _ _) (or_agrees low high _ _ (bind-agrees _ (add64-agrees _ _) value-agrees))))

effective-all : (r : ElectraRules) (cs : List ℕ) (vs : List Validator) → Agrees IsOverflow (evaluated.update_effective_balances r cs vs) (zip_with (document.update_effective_balance r) cs vs)
unfolding evaluated.update_effective_balances zip_with
effective-all r (c ∷ cs) (v ∷ vs) = bind-agrees _ (effective-balance r c v) (bind-agrees _ (effective-all r cs vs) value-agrees)
effective-all r (c ∷ cs) [] = value-agrees
effective-all r [] [] = value-agrees
effective-all r [] (v ∷ vs) = value-agrees

pub effective-balances : (r : ElectraRules) (st : ElectraState) → Agrees IsOverflow (evaluated.process_effective_balance_updates r st) (document.process_effective_balance_updates r st)
unfolding evaluated.process_effective_balance_updates document.process_effective_balance_updates
effective-balances r st = bind-agrees _ (effective-all r _ _) value-agrees

-- Each step, and the epoch

-- 5, or 4
plain : {k : Step} (r : Refusal) → (r ≡ Overflow) ⊎ ((r ≡ NoRoot) × (k ≡ justification_step)) → IsOverflowOrNoRoot r
plain r = ⊎_elim (λ e. inl e) (λ e. inr e.0)

kept_step : (r : ElectraRules) (st : ElectraState) (k : Step) → Agrees IsOverflowOrNoRoot (evaluated.electra_step r st (kept k)) (document_step r st (kept k))
unfolding evaluated.electra_step
kept_step r st k =
    rw ((in_place_lem r.settings r.bellatrix).steps Churn st.altair k)
    (bind-agrees _ (weaken plain (each_step Churn (in_place r.bellatrix r.settings) st.altair k)) value-agrees)

pub electra-step : (r : ElectraRules) (st : ElectraState) (k : ElectraStep) → Agrees IsOverflowOrNoRoot (evaluated.electra_step r st k) (document_step r st k)
unfolding evaluated.electra_step
electra-step r st (kept k) = kept_step r st k
electra-step r st registry_updates = or_more (registry r st)
electra-step r st slashings = or_more (slashings-step r st)
electra-step r st pending_deposits = or_more (deposits r st)
electra-step r st pending_consolidations = or_more (consolidations r st)
electra-step r st effective_balances = or_more (effective-balances r st)

pub epoch : (r : ElectraRules) (st : ElectraState) → Agrees IsOverflowOrNoRoot (evaluated.process_epoch r st) (document.process_epoch r st)
unfolding evaluated.process_epoch evaluated.close_up_to document.process_epoch
epoch r st = fold_agrees (electra-step r) st evaluated.steps

pub step-agrees : StepAgrees
step-agrees r st st' k p = (electra-step r st k).same st' p

pub epoch-agrees : EpochAgrees
epoch-agrees r st st' p = (epoch r st).same st' p

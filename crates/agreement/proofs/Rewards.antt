-- Agreement of rewards and penalties. The document applies four lists of deltas one after the other, the Rust form works validator by
-- validator.
use mathlib.Core.Path.{◌≡◌, refl, ap, ◌∙◌}
use mathlib.Core.List.{List, [], ◌∷◌, map, foldl, zip_with}
use Prim.Native.Nat.{ℕ}
use lib.Dec.{eqb}
use Rattle.definitions.specs.declared.Settings.{Settings}
use Rattle.definitions.specs.declared.ActivationLimit.{ActivationLimit}
use Rattle.definitions.specs.declared.Deltas.{Deltas}
use Rattle.definitions.specs.Record.{Validator, BeaconState}
use Rattle.definitions.specs.Document.Phase0.Helpers.{get_current_epoch, get_previous_epoch}
use Rattle.definitions.specs.Document.Altair.Helpers.{flag_index_deltas, inactivity_penalty_deltas, get_flag_index_deltas, get_inactivity_penalty_deltas}
use Rattle.definitions.specs.Document.Altair.EpochProcessing as document
use Rattle.definitions.specs.Rust.Altair.EpochProcessing as rust
use Rattle.definitions.specs.Rust.Altair.Helpers.{FlagTotals}
use Rattle.definitions.specs.Close.{limited_step, rewards_step}
use Rattle.agreement.proofs.Agrees.{Agrees, IsOverflow, value-agrees, equal-agrees, bind-agrees, cond-agrees, map-agrees, fold_agrees}
use Rattle.agreement.proofs.Helpers.{increase_balance, kept-validators}
use Rattle.agreement.proofs.Deltas.{totals_of, flag-totals, flag-deltas, inactivity-deltas}

-- Lists of deltas, or validator by validator

zip_maps : {A B C D : Type 0} (f : B → C → D) (g : A → B) (h : A → C) (xs : List A) → zip_with f (map g xs) (map h xs) ≡ map (λ x. f (g x) (h x)) xs
unfolding zip_with
zip_maps f g h [] = refl
zip_maps f g h (x ∷ xs) = ap (λ t. f (g x) (h x) ∷ t) (zip_maps f g h xs)

pub map_same : {A : Type 0} (xs : List A) → xs ≡ map (λ x. x) xs
map_same [] = refl
map_same (x ∷ xs) = ap (λ t. x ∷ t) (map_same xs)

-- list by list from g on is element by element
fold_zip : {A B C : Type 0} (f : B → C → B) (g : A → B) (hs : List (A → C)) (xs : List A) → foldl (zip_with f) (map g xs) (map (λ h. map h xs) hs) ≡ map (λ x. foldl f (g x) (map (λ h. h x) hs)) xs
fold_zip f g [] xs = refl
fold_zip f g (h ∷ hs) xs =
    ap (λ t. foldl (zip_with f) t (map (λ h. map h xs) hs)) (zip_maps f g h xs) ∙ fold_zip f (λ x. f (g x) (h x)) hs xs

pub apply-delta : (v : Validator) (d : Deltas) → Agrees IsOverflow (rust.apply_delta v d) (document.apply_delta v d)
unfolding rust.apply_delta document.apply_delta
apply-delta v d = bind-agrees _ (increase_balance v _) value-agrees

-- a validator's four deltas, in order
abbrev deltas_of : Settings → BeaconState → List (Validator → Deltas)
deltas_of s st =
    let flag = flag_index_deltas s st.finality.slot st.finality.finalized_checkpoint.epoch st.validators in
    flag 0 ∷ flag 1 ∷ flag 2 ∷ inactivity_penalty_deltas s s.inactivity_penalty_quotient_altair st.finality.slot ∷ []

-- the document's step on one validator
abbrev rewarded : Settings → BeaconState → Validator → Validator
rewarded s st v = foldl document.apply_delta v (map (λ h. h v) (deltas_of s st))

by-validator : (s : Settings) (st : BeaconState) → foldl document.apply_deltas st.validators (map (λ h. map h st.validators) (deltas_of s st)) ≡ map (rewarded s st) st.validators
unfolding document.apply_deltas
by-validator s st =
    ap (λ vs. foldl document.apply_deltas vs (map (λ h. map h st.validators) (deltas_of s st))) (map_same st.validators) ∙ fold_zip document.apply_delta (λ v. v) (deltas_of s st) st.validators

abbrev totals_at : Settings → BeaconState → ℕ → FlagTotals
totals_at s st flag_index = totals_of s st.finality.slot st.finality.finalized_checkpoint.epoch st.validators flag_index

rewards-one : (s : Settings) (st : BeaconState) (v : Validator) → Agrees IsOverflow (rust.reward_and_penalize s s.inactivity_penalty_quotient_altair (get_current_epoch s st.finality.slot) (get_previous_epoch s st.finality.slot) (totals_at s st 0) (totals_at s st 1) (totals_at s st 2) v) (rewarded s st v)
unfolding rust.reward_and_penalize rust.all_deltas
rewards-one s st v =
    let flag = flag-deltas s st.finality.slot st.finality.finalized_checkpoint.epoch st.validators in
    bind-agrees _ (bind-agrees _ (flag 0 v) (bind-agrees _ (flag 1 v) (bind-agrees _ (flag 2 v) (bind-agrees _ (inactivity-deltas s _ _ v) value-agrees)))) (fold_agrees apply-delta v _)

pub rewards : (l : ActivationLimit) (s : Settings) (st : BeaconState) → Agrees IsOverflow (limited_step l s st rewards_step) (document.process_rewards_and_penalties s s.inactivity_penalty_quotient_altair st)
unfolding limited_step rust.process_rewards_and_penalties document.process_rewards_and_penalties get_flag_index_deltas get_inactivity_penalty_deltas
rewards l s st =
    let genesis = eqb (get_current_epoch s st.finality.slot) 0 in
    rw (by-validator s st)
    (bind-agrees _
    (cond-agrees genesis value-agrees
    (bind-agrees _ (flag-totals s _ _ _ _)
    (bind-agrees _ (flag-totals s _ _ _ _)
    (bind-agrees _ (flag-totals s _ _ _ _) (map-agrees (rewards-one s st) _)))))
    (equal-agrees (kept-validators genesis _ st)))

-- The rewards list by list, as the Rust goes, and validator by validator, as the checked form goes: all refusals are 5, and the same
-- evaluations give values.
use mathlib.Core.Path.{◌≡◌, refl, sym, ap, ap₂, ◌∙◌, subst}
use mathlib.Core.Bool.{Bool, true, false, cond, ◌&&◌}
use mathlib.Core.List.{List, [], ◌∷◌, map, foldl}
use Prim.Native.Nat.{ℕ, ◌<◌}
use lib.Dec.{eqb}
use lib.ListN.{length, get_or}
use Rattle.definitions.specs.declared.Settings.{Settings}
use Rattle.definitions.specs.declared.Deltas.{Deltas}
use Rattle.definitions.specs.Lists.{all}
use Rattle.definitions.specs.Record.{Validator, nobody}
use Rattle.definitions.specs.Checked.{Checked, value, refused, bind, map_checked, fold_checked}
use Rattle.definitions.specs.Document.Phase0.Helpers.{get_current_epoch, get_previous_epoch}
use Rattle.definitions.specs.Document.Altair.Helpers as document
use Rattle.definitions.specs.Document.Altair.EpochProcessing as document_epoch
use Rattle.definitions.specs.Rust.Altair.Helpers as of_one
use Rattle.definitions.specs.Rust.Altair.Helpers.{FlagTotals}
use Rattle.definitions.specs.Rust.Altair.EpochProcessing as by_validator
use Rattle.theorems.specs.Completeness.ListByList as by_lists
use Rattle.theorems.specs.Completeness.ListByList.{zip_checked, SameByLists, LeavesOfOne}
use Rattle.laws.proofs.Checked.{bound}
use Rattle.agreement.proofs.Agrees.{Agrees, IsOverflow, value-agrees, bind-agrees, map-agrees, fold_agrees}
use Rattle.agreement.proofs.Deltas.{totals_of, flag-totals, flag-deltas, inactivity-deltas}
use Rattle.agreement.proofs.Rewards.{map_same, apply-delta}
use Rattle.laws_close.proofs.Amounts.Lists.{each_at}
use Rattle.theorems.proofs.Completeness.Order.{gives, same-value, gives-bind, gives-map, all_alike, all_and, fold_zip_agrees, gives_fold_zip}

-- a flag's totals, then its list, three times; or the totals of all three before the lists
totals-first : (t a u b v c r : Bool) → ((t && a) && ((u && b) && ((v && c) && r))) ≡ (t && (u && (v && (a && (b && (c && r))))))
totals-first false a u b v c r = refl
totals-first true true false b v c r = refl
totals-first true false false b v c r = refl
totals-first true true true true false c r = refl
totals-first true true true false false c r = refl
totals-first true false true b false c r = refl
totals-first true a true b true c r = refl

-- what is worked out from a list of four, one after the other
one-chain : {A B : Type 0} (a b c d : Checked A) (k : List A → Checked B) → bind (bind a (λ x. bind b (λ y. bind c (λ z. bind d (λ w. value (x ∷ y ∷ z ∷ w ∷ [])))))) k ≡ bind a (λ x. bind b (λ y. bind c (λ z. bind d (λ w. k (x ∷ y ∷ z ∷ w ∷ [])))))
unfolding bind
one-chain (refused r) b c d k = refl
one-chain (value x) (refused r) c d k = refl
one-chain (value x) (value y) (refused r) d k = refl
one-chain (value x) (value y) (value z) (refused r) k = refl
one-chain (value x) (value y) (value z) (value w) k = refl

module _ (s : Settings) (quotient state_slot finalized_epoch : ℕ) (vs : List Validator) where
  -- a validator's four deltas, plain and checked
  abbrev plain : List (Validator → Deltas)
  plain =
      let flag = document.flag_index_deltas s state_slot finalized_epoch vs in
      flag 0 ∷ flag 1 ∷ flag 2 ∷ document.inactivity_penalty_deltas s quotient state_slot ∷ []

  abbrev deltas : ℕ → Validator → Checked Deltas
  deltas flag_index =
      of_one.flag_index_deltas s (get_current_epoch s state_slot) (get_previous_epoch s state_slot) flag_index (totals_of s state_slot finalized_epoch vs flag_index)

  abbrev penalty : Validator → Checked Deltas
  penalty = of_one.inactivity_penalty_deltas s quotient (get_current_epoch s state_slot) (get_previous_epoch s state_slot)

  -- and applied
  abbrev rewarded : Validator → Validator
  rewarded v = foldl document_epoch.apply_delta v (map (λ g. g v) plain)

  abbrev applied : Validator → Checked Validator
  applied v = fold_checked by_validator.apply_delta v (map (λ g. g v) plain)

  -- whether each gives a value: a flag's totals, its list, the other lists
  abbrev totals : ℕ → Bool
  totals flag_index = gives (of_one.flag_totals s state_slot finalized_epoch vs flag_index)

  abbrev flags : ℕ → Bool
  flags flag_index = all (λ v. gives (deltas flag_index v)) vs

  abbrev rest : Bool
  rest = all (λ v. gives (penalty v)) vs && all (λ v. gives (applied v)) vs

  -- List by list

  abbrev lists : Checked (List Validator)
  lists =
      bind (by_lists.get_flag_index_deltas s state_slot finalized_epoch vs 0) (λ source.
      bind (by_lists.get_flag_index_deltas s state_slot finalized_epoch vs 1) (λ target.
      bind (by_lists.get_flag_index_deltas s state_slot finalized_epoch vs 2) (λ head.
      bind (by_lists.get_inactivity_penalty_deltas s quotient state_slot vs) (λ inactivity.
      fold_checked (zip_checked by_validator.apply_delta) vs (source ∷ target ∷ head ∷ inactivity ∷ [])))))

  flag-list : (flag_index : ℕ) → Agrees IsOverflow (by_lists.get_flag_index_deltas s state_slot finalized_epoch vs flag_index) (map (document.flag_index_deltas s state_slot finalized_epoch vs flag_index) vs)
  unfolding by_lists.get_flag_index_deltas
  flag-list flag_index =
      bind-agrees _ (flag-totals s state_slot finalized_epoch vs flag_index) (map-agrees (flag-deltas s state_slot finalized_epoch vs flag_index) vs)

  flag-gives : (flag_index : ℕ) → gives (by_lists.get_flag_index_deltas s state_slot finalized_epoch vs flag_index) ≡ (totals flag_index && flags flag_index)
  unfolding by_lists.get_flag_index_deltas
  flag-gives flag_index =
      gives-bind _ (flag-totals s state_slot finalized_epoch vs flag_index) ∙ ap (λ t. totals flag_index && t) (gives-map _ vs)

  penalty-list : Agrees IsOverflow (by_lists.get_inactivity_penalty_deltas s quotient state_slot vs) (map (document.inactivity_penalty_deltas s quotient state_slot) vs)
  unfolding by_lists.get_inactivity_penalty_deltas of_one.get_inactivity_penalty_deltas
  penalty-list = map-agrees (inactivity-deltas s quotient state_slot) vs

  penalty-gives : gives (by_lists.get_inactivity_penalty_deltas s quotient state_slot vs) ≡ all (λ v. gives (penalty v)) vs
  unfolding by_lists.get_inactivity_penalty_deltas of_one.get_inactivity_penalty_deltas
  penalty-gives = gives-map _ vs

  abbrev all_applied : List Validator → Checked (List Validator)
  all_applied ws = fold_checked (zip_checked by_validator.apply_delta) ws (map (λ g. map g vs) plain)

  applied-list : Agrees IsOverflow (all_applied vs) (map rewarded vs)
  applied-list =
      subst (λ ws. Agrees IsOverflow (all_applied ws) (map rewarded vs)) (sym (map_same vs)) (fold_zip_agrees apply-delta (λ v. v) plain vs)

  applied-gives : gives (all_applied vs) ≡ all (λ v. gives (applied v)) vs
  applied-gives = ap (λ ws. gives (all_applied ws)) (map_same vs) ∙ gives_fold_zip apply-delta (λ v. v) plain vs

  lists_agree : Agrees IsOverflow lists (map rewarded vs)
  lists_agree =
      bind-agrees _ (flag-list 0) (bind-agrees _ (flag-list 1) (bind-agrees _ (flag-list 2) (bind-agrees _ penalty-list applied-list)))

  lists_give : gives lists ≡ ((totals 0 && flags 0) && ((totals 1 && flags 1) && ((totals 2 && flags 2) && rest)))
  lists_give =
      gives-bind _ (flag-list 0)
      ∙ ap₂ ◌&&◌ (flag-gives 0) (gives-bind _ (flag-list 1)
      ∙ ap₂ ◌&&◌ (flag-gives 1) (gives-bind _ (flag-list 2)
      ∙ ap₂ ◌&&◌ (flag-gives 2) (gives-bind _ penalty-list
      ∙ ap₂ ◌&&◌ penalty-gives applied-gives)))

  -- Validator by validator

  abbrev one : Validator → Checked Validator
  one = by_validator.reward_and_penalize s quotient (get_current_epoch s state_slot) (get_previous_epoch s state_slot) (totals_of s state_slot finalized_epoch vs 0) (totals_of s state_slot finalized_epoch vs 1) (totals_of s state_slot finalized_epoch vs 2)

  one-agrees : (v : Validator) → Agrees IsOverflow (one v) (rewarded v)
  unfolding by_validator.reward_and_penalize by_validator.all_deltas
  one-agrees v =
      let flag = flag-deltas s state_slot finalized_epoch vs in
      bind-agrees _ (bind-agrees _ (flag 0 v) (bind-agrees _ (flag 1 v) (bind-agrees _ (flag 2 v) (bind-agrees _ (inactivity-deltas s quotient state_slot v) value-agrees)))) (fold_agrees apply-delta v _)

  one-gives : (v : Validator) → gives (one v) ≡ (gives (deltas 0 v) && (gives (deltas 1 v) && (gives (deltas 2 v) && (gives (penalty v) && gives (applied v)))))
  unfolding by_validator.reward_and_penalize by_validator.all_deltas
  one-gives v =
      let flag = flag-deltas s state_slot finalized_epoch vs in
      ap gives (one-chain (deltas 0 v) (deltas 1 v) (deltas 2 v) (penalty v) (fold_checked by_validator.apply_delta v))
      ∙ gives-bind _ (flag 0 v)
      ∙ ap (λ t. gives (deltas 0 v) && t) (gives-bind _ (flag 1 v)
      ∙ ap (λ t. gives (deltas 1 v) && t) (gives-bind _ (flag 2 v)
      ∙ ap (λ t. gives (deltas 2 v) && t) (gives-bind _ (inactivity-deltas s quotient state_slot v))))

  all_give : gives (map_checked one vs) ≡ (flags 0 && (flags 1 && (flags 2 && rest)))
  all_give =
      gives-map one vs
      ∙ all_alike one-gives vs
      ∙ all_and _ _ vs
      ∙ ap (λ t. flags 0 && t) (all_and _ _ vs
      ∙ ap (λ t. flags 1 && t) (all_and _ _ vs
      ∙ ap (λ t. flags 2 && t) (all_and _ _ vs)))

  abbrev validators : Checked (List Validator)
  validators =
      let total = of_one.flag_totals s state_slot finalized_epoch vs in
      let reward = by_validator.reward_and_penalize s quotient (get_current_epoch s state_slot) (get_previous_epoch s state_slot) in
      bind (total 0) (λ source. bind (total 1) (λ target. bind (total 2) (λ head. map_checked (reward source target head) vs)))

  validators_agree : Agrees IsOverflow validators (map rewarded vs)
  validators_agree =
      let total = flag-totals s state_slot finalized_epoch vs in
      bind-agrees _ (total 0) (bind-agrees _ (total 1) (bind-agrees _ (total 2) (map-agrees one-agrees vs)))

  validators_give : gives validators ≡ (totals 0 && (totals 1 && (totals 2 && (flags 0 && (flags 1 && (flags 2 && rest))))))
  validators_give =
      let total = flag-totals s state_slot finalized_epoch vs in
      gives-bind _ (total 0)
      ∙ ap (λ t. totals 0 && t) (gives-bind _ (total 1)
      ∙ ap (λ t. totals 1 && t) (gives-bind _ (total 2)
      ∙ ap (λ t. totals 2 && t) all_give))

  -- Both

  same : lists ≡ validators
  same =
      same-value lists validators lists_agree validators_agree
      (lists_give ∙ totals-first (totals 0) (flags 0) (totals 1) (flags 1) (totals 2) (flags 2) rest ∙ sym validators_give)

pub same_by_lists : SameByLists
unfolding by_lists.process_rewards_and_penalties by_validator.process_rewards_and_penalties
same_by_lists s quotient state_slot finalized_epoch vs =
    ap (cond (eqb (get_current_epoch s state_slot) 0) (value vs)) (same s quotient state_slot finalized_epoch vs)

-- The leaves: an entry of the list

flag_of-one : (s : Settings) (vs : List Validator) (state_slot finalized_epoch flag_index : ℕ) (ds : List Deltas) → by_lists.get_flag_index_deltas s state_slot finalized_epoch vs flag_index ≡ value ds → (i : ℕ) → i < length vs → of_one.get_flag_index_deltas s state_slot finalized_epoch vs flag_index (get_or vs i nobody) ≡ value (get_or ds i document.no_deltas)
unfolding by_lists.get_flag_index_deltas of_one.get_flag_index_deltas bind
flag_of-one s vs state_slot finalized_epoch flag_index ds e i l =
    let delta : FlagTotals → Validator → Checked Deltas = of_one.flag_index_deltas s (get_current_epoch s state_slot) (get_previous_epoch s state_slot) flag_index in
    let t = bound (of_one.flag_totals s state_slot finalized_epoch vs flag_index) (λ t. map_checked (delta t) vs) e in
    rw t.gave (each_at (delta t.first) nobody document.no_deltas vs t.then i l)

pub leaves_of_one : (s : Settings) (vs : List Validator) → LeavesOfOne s vs
unfolding by_lists.get_inactivity_penalty_deltas
leaves_of_one s vs =
    record {
      flag = flag_of-one s vs;
      inactivity = λ quotient state_slot ds e i l. each_at (of_one.get_inactivity_penalty_deltas s quotient state_slot) nobody document.no_deltas vs e i l;
    }

-- The registry step under Electra, validator by validator: three cases of which the first that holds is taken, and no limit.
use mathlib.Core.Path.{◌≡◌, refl, sym, ap, ◌∙◌, subst, subst₂}
use mathlib.Core.Bool.{Bool, true, false, cond, ◌&&◌, false≢true}
use mathlib.Core.List.{List}
use Prim.Native.Nat.{ℕ, zero, suc, ◌+◌, ◌≤◌, ◌<◌}
use native.Mathlib.Decide.{ℕ_discrete}
use native.Mathlib.Omega.{arith}
use borrow.Author.Tests.{leb-true, eqb-true, le-leb, eq-eqb}
use lib.Dec.{leb, ltb, eqb}
use lib.ListN.{length, get_or, set, length-set}
use lib.Seq.{get_or-set_same, get_or-set_other}
use Rattle.definitions.specs.declared.Finality.{Finality}
use Rattle.definitions.specs.Lists.{range}
use Rattle.definitions.specs.Record.{Validator, nobody, FAR_FUTURE_EPOCH as FAR}
use Rattle.definitions.specs.Updates.{with_eligibility, with_activation, with_exit}
use Rattle.definitions.specs.Checked.{Checked, value, bind, add64, fold_checked}
use Rattle.definitions.specs.Rust.Phase0.Helpers.{get_current_epoch, is_active_validator, is_eligible_for_activation, compute_activation_exit_epoch}
use Rattle.laws.proofs.Checked.{value_same, bound, add64-value, add64-below}
use Rattle.laws.proofs.Tests.{both, and_both, either}
use Rattle.definitions_electra.specs.declared.ElectraRules.{ElectraRules}
use Rattle.definitions_electra.specs.Record.{ElectraState, with_vs}
use Rattle.definitions_electra.specs.Document.Electra.Helpers.{is_eligible_for_activation_queue}
use Rattle.definitions_electra.specs.Document.Electra.EpochProcessing.{current_epoch_of, finalized_epoch_of}
use Rattle.definitions_electra.specs.Evaluated.Electra.Helpers.{initiate_validator_exit}
use Rattle.definitions_electra.specs.Evaluated.Electra.EpochProcessing.{update_registry_at, process_registry_updates}
use Rattle.history.proofs.Steps.{epochs}

-- eligibility and activation epoch of validator number i
abbrev pub at : List Validator → ℕ → ℕ × ℕ
at vs i = epochs (get_or vs i nobody)

-- what becomes of the two epochs in a close of epoch e that finds the finalized epoch f and activates for `to`
pub data Became (e to f : ℕ) (was now : ℕ × ℕ) : Type 0 where
  marked : was.0 ≡ FAR → now.0 ≡ e + 1 → now.1 ≡ was.1 → Became e to f was now
  left : (was.0 ≤ f → was.1 ≡ FAR → ⊥) → now ≡ was → Became e to f was now
  activated : was.0 ≤ f → was.1 ≡ FAR → now.0 ≡ was.0 → now.1 ≡ to → Became e to f was now

-- One turn

record Turned (e to f i : ℕ) (a b : ElectraState) : Type 0 where
  finality : b.altair.finality ≡ a.altair.finality
  number : length b.altair.validators ≡ length a.altair.validators
  here : Became e to f (at a.altair.validators i) (at b.altair.validators i)
  others : (j : ℕ) → (j ≡ i → ⊥) → at b.altair.validators j ≡ at a.altair.validators j

module _ (e to f : ℕ) (st : ElectraState) (i : ℕ) where
  abbrev vs : List Validator
  vs = st.altair.validators

  turned_set : (w : Validator) → i < length vs → Became e to f (at vs i) (epochs w) → Turned e to f i st (with_vs (set vs i w) st)
  turned_set w l h =
      record {
        finality = refl;
        number = length-set vs i w;
        here = subst (Became e to f (at vs i)) (sym (ap epochs (get_or-set_same vs i w nobody l))) h;
        others = λ j d. ap epochs (get_or-set_other vs i j w nobody d);
      }

  turned_left : ((at vs i).0 ≤ f → (at vs i).1 ≡ FAR → ⊥) → Turned e to f i st st
  turned_left h = record { finality = refl; number = refl; here = left h refl; others = λ j d. refl }

  turned-value : {c b : ElectraState} → Turned e to f i st c → ◌≡◌ {A = Checked ElectraState} (value c) (value b) → Turned e to f i st b
  turned-value h p = subst (Turned e to f i st) (value_same p) h

  -- an exit leaves both
  turned-exit : (r : ElectraRules) {b : ElectraState} → i < length vs → ((at vs i).0 ≤ f → (at vs i).1 ≡ FAR → ⊥) → initiate_validator_exit r st i ≡ value b → Turned e to f i st b
  unfolding initiate_validator_exit
  turned-exit r l h =
      either (Turned e to f i st) (eqb (get_or vs i nobody).exit_epoch FAR)
      (λ p.
      let a = bound _ _ p in
      let c = bound _ _ a.then in
      let t = turned_set (with_exit a.first.earliest_exit_epoch c.first (get_or vs i nobody)) l (left h refl) in
      turned-value (record { finality = refl; number = t.number; here = t.here; others = t.others }) c.then)
      (turned-value (turned_left h))

turned : (r : ElectraRules) (to : ℕ) (st : ElectraState) (i : ℕ) {b : ElectraState} → i < length st.altair.validators → current_epoch_of r st < FAR
    → update_registry_at r to st i ≡ value b → Turned (current_epoch_of r st) to (finalized_epoch_of st) i st b
unfolding update_registry_at is_eligible_for_activation_queue is_active_validator is_eligible_for_activation
turned r to st i {b} l low = first (marks && leb r.electra.min_activation_balance v.effective_balance) refl
  where
    v : Validator
    v = get_or st.altair.validators i nobody

    e : ℕ
    e = current_epoch_of r st

    f : ℕ
    f = finalized_epoch_of st

    with : Validator → ElectraState
    with w = with_vs (set st.altair.validators i w) st

    marks : Bool
    marks = eqb v.activation_eligibility_epoch FAR

    active : Bool
    active = leb v.activation_epoch e && ltb e v.exit_epoch

    ejects : Bool
    ejects = active && leb v.effective_balance r.settings.ejection_balance

    waits : Bool
    waits = leb v.activation_eligibility_epoch f && eqb v.activation_epoch FAR

    third : (t : Bool) → waits ≡ t → cond {A = Checked ElectraState} t (value (with (with_activation to v))) (value st) ≡ value b → Turned e to f i st b
    third true q p =
        let h = both (leb v.activation_eligibility_epoch f) (eqb v.activation_epoch FAR) q in
        turned-value e to f st i (turned_set e to f st i (with_activation to v) l (activated (leb-true _ _ h.0) (eqb-true _ _ h.1) refl refl)) p
    third false q p = turned-value e to f st i (turned_left e to f st i (λ x y. false≢true (sym q ∙ and_both (le-leb _ _ x) (eq-eqb _ _ y)))) p

    second : (t : Bool) → ejects ≡ t → cond t (initiate_validator_exit r st i) (cond waits (value (with (with_activation to v))) (value st)) ≡ value b → Turned e to f i st b
    second true q p =
        let h = both (leb v.activation_epoch e) (ltb e v.exit_epoch) (both active (leb v.effective_balance r.settings.ejection_balance) q).0 in
        turned-exit e to f st i r l (λ x y. absurd (omega (arith, low, y, leb-true v.activation_epoch e h.0))) p
    second false q p = third waits refl p

    first : (t : Bool) → (marks && leb r.electra.min_activation_balance v.effective_balance) ≡ t
        → cond t (bind (add64 e 1) (λ next. value (with (with_eligibility next v)))) (cond ejects (initiate_validator_exit r st i) (cond waits (value (with (with_activation to v))) (value st))) ≡ value b → Turned e to f i st b
    first true q p =
        let h = bound (add64 e 1) (λ next. value (with (with_eligibility next v))) p in
        let far = eqb-true v.activation_eligibility_epoch FAR (both marks (leb r.electra.min_activation_balance v.effective_balance) q).0 in
        turned-value e to f st i (turned_set e to f st i (with_eligibility h.first v) l (marked far (sym (add64-value e 1 h.gave)) refl)) h.then
    first false q p = second ejects refl p

-- The loop, from k on

pub record Visited (e to f k : ℕ) (a b : ElectraState) : Type 0 where
  pub finality : b.altair.finality ≡ a.altair.finality
  pub number : length b.altair.validators ≡ length a.altair.validators
  pub before : (i : ℕ) → i < k → at b.altair.validators i ≡ at a.altair.validators i
  pub from : (i : ℕ) → i < length a.altair.validators → k ≤ i → Became e to f (at a.altair.validators i) (at b.altair.validators i)

visited-on : {e to f k : ℕ} {a b c : ElectraState} → Turned e to f k a b → Visited e to f (suc k) b c → Visited e to f k a c
visited-on {e} {to} {f} {k} {a} {b} {c} t v =
    record {
      finality = v.finality ∙ t.finality;
      number = v.number ∙ t.number;
      before = λ i l. v.before i (omega arith) ∙ t.others i (λ x. absurd (omega arith));
      from = λ i l m. from i l m (ℕ_discrete i k);
    }
  where
    from : (i : ℕ) → i < length a.altair.validators → k ≤ i → Dec (i ≡ k) → Became e to f (at a.altair.validators i) (at c.altair.validators i)
    from i l m (yes x) =
        subst (Became e to f (at a.altair.validators i)) (sym (v.before i (omega arith)))
        (subst (λ (j : ℕ). Became e to f (at a.altair.validators j) (at b.altair.validators j)) (sym x) t.here)
    from i l m (no x) =
        subst (λ (p : ℕ × ℕ). Became e to f p (at c.altair.validators i)) (t.others i x) (v.from i (omega (arith, l, t.number)) (omega arith))

visited : (r : ElectraRules) (to n k : ℕ) (st : ElectraState) {b : ElectraState} → n + k ≡ length st.altair.validators → current_epoch_of r st < FAR
    → fold_checked (update_registry_at r to) st (range k n) ≡ value b → Visited (current_epoch_of r st) to (finalized_epoch_of st) k st b
unfolding fold_checked range
visited r to zero k st l low p =
    subst (Visited (current_epoch_of r st) to (finalized_epoch_of st) k st) (value_same p)
    (record { finality = refl; number = refl; before = λ i m. refl; from = λ i m o. absurd (omega arith) })
visited r to (suc n) k st {b} l low p =
    let a = bound _ _ p in
    let t = turned r to st k (omega arith) low a.gave in
    let epoch = ap (λ (f : Finality). get_current_epoch r.settings f.slot) t.finality in
    let final = ap (λ (f : Finality). f.finalized_checkpoint.epoch) t.finality in
    visited-on t (subst₂ (λ (x y : ℕ). Visited x to y (suc k) a.first b) epoch final (visited r to n (suc k) a.first (omega (arith, l, t.number)) (omega (arith, epoch, low)) a.then))

pub registry-visited : (r : ElectraRules) (st : ElectraState) {b : ElectraState} → process_registry_updates r st ≡ value b
    → Visited (current_epoch_of r st) (current_epoch_of r st + 1 + r.settings.max_seed_lookahead) (finalized_epoch_of st) 0 st b
unfolding process_registry_updates compute_activation_exit_epoch
registry-visited r st {b} p =
    let a = bound _ _ p in
    let c = bound _ _ a.gave in
    let to = ap (λ (x : ℕ). x + r.settings.max_seed_lookahead) (add64-value _ _ c.gave) ∙ add64-value _ _ c.then in
    subst (λ (x : ℕ). Visited (current_epoch_of r st) x (finalized_epoch_of st) 0 st b) (sym to)
    (visited r a.first (length st.altair.validators) 0 st (omega arith) (omega (arith, add64-below _ _ c.gave)) a.then)

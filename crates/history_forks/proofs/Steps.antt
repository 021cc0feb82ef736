-- The ten steps of an Electra close: what they do to the checkpoints and to the two epochs of each validator.
use mathlib.Core.Path.{◌≡◌, refl, sym, ap, ap₂, ◌∙◌, subst, subst₂}
use mathlib.Core.Bool.{Bool, true, false, cond}
use mathlib.Core.List.{List, [], ◌∷◌, ◌++◌, map}
use Prim.Native.Nat.{ℕ, ◌+◌, ◌-◌, ◌%◌, min, ◌≤◌, ◌<◌}
use native.Mathlib.Decide.{dec_lt}
use native.Mathlib.Omega.{arith}
use lib.Dec.{ltb, eqb}
use lib.ListN.{length, get_or, set, take, length-append, length-map, length-take, get_or-append, get_or-map}
use lib.Seq.{map-set_same, get_or-take, get_or-append_seam}
use Rattle.definitions.specs.declared.Finality.{Finality}
use Rattle.definitions.specs.Record.{Validator, BeaconState, is_slashed, nobody, FAR_FUTURE_EPOCH as FAR}
use Rattle.definitions.specs.Updates.{with_effective_balance, with_balance, with_score, with_participation}
use Rattle.definitions.specs.Checked.{Checked, value, bind, fold_checked}
use Rattle.definitions.specs.Rules.{in_place}
use Rattle.definitions.specs.Rust.Phase0.Helpers.{compute_epoch_at_slot, get_current_epoch, increase_balance, decrease_balance}
use Rattle.definitions.specs.Close.{Step, justification_step, inactivity_step, rewards_step, slashings_reset_step, participation_flags_step, step, limited_step}
use Rattle.laws.specs.Frames.{each}
use Rattle.laws.proofs.Checked.{value_same, bound}
use Rattle.laws.proofs.Moved.{Moved}
use Rattle.laws.proofs.Checkpoints.{CheckpointsMoved, justification-moves}
use Rattle.laws.proofs.Frame.Entries.{told, kept_map}
use Rattle.laws.proofs.Frame.Frames.{frames}
use Rattle.laws.proofs.Tests.{either}
use Rattle.definitions_electra.specs.declared.ElectraRules.{ElectraRules}
use Rattle.definitions_electra.specs.declared.PendingDeposit.{PendingDeposit}
use Rattle.definitions_electra.specs.Loops.{fold_until_checked}
use Rattle.definitions_electra.specs.Record.{PendingConsolidation, Registry, ElectraState}
use Rattle.definitions_electra.specs.Document.Electra.Helpers.{get_max_effective_balance}
use Rattle.definitions_electra.specs.Document.Electra.EpochProcessing.{current_epoch_of, finalized_epoch_of, get_validator_from_deposit, add_validator_to_registry, is_known, place_in, Processing, Queueing, is_withdrawn, is_exited, moved_on, deposits_stop, consolidated_balance, Consolidating, consolidations_stop}
use Rattle.definitions_electra.specs.Evaluated.Electra.EpochProcessing.{slash, process_slashings, apply_pending_deposit, process_deposit, process_pending_deposits, consolidate, process_consolidation, process_pending_consolidations, update_effective_balance, update_effective_balances, process_effective_balance_updates, kept, slashings, pending_deposits, pending_consolidations, effective_balances, electra_step, close_up_to, process_epoch}
use Rattle.history.proofs.Steps.{epochs, Spared, spared_number, spared_eligibility, spared_activation}
use Rattle.history_forks.proofs.Registry.{at, Became, Visited, registry-visited}

-- Registries: ws is vs, as far as the two epochs go, and behind it new validators with both FAR

pub record Grew (vs ws : List Validator) : Type 0 where
  pub more : length vs ≤ length ws
  pub old : (i : ℕ) → i < length vs → at ws i ≡ at vs i
  pub new : (i : ℕ) → length vs ≤ i → i < length ws → at ws i ≡ (FAR, FAR)

pub spared_at : {vs ws : List Validator} → Spared vs ws → (i : ℕ) → at ws i ≡ at vs i
spared_at a i = ap₂ (λ (x y : ℕ). (x, y)) (spared_eligibility a i) (spared_activation a i)

grew_spared : {vs ws : List Validator} → Spared vs ws → Grew vs ws
grew_spared a = let n = spared_number a in record { more = omega (arith, n); old = λ i l. spared_at a i; new = λ i l m. absurd (omega (arith, l, m, n)) }

grew_same : {vs ws : List Validator} → vs ≡ ws → Grew vs ws
grew_same p = grew_spared (record { same = ap (map epochs) (sym p) })

grew_both : {us vs ws : List Validator} → Grew us vs → Grew vs ws → Grew us ws
grew_both {us} {vs} {ws} a b =
    record {
      more = omega (arith, a.more, b.more);
      old = λ i l. b.old i (omega (arith, l, a.more)) ∙ a.old i l;
      new = λ i l m. new i l m (dec_lt i (length vs));
    }
  where
    new : (i : ℕ) → length us ≤ i → i < length ws → Dec (i < length vs) → at ws i ≡ (FAR, FAR)
    new i l m (yes k) = b.old i k ∙ a.new i l k
    new i l m (no k) = b.new i (omega (arith, k)) m

-- one more
grew_one : (vs : List Validator) (v : Validator) → epochs v ≡ (FAR, FAR) → Grew vs (vs ++ v ∷ [])
grew_one vs v h =
    let n = length-append vs (v ∷ []) in
    record {
      more = omega (arith, n);
      old = λ i l. ap epochs (get_or-append vs (v ∷ []) nobody i l);
      new = λ i l m.
          let e : i ≡ length vs = omega (arith, l, m, n) in
          ap (at (vs ++ v ∷ [])) e ∙ ap epochs (get_or-append_seam vs v [] nobody) ∙ h;
    }

-- a validator put in the place of one with its epochs
spared_set : (vs : List Validator) (i : ℕ) (w : Validator) → epochs w ≡ at vs i → map epochs (set vs i w) ≡ map epochs vs
spared_set vs i w h = map-set_same epochs vs i w nobody h

-- The steps that Electra takes over

pub record Kept (a b : BeaconState) : Type 0 where
  pub finality : b.finality ≡ a.finality
  pub validators : Spared a.validators b.validators

taken-over : (r : ElectraRules) (a b : ElectraState) (k : Step) → electra_step r a (kept k) ≡ value b → step (in_place r.bellatrix r.settings) a.altair k ≡ value b.altair
unfolding electra_step
taken-over r a b k e = let h = bound _ _ e in h.gave ∙ ap (λ (st : ElectraState). value st.altair) (value_same h.then)

kept_but : (f : Validator → Validator) → ((v : Validator) → epochs (f v) ≡ epochs v) → (a b : BeaconState) → each f b ≡ each f a → Kept a b
kept_but f k a b h =
    record {
      finality = ap (λ (st : BeaconState). st.finality) h;
      validators = record { same = told f epochs k a.validators b.validators (ap (λ (st : BeaconState). st.validators) h) };
    }

module _ (r : ElectraRules) (a b : ElectraState) where
  inactivity-keeps : electra_step r a (kept inactivity_step) ≡ value b → Kept a.altair b.altair
  inactivity-keeps e = kept_but (with_score 0) (λ v. refl) a.altair b.altair (frames _ inactivity_step _ _ (taken-over r a b inactivity_step e))

  rewards_keep : electra_step r a (kept rewards_step) ≡ value b → Kept a.altair b.altair
  rewards_keep e = kept_but (with_balance 0) (λ v. refl) a.altair b.altair (frames _ rewards_step _ _ (taken-over r a b rewards_step e))

  rotation_keeps : electra_step r a (kept participation_flags_step) ≡ value b → Kept a.altair b.altair
  rotation_keeps e = kept_but (with_participation 0 0) (λ v. refl) a.altair b.altair (frames _ participation_flags_step _ _ (taken-over r a b participation_flags_step e))

  reset-keeps : electra_step r a (kept slashings_reset_step) ≡ value b → Kept a.altair b.altair
  reset-keeps e =
      let h = frames _ slashings_reset_step _ _ (taken-over r a b slashings_reset_step e) in
      record { finality = ap (λ (st : BeaconState). st.finality) h; validators = record { same = ap (λ (st : BeaconState). map epochs st.validators) h } }

  -- the first moves the checkpoints
  record Justifies : Type 0 where
    moved : CheckpointsMoved (current_epoch_of r a) a.altair.finality b.altair.finality
    validators : b.altair.validators ≡ a.altair.validators

justifies : (r : ElectraRules) (a b : ElectraState) → electra_step r a (kept justification_step) ≡ value b → Justifies r a b
unfolding limited_step get_current_epoch compute_epoch_at_slot
justifies r a b e =
    let h = bound _ _ (taken-over r a b justification_step e) in
    let same = value_same h.then in
    record {
      moved = subst (CheckpointsMoved (current_epoch_of r a) a.altair.finality) (ap (λ (st : BeaconState). st.finality) same) (justification-moves _ _ _ _ h.gave);
      validators = ap (λ (st : BeaconState). st.validators) (sym same);
    }

-- Slashings

slashed-epochs : (r : ElectraRules) (epoch penalty : ℕ) (v w : Validator) → slash r.settings epoch penalty v ≡ value w → epochs w ≡ epochs v
unfolding slash decrease_balance
slashed-epochs r epoch penalty v w e =
    let h = bound _ _ e in
    either (λ w. epochs w ≡ epochs v) h.first (λ p. ap epochs (sym (value_same (bound _ _ p).then))) (λ p. ap epochs (sym (value_same p))) h.then

slashings_keep : (r : ElectraRules) (a b : ElectraState) → electra_step r a slashings ≡ value b → Kept a.altair b.altair
unfolding electra_step process_slashings
slashings_keep r a b e =
    let h = bound _ _ e in
    let i = bound _ _ h.then in
    let j = bound _ _ i.then in
    let k = bound _ _ j.then in
    subst (λ (st : ElectraState). Kept a.altair st.altair) (value_same k.then)
    (record { finality = refl; validators = record { same = kept_map _ epochs (slashed-epochs r _ _) a.altair.validators k.gave } })

-- Pending deposits

abbrev Grown : Registry → Registry → Type 0
Grown a b = Grew a.validators b.validators

applied-grown : (r : ElectraRules) (reg : Registry) (deposit : PendingDeposit) {b : Registry} → apply_pending_deposit r reg deposit ≡ value b → Grown reg b
unfolding apply_pending_deposit add_validator_to_registry get_validator_from_deposit increase_balance
applied-grown r reg deposit {b} =
    either (Grown reg) (is_known reg deposit)
    (λ e.
    let h = bound _ _ e in
    let k = bound _ _ h.gave in
    let same = spared_set reg.validators (place_in reg deposit) h.first (ap epochs (sym (value_same k.then))) in
    subst (Grown reg) (value_same h.then) (grew_spared (record { same = same })))
    (λ e. subst (Grown reg) (value_same e) (added (eqb deposit.valid 1)))
  where
    added : (t : Bool) → Grown reg (cond t (add_validator_to_registry r reg deposit) reg)
    added true = grew_one reg.validators (get_validator_from_deposit r deposit) refl
    added false = grew_same refl

module _ (r : ElectraRules) (q : Queueing) where
  turn-grown : (p : Processing) (d : PendingDeposit) {b : Processing} → process_deposit r q p d ≡ value b → Grown p.registry b.registry
  unfolding process_deposit
  turn-grown p d =
      either Then (is_withdrawn q p.registry d) (applied p.processed_amount)
      (either Then (is_exited p.registry d) same
      (λ e. let h = bound _ _ e in either Then (ltb q.available h.first) same (applied h.first) h.then))
    where
      Then : Processing → Type 0
      Then b = Grown p.registry b.registry

      same : {n i : ℕ} {ds : List PendingDeposit} {t : Bool} {b : Processing}
          → ◌≡◌ {A = Checked Processing} (value (record { registry = p.registry; processed_amount = n; next_deposit_index = i; deposits_to_postpone = ds; is_churn_limit_reached = t })) (value b) → Then b
      same e = grew_same (ap (λ (b : Processing). b.registry.validators) (value_same e))

      applied : (n : ℕ) {b : Processing} → bind (apply_pending_deposit r p.registry d) (λ reg. value (moved_on reg n p.deposits_to_postpone p)) ≡ value b → Then b
      applied n e = let h = bound _ _ e in subst Then (value_same h.then) (applied-grown r p.registry d h.gave)

  deposits-grown : (ds : List PendingDeposit) (p : Processing) {b : Processing} → fold_until_checked (deposits_stop r q) (process_deposit r q) p ds ≡ value b → Grown p.registry b.registry
  unfolding fold_until_checked
  deposits-grown [] p = λ e. grew_same (ap (λ (b : Processing). b.registry.validators) (value_same e))
  deposits-grown (d ∷ ds) p =
      either (λ b. Grown p.registry b.registry) (deposits_stop r q p d)
      (λ e. grew_same (ap (λ (b : Processing). b.registry.validators) (value_same e)))
      (λ e. let h = bound _ _ e in grew_both (turn-grown p d h.gave) (deposits-grown ds h.first h.then))

-- a step that leaves finality
record Adds (a b : ElectraState) : Type 0 where
  finality : b.altair.finality ≡ a.altair.finality
  validators : Grew a.altair.validators b.altair.validators

deposits_add : (r : ElectraRules) (a b : ElectraState) → electra_step r a pending_deposits ≡ value b → Adds a b
unfolding electra_step process_pending_deposits
deposits_add r a b e =
    let h = bound _ _ e in
    let i = bound _ _ h.then in
    let j = bound _ _ i.then in
    subst (Adds a) (value_same j.then) (record { finality = refl; validators = deposits-grown r h.first a.pending_deposits _ i.gave })

-- Pending consolidations

merged_spared : (vs : List Validator) (c : PendingConsolidation) {ws : List Validator} → consolidate vs c ≡ value ws → map epochs ws ≡ map epochs vs
unfolding consolidate increase_balance decrease_balance
merged_spared vs c e =
    let h = bound _ _ e in
    let k = bound _ _ h.gave in
    let source = get_or vs c.source_index nobody in
    let less = decrease_balance source (consolidated_balance source) in
    ap (map epochs) (sym (value_same h.then))
    ∙ spared_set (set vs c.source_index less) c.target_index h.first (ap epochs (sym (value_same k.then)))
    ∙ spared_set vs c.source_index less refl

abbrev Merged : Consolidating → Consolidating → Type 0
Merged p q = map epochs q.validators ≡ map epochs p.validators

turn-merged : (p : Consolidating) (c : PendingConsolidation) {q : Consolidating} → process_consolidation p c ≡ value q → Merged p q
unfolding process_consolidation
turn-merged p c =
    either (Merged p) (is_slashed (get_or p.validators c.source_index nobody))
    (λ e. ap (λ (q : Consolidating). map epochs q.validators) (sym (value_same e)))
    (λ e. let h = bound _ _ e in ap (λ (q : Consolidating). map epochs q.validators) (sym (value_same h.then)) ∙ merged_spared p.validators c h.gave)

all-merged : (next : ℕ) (cs : List PendingConsolidation) (p : Consolidating) {q : Consolidating} → fold_until_checked (consolidations_stop next) process_consolidation p cs ≡ value q → Merged p q
unfolding fold_until_checked
all-merged next [] p = λ e. ap (λ (q : Consolidating). map epochs q.validators) (sym (value_same e))
all-merged next (c ∷ cs) p =
    either (Merged p) (consolidations_stop next p c) (λ e. ap (λ (q : Consolidating). map epochs q.validators) (sym (value_same e)))
    (λ e. let h = bound _ _ e in all-merged next cs h.first h.then ∙ turn-merged p c h.gave)

consolidations_keep : (r : ElectraRules) (a b : ElectraState) → electra_step r a pending_consolidations ≡ value b → Kept a.altair b.altair
unfolding electra_step process_pending_consolidations
consolidations_keep r a b e =
    let h = bound _ _ e in
    let i = bound _ _ h.then in
    subst (λ (st : ElectraState). Kept a.altair st.altair) (value_same i.then)
    (record { finality = refl; validators = record { same = all-merged h.first a.pending_consolidations _ i.gave } })

-- Effective balances: of those that have credentials

balanced-epochs : (r : ElectraRules) (c : ℕ) (v w : Validator) → update_effective_balance r c v ≡ value w → epochs w ≡ epochs v
unfolding update_effective_balance
balanced-epochs r c v w e =
    let h = bound _ _ e in
    let i = bound _ _ h.then in
    let j = bound _ _ i.then in
    either (λ w. epochs w ≡ epochs v) (ltb j.first v.effective_balance) (λ p. ap epochs (sym (value_same p)))
    (λ p. let k = bound _ _ p in ap epochs (sym (value_same k.then)) ∙ either-one (ltb k.first v.balance))
    j.then
  where
    rounded : ℕ
    rounded = min (v.balance - v.balance % r.settings.effective_balance_increment) (get_max_effective_balance r.electra c)

    either-one : (t : Bool) → epochs (cond t (with_effective_balance rounded v) v) ≡ epochs v
    either-one true = refl
    either-one false = refl

abbrev Cut : List Validator → List Validator → Type 0
Cut vs ws = map epochs ws ≡ take (length ws) (map epochs vs)

all-balanced : (r : ElectraRules) (cs : List ℕ) (vs : List Validator) {ws : List Validator} → update_effective_balances r cs vs ≡ value ws → Cut vs ws
unfolding update_effective_balances
all-balanced r [] [] e = subst (Cut []) (value_same e) refl
all-balanced r [] (v ∷ vs) e = subst (Cut (v ∷ vs)) (value_same e) refl
all-balanced r (c ∷ cs) [] e = subst (Cut []) (value_same e) refl
all-balanced r (c ∷ cs) (v ∷ vs) e =
    let h = bound _ _ e in
    let k = bound _ _ h.then in
    subst (Cut (v ∷ vs)) (value_same k.then) (ap₂ ◌∷◌ (balanced-epochs r c v h.first h.gave) (all-balanced r cs vs k.gave))

cut-then : (us : List Validator) {vs ws : List Validator} → Cut us vs → Spared vs ws → Cut us ws
cut-then us c a = a.same ∙ c ∙ ap (λ (n : ℕ). take n (map epochs us)) (sym (spared_number a))

module _ (us ws : List Validator) (c : Cut us ws) where
  cut_short : length ws ≤ length us
  cut_short = omega (arith, length-map ws epochs, ap length c, length-take (length ws) (map epochs us), length-map us epochs)

  cut_at : (i : ℕ) → i < length ws → at ws i ≡ at us i
  cut_at i l =
      sym (get_or-map epochs ws i nobody)
      ∙ ap (λ (xs : List (ℕ × ℕ)). get_or xs i (epochs nobody)) c
      ∙ get_or-take (length ws) (map epochs us) i (epochs nobody) l
      ∙ get_or-map epochs us i nobody

record Balances (a b : ElectraState) : Type 0 where
  finality : b.altair.finality ≡ a.altair.finality
  validators : Cut a.altair.validators b.altair.validators

balances-cut : (r : ElectraRules) (a b : ElectraState) → electra_step r a effective_balances ≡ value b → Balances a b
unfolding electra_step process_effective_balance_updates
balances-cut r a b e =
    let h = bound _ _ e in
    subst (Balances a) (value_same h.then) (record { finality = refl; validators = all-balanced r a.compounding a.altair.validators h.gave })

-- All ten

pub record Parts (r : ElectraRules) (a e : ElectraState) : Type 0 where
  pub moved : CheckpointsMoved (current_epoch_of r a) a.altair.finality e.altair.finality
  -- as the registry step finds the state and leaves it, and as the effective balances find the registry
  pub paid : ElectraState
  pub updated : ElectraState
  pub merged : List Validator
  pub before : Spared a.altair.validators paid.altair.validators
  pub reads : paid.altair.finality ≡ e.altair.finality
  pub visits : Visited (current_epoch_of r paid) (current_epoch_of r paid + 1 + r.settings.max_seed_lookahead) (finalized_epoch_of paid) 0 paid updated
  pub grows : Grew updated.altair.validators merged
  pub cut : Cut merged e.altair.validators

parts : (r : ElectraRules) (a : ElectraState) {e : ElectraState} → process_epoch r a ≡ value e → Parts r a e
unfolding process_epoch close_up_to fold_checked electra_step
parts r a p =
    let b1 = bound _ _ p in
    let b2 = bound _ _ b1.then in
    let b3 = bound _ _ b2.then in
    let b4 = bound _ _ b3.then in
    let b5 = bound _ _ b4.then in
    let b6 = bound _ _ b5.then in
    let b7 = bound _ _ b6.then in
    let b8 = bound _ _ b7.then in
    let b9 = bound _ _ b8.then in
    let b10 = bound _ _ b9.then in
    let justified = justifies r a b1.first b1.gave in
    let scored = inactivity-keeps r b1.first b2.first b2.gave in
    let paid = rewards_keep r b2.first b3.first b3.gave in
    let visits = registry-visited r b3.first b4.gave in
    let slashed = slashings_keep r b4.first b5.first b5.gave in
    let deposited = deposits_add r b5.first b6.first b6.gave in
    let merged = consolidations_keep r b6.first b7.first b7.gave in
    let balanced = balances-cut r b7.first b8.first b8.gave in
    let reset = reset-keeps r b8.first b9.first b9.gave in
    let rotated = rotation_keeps r b9.first b10.first b10.gave in
    let last = rotated.finality ∙ reset.finality ∙ balanced.finality ∙ merged.finality ∙ deposited.finality ∙ slashed.finality ∙ visits.finality in
    subst (Parts r a) (value_same b10.then)
    (record {
      moved = subst (CheckpointsMoved (current_epoch_of r a) a.altair.finality) (sym (last ∙ paid.finality ∙ scored.finality)) justified.moved;
      paid = b3.first;
      updated = b4.first;
      merged = b7.first.altair.validators;
      before = record { same = paid.validators.same ∙ scored.validators.same ∙ ap (map epochs) justified.validators };
      reads = sym last;
      visits = visits;
      grows = grew_both (grew_spared slashed.validators) (grew_both deposited.validators (grew_spared merged.validators));
      cut = cut-then b7.first.altair.validators (cut-then b7.first.altair.validators balanced.validators reset.validators) rotated.validators;
    })

-- So, of the opening and what the close made of it
pub record Onward (r : ElectraRules) (a e : ElectraState) : Type 0 where
  pub moved : Moved (current_epoch_of r a) a.altair.finality e.altair.finality
  pub old : (i : ℕ) → i < length a.altair.validators → i < length e.altair.validators
      → Became (current_epoch_of r a) (current_epoch_of r a + 1 + r.settings.max_seed_lookahead) (finalized_epoch_of e) (at a.altair.validators i) (at e.altair.validators i)
  pub new : (i : ℕ) → length a.altair.validators ≤ i → i < length e.altair.validators → at e.altair.validators i ≡ (FAR, FAR)

pub onward : (r : ElectraRules) (a : ElectraState) {e : ElectraState} → process_epoch r a ≡ value e → Onward r a e
onward r a {e} q = record { moved = p.moved.moved; old = old; new = new }
  where
    p : Parts r a e
    p = parts r a q

    same-epoch : current_epoch_of r p.paid ≡ current_epoch_of r a
    same-epoch = ap (get_current_epoch r.settings) (ap (λ (f : Finality). f.slot) p.reads ∙ p.moved.slot)

    number : length p.updated.altair.validators ≡ length a.altair.validators
    number = p.visits.number ∙ spared_number p.before

    old : (i : ℕ) → i < length a.altair.validators → i < length e.altair.validators
        → Became (current_epoch_of r a) (current_epoch_of r a + 1 + r.settings.max_seed_lookahead) (finalized_epoch_of e) (at a.altair.validators i) (at e.altair.validators i)
    old i l m =
        let b = p.visits.from i (omega (arith, l, spared_number p.before)) (omega arith) in
        let now = cut_at p.merged e.altair.validators p.cut i m ∙ p.grows.old i (omega (arith, l, number)) in
        subst₂ (λ (x f : ℕ). Became x (x + 1 + r.settings.max_seed_lookahead) f (at a.altair.validators i) (at e.altair.validators i)) same-epoch
        (ap (λ (f : Finality). f.finalized_checkpoint.epoch) p.reads)
        (subst₂ (Became (current_epoch_of r p.paid) (current_epoch_of r p.paid + 1 + r.settings.max_seed_lookahead) (finalized_epoch_of p.paid)) (spared_at p.before i) (sym now) b)

    new : (i : ℕ) → length a.altair.validators ≤ i → i < length e.altair.validators → at e.altair.validators i ≡ (FAR, FAR)
    new i l m =
        cut_at p.merged e.altair.validators p.cut i m
        ∙ p.grows.new i (omega (arith, l, number)) (omega (arith, m, cut_short p.merged e.altair.validators p.cut))

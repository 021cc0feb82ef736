-- The registry step, validator by validator: eligibility kept or written, then activation by rank.
use mathlib.Core.Path.{◌≡◌, refl, sym, ap, ◌∙◌, subst}
use mathlib.Core.Bool.{Bool, true, false, cond, ◌&&◌}
use mathlib.Core.List.{List}
use Prim.Native.Nat.{ℕ, zero, suc, ◌+◌, ◌≤◌, ◌<◌}
use native.Mathlib.Nat.{le-max_left}
use native.Mathlib.Decide.{ℕ_discrete}
use native.Mathlib.Omega.{arith}
use lib.Dec.{T, eqb, eqb→eq}
use lib.ListN.{length, get_or, set, length-set}
use lib.Seq.{get_or-set_same, get_or-set_other}
use Rattle.definitions.specs.declared.ActivationLimit.{ActivationLimit}
use Rattle.definitions.specs.declared.ActivationLimit.TheVariants.{Churn, AtMost}
use Rattle.definitions.specs.declared.Settings.{Settings}
use Rattle.definitions.specs.Lists.{range}
use Rattle.definitions.specs.Record.{Validator, nobody, FAR_FUTURE_EPOCH}
use Rattle.definitions.specs.Updates.{with_eligibility}
use Rattle.definitions.specs.Checked.{value, fold_checked}
use Rattle.definitions.specs.Document.Phase0.Helpers.{is_eligible_for_activation_queue}
use Rattle.definitions.specs.Document.Phase0.EpochProcessing.{queue_eligible, is_ejected, dequeued}
use Rattle.definitions.specs.Rust.Phase0.Helpers.{compute_activation_exit_epoch, get_current_epoch, get_validator_churn_limit, initiate_validator_exit}
use Rattle.definitions.specs.Rust.Phase0.EpochProcessing.{update_registry_at, activation_limit, limited_registry_updates}
use Rattle.laws.proofs.Checked.{value_same, bound, add64-value}
use Rattle.laws.proofs.Frame.Registry.{exit-writes}
use Rattle.history.proofs.Waiting.{eligibility_at, activation_at}
use Rattle.history.proofs.Shape.{Marked, Registered}
use Rattle.laws.proofs.Tests.{T_left}
use Rattle.history.proofs.Steps.{epochs, Spared, spared_given, spared_number, spared_eligibility, spared_activation}
use Rattle.laws.proofs.ActivationQueue.Dequeued.{length-dequeued}
use Rattle.history.proofs.Queue.{dequeued-eligibility, dequeued-activation}
use Rattle.laws.proofs.Tests.{either}

-- the loop's turn at i: that entry's eligibility epoch is kept or written
record Turned (e i : ℕ) (vs ws : List Validator) : Type 0 where
  number : length ws ≡ length vs
  marked : Marked e (eligibility_at vs i) (eligibility_at ws i)
  others : (j : ℕ) → (j ≡ i → ⊥) → eligibility_at ws j ≡ eligibility_at vs j
  activation : (j : ℕ) → activation_at ws j ≡ activation_at vs j

turned_spared : {e i : ℕ} {vs us ws : List Validator} → Turned e i vs us → Spared us ws → Turned e i vs ws
turned_spared {e} {i} {vs} t a =
    record {
      number = spared_number a ∙ t.number;
      marked = subst (Marked e (eligibility_at vs i)) (sym (spared_eligibility a i)) t.marked;
      others = λ j d. spared_eligibility a j ∙ t.others j d;
      activation = λ j. spared_activation a j ∙ t.activation j;
    }

eligible-marked : (s : Settings) (e : ℕ) (v : Validator) → Marked e v.activation_eligibility_epoch (queue_eligible s e v).activation_eligibility_epoch
unfolding queue_eligible is_eligible_for_activation_queue
eligible-marked s e v = go (eqb x FAR_FUTURE_EPOCH && b) (λ t. eqb→eq x FAR_FUTURE_EPOCH (T_left (eqb x FAR_FUTURE_EPOCH) b t))
  where
    x : ℕ
    x = v.activation_eligibility_epoch

    b : Bool
    b = eqb v.effective_balance s.max_effective_balance

    go : (c : Bool) → (T c → x ≡ FAR_FUTURE_EPOCH) → Marked e x (cond c (with_eligibility (e + 1) v) v).activation_eligibility_epoch
    go true h = Marked.written (h tt) refl
    go false h = Marked.same refl

eligible-activation : (s : Settings) (e : ℕ) (v : Validator) → (queue_eligible s e v).activation_epoch ≡ v.activation_epoch
unfolding queue_eligible
eligible-activation s e v = go (is_eligible_for_activation_queue s v)
  where
    go : (b : Bool) → (cond b (with_eligibility (e + 1) v) v).activation_epoch ≡ v.activation_epoch
    go true = refl
    go false = refl

turned-eligible : (s : Settings) (e i : ℕ) (vs : List Validator) → i < length vs → Turned e i vs (set vs i (queue_eligible s e (get_or vs i nobody)))
turned-eligible s e i vs l =
    record {
      number = length-set vs i v;
      marked = subst (λ (w : Validator). Marked e (eligibility_at vs i) w.activation_eligibility_epoch) (sym at_i) (eligible-marked s e (get_or vs i nobody));
      others = λ j d. ap (λ (w : Validator). w.activation_eligibility_epoch) (get_or-set_other vs i j v nobody d);
      activation = λ j. activation j (ℕ_discrete j i);
    }
  where
    v : Validator
    v = queue_eligible s e (get_or vs i nobody)

    at_i : get_or (set vs i v) i nobody ≡ v
    at_i = get_or-set_same vs i v nobody l

    activation : (j : ℕ) → Dec (j ≡ i) → activation_at (set vs i v) j ≡ activation_at vs j
    activation j (yes p) = subst (λ (x : ℕ). activation_at (set vs i v) x ≡ activation_at vs x) (sym p) (ap (λ (w : Validator). w.activation_epoch) at_i ∙ eligible-activation s e (get_or vs i nobody))
    activation j (no d) = ap (λ (w : Validator). w.activation_epoch) (get_or-set_other vs i j v nobody d)

-- an exit spares both epochs
exit_spares : (s : Settings) (state_slot : ℕ) (vs : List Validator) (i : ℕ) {ws : List Validator} → initiate_validator_exit s state_slot vs i ≡ value ws → Spared vs ws
exit_spares s state_slot vs i p = record { same = exit-writes epochs (λ exit withdrawable v. refl) s state_slot vs i p }

turn-turned : (s : Settings) (state_slot : ℕ) (vs : List Validator) (i : ℕ) {ws : List Validator} → i < length vs → update_registry_at s state_slot vs i ≡ value ws → Turned (get_current_epoch s state_slot) i vs ws
unfolding update_registry_at
turn-turned s state_slot vs i {ws} l p = turned_spared (turned-eligible s e i vs l) (either (Spared queued) (is_ejected s e (get_or queued i nobody)) (exit_spares s state_slot queued i) spared_given p)
  where
    e : ℕ
    e = get_current_epoch s state_slot

    queued : List Validator
    queued = set vs i (queue_eligible s e (get_or vs i nobody))

-- the loop from k on
pub record Visited (e k : ℕ) (vs ws : List Validator) : Type 0 where
  pub number : length ws ≡ length vs
  pub before : (i : ℕ) → i < k → eligibility_at ws i ≡ eligibility_at vs i
  pub from : (i : ℕ) → i < length vs → k ≤ i → Marked e (eligibility_at vs i) (eligibility_at ws i)
  pub activation : (i : ℕ) → activation_at ws i ≡ activation_at vs i

visited : (s : Settings) (state_slot n k : ℕ) (vs : List Validator) {ws : List Validator} → n + k ≡ length vs → fold_checked (update_registry_at s state_slot) vs (range k n) ≡ value ws → Visited (get_current_epoch s state_slot) k vs ws
unfolding fold_checked range
visited s state_slot zero k vs {ws} l p =
    let q = value_same p in
    record {
      number = sym (ap length q);
      before = λ i a. sym (ap (λ (us : List Validator). eligibility_at us i) q);
      from = λ i a b. absurd (omega arith);
      activation = λ i. sym (ap (λ (us : List Validator). activation_at us i) q);
    }
visited s state_slot (suc n) k vs {ws} l p =
    let a = bound _ _ p in
    let t = turn-turned s state_slot vs k (omega arith) a.gave in
    on a.first t (visited s state_slot n (suc k) a.first (omega (arith, l, t.number)) a.then)
  where
    e : ℕ
    e = get_current_epoch s state_slot

    on : (us : List Validator) → Turned e k vs us → Visited e (suc k) us ws → Visited e k vs ws
    on us t v =
        record {
          number = v.number ∙ t.number;
          before = λ i a. v.before i (omega arith) ∙ t.others i (λ x. absurd (omega arith));
          from = λ i a b. from i a b (ℕ_discrete i k);
          activation = λ i. v.activation i ∙ t.activation i;
        }
      where
        from : (i : ℕ) → i < length vs → k ≤ i → Dec (i ≡ k) → Marked e (eligibility_at vs i) (eligibility_at ws i)
        from i a b (yes x) =
            subst (Marked e (eligibility_at vs i)) (sym (v.before i (omega arith)))
            (subst (λ (y : ℕ). Marked e (eligibility_at vs y) (eligibility_at us y)) (sym x) t.marked)
        from i a b (no x) =
            subst (λ (y : ℕ). Marked e y (eligibility_at ws i)) (t.others i x) (v.from i (omega (arith, a, t.number)) (omega arith))

-- the step: the loop to `queue`, then the activations
pub record Updated (limit : ActivationLimit) (s : Settings) (state_slot finalized_epoch : ℕ) (vs ws : List Validator) : Type 0 where
  pub queue : List Validator
  pub visits : Visited (get_current_epoch s state_slot) 0 vs queue
  pub activates : dequeued (get_current_epoch s state_slot + 1 + s.max_seed_lookahead) (activation_limit limit (get_validator_churn_limit s state_slot queue)) finalized_epoch queue ≡ ws

pub registry-updates : (limit : ActivationLimit) (s : Settings) (state_slot finalized_epoch : ℕ) (vs : List Validator) {ws : List Validator} → limited_registry_updates limit s state_slot finalized_epoch vs ≡ value ws → Updated limit s state_slot finalized_epoch vs ws
unfolding limited_registry_updates compute_activation_exit_epoch
registry-updates limit s state_slot finalized_epoch vs p =
    let a = bound _ _ p in
    let b = bound _ _ a.then in
    let c = bound _ _ b.gave in
    record {
      queue = a.first;
      visits = visited s state_slot (length vs) 0 vs (omega arith) a.gave;
      activates = ap (λ (to : ℕ). dequeued to (activation_limit limit (get_validator_churn_limit s state_slot a.first)) finalized_epoch a.first) (ap (λ (x : ℕ). x + s.max_seed_lookahead) (add64-value _ _ c.gave) ∙ add64-value _ _ c.then) ∙ value_same b.then;
    }

pub churn-enough : (s : Settings) (state_slot : ℕ) (vs : List Validator) → s.min_per_epoch_churn_limit ≤ get_validator_churn_limit s state_slot vs
unfolding get_validator_churn_limit
churn-enough s state_slot vs = le-max_left _ _

-- a smaller churn limit lets in no more
pub limit-grows : (limit : ActivationLimit) {a b : ℕ} → a ≤ b → activation_limit limit a ≤ activation_limit limit b
limit-grows Churn h = h
limit-grows (AtMost maximum) h = omega (arith, h)

-- the registry over the whole close: steps that spare it, the registry step, and steps that spare it
pub registered : {limit : ActivationLimit} {s : Settings} {state_slot f : ℕ} {vs us ws xs : List Validator} → Spared vs us → (b : Updated limit s state_slot f us ws) → Spared ws xs → Registered (get_current_epoch s state_slot) (get_current_epoch s state_slot + 1 + s.max_seed_lookahead) (activation_limit limit (get_validator_churn_limit s state_slot b.queue)) f vs b.queue xs
registered {limit} {s} {state_slot} {f} {vs} {us} {ws} {xs} a b c =
    record {
      queue-number = n;
      queue-eligibility = λ i l. subst (λ (x : ℕ). Marked e x (eligibility_at queue i)) (spared_eligibility a i) (b.visits.from i (omega (arith, l, spared_number a)) (omega arith));
      queue-activation = λ i l. b.visits.activation i ∙ spared_activation a i;
      number = spared_number c ∙ ap length (sym b.activates) ∙ length-dequeued to churn f queue ∙ n;
      eligibility = λ i l. spared_eligibility c i ∙ ap (λ (zs : List Validator). eligibility_at zs i) (sym b.activates) ∙ dequeued-eligibility to churn f queue i (omega (arith, l, n));
      activation = λ i l. spared_activation c i ∙ ap (λ (zs : List Validator). activation_at zs i) (sym b.activates) ∙ dequeued-activation to churn f queue i (omega (arith, l, n));
    }
  where
    e : ℕ
    e = get_current_epoch s state_slot

    to : ℕ
    to = e + 1 + s.max_seed_lookahead

    queue : List Validator
    queue = b.queue

    churn : ℕ
    churn = activation_limit limit (get_validator_churn_limit s state_slot queue)

    n : length queue ≡ length vs
    n = b.visits.number ∙ spared_number a

-- From the step's run to what the call answers and its buffers hold.
use mathlib.Core.Path.{◌≡◌, refl, sym, ap, ◌∙◌}
use mathlib.Core.List.{List, []}
use Prim.Native.Nat.{ℕ, ◌≤◌}
use native.Mathlib.Omega.{arith}
use lib.ListN.{length, drop_of_length-le}
use Rattle.definitions.specs.Record.{FAR_FUTURE_EPOCH, decode}
use Rattle.definitions.specs.Checked.{Checked, value, refused, bind}
use Rattle.definitions.specs.declared.Refusal.{Refusal}
use Rattle.definitions.specs.Refusals.{after_tests, closing_buffer}
use Rattle.definitions.specs.Rust.Phase0.Helpers.{compute_start_slot_at_epoch}
use Rattle.laws.proofs.Checked.{not_value, value_same, bind-bind, bound, add64-value, add64-below}
use Rattle.arithmetic.proofs.Operations.{OnlyOverflow, only-value, only-add64, only-mul64, only-bind}
use Rattle.arithmetic.proofs.Laws.{bind-refused}
use Rattle.refusals.proofs.Answers.{after-refused, closing-untouched}
use Rattle.electra_registry.proofs.Limits.{only-limit}
use Rattle.definitions_electra.specs.declared.ElectraRules.{ElectraRules}
use Rattle.definitions_electra.specs.declared.DepositNumbers.{DepositNumbers}
use Rattle.definitions_electra.specs.declared.DepositsAnswer.{DepositsAnswer}
use Rattle.definitions_electra.specs.declared.PendingDeposit.{PendingDeposit}
use Rattle.definitions_electra.specs.Record.{Registry, ElectraState, with_deposits, decode_deposits, encode_deposits}
use Rattle.definitions_electra.specs.Refusals.{keys_shaped}
use Rattle.definitions_electra.specs.Calls.{lent_finality, no_churn, lent_state, over, registry_in, deposits_work, deposits_answer, DepositsClose}
use Rattle.definitions_electra.specs.Document.Electra.Helpers.{get_max_effective_balance}
use Rattle.definitions_electra.specs.Document.Electra.EpochProcessing.{Queueing, get_validator_from_deposit, add_validator_to_registry, breaks_before, deposits_stop}
use Rattle.definitions_electra.specs.Evaluated.Electra.EpochProcessing.{apply_pending_deposit, process_deposit, queueing, process_pending_deposits}
use Rattle.electra_refusals.proofs.Passed.{DepositsPassed}
use Rattle.electra_deposits.specs.declared.adding.NewNumbers.{NewNumbers}
use Rattle.electra_deposits.specs.declared.QueueNumbers.{QueueNumbers}
use Rattle.electra_deposits.specs.Alone.{queueing_of}
use Rattle.electra_deposits.specs.Room.{rules_by, keyed}
use Rattle.electra_deposits.specs.Step.{numbers_by, new_of, answer_of, as_opened, lent_for, lent_registry, Lent, text_by, Left, left_by, step_by, Ends, Runs}
use Rattle.laws_electra.proofs.Cases.{bind-given}
use Rattle.electra_deposits.proofs.Alike.{first-refused}

-- What the loop goes by

pub only-queueing : (r : ElectraRules) (st : ElectraState) → OnlyOverflow (queueing r st)
unfolding queueing compute_start_slot_at_epoch
only-queueing r st =
    only-bind (only-add64 _ _) (λ next. only-bind (only-limit _ _ _) (λ limit. only-bind (only-add64 _ _) (λ a. only-bind (only-mul64 _ _) (λ f. only-value _))))

-- the next epoch is a number of 64 bits
pub next-far : (r : ElectraRules) (st : ElectraState) {q : Queueing} → queueing r st ≡ value q → q.next_epoch ≤ FAR_FUTURE_EPOCH
unfolding queueing
next-far r st e =
    let b = bound _ _ e in
    let c = bound _ _ b.then in
    let d = bound _ _ c.then in
    let f = bound _ _ d.then in
    let z = ap (λ (x : Queueing). x.next_epoch) (value_same f.then) in
    omega (arith, z, add64-value _ _ b.gave, add64-below _ _ b.gave)

pub record Given (most : ℕ) (m : Checked Queueing) (n : QueueNumbers) : Type 0 where
  pub is : m ≡ value (queueing_of n)
  pub last : n.most ≡ most

module _ (most : ℕ) {m : Checked Queueing} {a : Checked QueueNumbers} (h : a ≡ bind m (λ q. value (numbers_by most q))) where
  pub queue-given : {n : QueueNumbers} → a ≡ value n → Given most m n
  queue-given {n} e =
      let b = bound m (λ q. value (numbers_by most q)) (sym h ∙ e) in
      let w : numbers_by most b.first ≡ n = value_same b.then in
      record { is = b.gave ∙ ap value (ap queueing_of w); last = ap (λ (y : QueueNumbers). y.most) (sym w) }

  pub queue-over : {p : Refusal} → a ≡ refused p → m ≡ refused p
  queue-over e = first-refused m (numbers_by most) (sym h ∙ e)

-- The rules by the numbers that the loop reads

pub rules-same : (r : ElectraRules) (q : Queueing) (reg : Registry) (ds : List PendingDeposit) → text_by (rules_by (new_of r) r.electra.max_pending_deposits_per_epoch) q reg ds ≡ text_by r q reg ds
unfolding text_by deposits_stop breaks_before process_deposit apply_pending_deposit add_validator_to_registry get_validator_from_deposit get_max_effective_balance
rules-same r q reg ds = refl

module _ (r : ElectraRules) (state_slot finalized_epoch : ℕ) (numbers : DepositNumbers) (registry compounding deposits : List ℕ) where
  abbrev state : ElectraState
  state = lent_state (lent_finality state_slot finalized_epoch) (decode registry) [] compounding no_churn numbers (decode_deposits deposits) []

  -- the text's step is the run's, put into the state
  work-is : deposits_work r state_slot finalized_epoch numbers registry compounding deposits ≡ bind (step_by r state_slot finalized_epoch numbers registry compounding deposits) (λ l. value (with_deposits l.registry l.to_consume l.queue state))
  unfolding deposits_work process_pending_deposits step_by left_by text_by queueing
  work-is = simp (bind-bind, bind-given)

  refused-step : {p : Refusal} → queueing r (lent_for state_slot finalized_epoch numbers registry) ≡ refused p → step_by r state_slot finalized_epoch numbers registry compounding deposits ≡ refused p
  unfolding step_by bind
  refused-step e = rw e

  module _ {a : Checked QueueNumbers} (h : a ≡ bind (queueing r (lent_for state_slot finalized_epoch numbers registry)) (λ q. value (numbers_by r.electra.max_pending_deposits_per_epoch q))) where
    pub step-over : {p : Refusal} {s : Checked DepositsAnswer} → a ≡ refused p → s ≡ refused p → {xs cs ds : List ℕ} → Runs (step_by r state_slot finalized_epoch numbers registry compounding deposits) registry compounding xs cs ds xs cs ds s
    step-over e k =
        let g = refused-step (queue-over r.electra.max_pending_deposits_per_epoch h e) in
        record { is = k ∙ sym (bind-refused _ g); ends = λ l t. absurd (not_value (sym g ∙ t)); back = λ p o. refl; back_too = λ p o. refl }

    pub step_run : {q : QueueNumbers} {k : NewNumbers} → a ≡ value q → k ≡ new_of r → {xs₀ cs₀ ds₀ xs cs ds : List ℕ} {b : Checked DepositsAnswer} → Runs (left_by (rules_by k q.most) (queueing_of q) (lent_registry registry compounding) (decode_deposits deposits)) registry compounding xs₀ cs₀ ds₀ xs cs ds b → Runs (step_by r state_slot finalized_epoch numbers registry compounding deposits) registry compounding xs₀ cs₀ ds₀ xs cs ds b
    unfolding step_by left_by bind
    step_run {q} {k} e f t =
        let g = queue-given r.electra.max_pending_deposits_per_epoch h e in
        let same = rules-same r (queueing_of q) (lent_registry registry compounding) (decode_deposits deposits) in
        let u = rw (f, g.last, same) at t in
        rw g.is u

  -- What is answered, and what the buffers hold
  module _ {xs₀ cs₀ ds₀ xs cs ds : List ℕ} {b : Checked DepositsAnswer} (h : Runs (step_by r state_slot finalized_epoch numbers registry compounding deposits) registry compounding xs₀ cs₀ ds₀ xs cs ds b) where
    work-given : {l : Left} → step_by r state_slot finalized_epoch numbers registry compounding deposits ≡ value l → deposits_work r state_slot finalized_epoch numbers registry compounding deposits ≡ value (with_deposits l.registry l.to_consume l.queue state)
    unfolding bind
    work-given e = work-is ∙ rw e

    work-refused : {p : Refusal} → step_by r state_slot finalized_epoch numbers registry compounding deposits ≡ refused p → deposits_work r state_slot finalized_epoch numbers registry compounding deposits ≡ refused p
    unfolding bind
    work-refused e = work-is ∙ rw e

    given : (l : Left) {a : DepositsAnswer} → Ends l xs₀ cs₀ ds₀ xs cs ds → a ≡ answer_of l → DepositsClose (value tt) (value (with_deposits l.registry l.to_consume l.queue state)) numbers registry compounding deposits xs₀ xs cs₀ cs ds₀ ds a
    unfolding after_tests bind closing_buffer deposits_answer
    given l e k = record { answer = k; validators = e.registry; credentials = e.compounding; queue = e.queue }

    pub close-done : {a : DepositsAnswer} → b ≡ value a → DepositsClose (value tt) (deposits_work r state_slot finalized_epoch numbers registry compounding deposits) numbers registry compounding deposits xs₀ xs cs₀ cs ds₀ ds a
    close-done z =
        let o = bound (step_by r state_slot finalized_epoch numbers registry compounding deposits) (λ l. value (answer_of l)) (sym h.is ∙ z) in
        rw (work-given o.gave) (given o.first (h.ends o.first o.gave) (value_same (sym o.then)))

    put_back : (p : Refusal) {ys es fs : List ℕ} → over registry xs ≡ over registry xs₀ → over compounding cs ≡ over compounding cs₀ → ys ≡ over registry xs → es ≡ over compounding cs → fs ≡ over deposits ds → length ds ≡ length deposits → length ds₀ ≡ length deposits → DepositsClose (value tt) (refused p) numbers registry compounding deposits xs₀ ys cs₀ es ds₀ fs (as_opened p numbers registry deposits)
    unfolding after_tests bind closing_buffer deposits_answer
    put_back p back back_too f g i l m =
        let le : length ds ≤ length deposits = omega arith in
        let le₀ : length ds₀ ≤ length deposits = omega arith in
        record { answer = refl; validators = f ∙ back; credentials = g ∙ back_too; queue = i ∙ rw (drop_of_length-le ds le, drop_of_length-le ds₀ le₀) }

    pub close-back : {p : Refusal} → b ≡ refused p → {ys es fs : List ℕ} → ys ≡ over registry xs → es ≡ over compounding cs → fs ≡ over deposits ds → length ds ≡ length deposits → length ds₀ ≡ length deposits → DepositsClose (value tt) (deposits_work r state_slot finalized_epoch numbers registry compounding deposits) numbers registry compounding deposits xs₀ ys cs₀ es ds₀ fs (as_opened p numbers registry deposits)
    close-back {p} z f g i l m =
        let o = first-refused (step_by r state_slot finalized_epoch numbers registry compounding deposits) answer_of (sym h.is ∙ z) in
        rw (work-refused o) (put_back p (h.back p z) (h.back_too p z) f g i l m)

-- The tests

pub lent : {r : ElectraRules} {state_slot finalized_epoch : ℕ} {registry compounding deposits closing_registry closing_compounding closing_deposits places : List ℕ} → DepositsPassed r state_slot finalized_epoch registry compounding deposits closing_registry closing_compounding closing_deposits places → Lent registry compounding deposits closing_registry closing_compounding places
unfolding keys_shaped keyed
lent p =
    record {
      tens = p.shape.long;
      credentials = p.credentials;
      fives = p.queue.long;
      keys = p.keys;
      room = omega (arith, p.roomy_registry, p.roomy_compounding);
      room_too = p.roomy_compounding;
      table = p.places;
    }

module _ (tests : Checked (Unit {0})) (work : Checked ElectraState) (numbers : DepositNumbers) (registry compounding deposits : List ℕ) {x : Checked (Unit {0})} (e : x ≡ tests) where
  pub tests-refused : {p : Refusal} → x ≡ refused p → (xs cs ds : List ℕ) → DepositsClose tests work numbers registry compounding deposits xs xs cs cs ds ds (as_opened p numbers registry deposits)
  unfolding deposits_answer
  tests-refused z xs cs ds =
      record {
        answer = ap (λ (m : Checked ElectraState). deposits_answer m numbers registry deposits) (sym (after-refused tests work e z));
        validators = sym (closing-untouched (λ st. over (registry_in st) xs) tests work (over registry xs) xs e z);
        credentials = sym (closing-untouched (λ st. over st.compounding cs) tests work (over compounding cs) cs e z);
        queue = sym (closing-untouched (λ st. over (encode_deposits st.pending_deposits) ds) tests work (over deposits ds) ds e z);
      }

  pub tests-passed : x ≡ value tt → {xs₀ xs cs₀ cs ds₀ ds : List ℕ} {b : DepositsAnswer} → DepositsClose (value tt) work numbers registry compounding deposits xs₀ xs cs₀ cs ds₀ ds b → DepositsClose tests work numbers registry compounding deposits xs₀ xs cs₀ cs ds₀ ds b
  tests-passed z h = rw (sym e ∙ z) h

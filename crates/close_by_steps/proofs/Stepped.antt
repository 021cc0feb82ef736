-- The tests once passed, and the calls as the definition has them.
use Rattle.laws.proofs.Tests.{record_fewer}
use mathlib.Core.Path.{◌≡◌, refl, sym, ap, ◌∙◌, subst}
use mathlib.Core.Bool.{Bool, true, false, cond}
use mathlib.Core.List.{List, [], ◌∷◌}
use Prim.Native.Nat.{ℕ, ◌+◌, ◌*◌, ◌/◌, ◌≤◌, ◌<◌}
use native.Mathlib.Omega.{arith}
use borrow.Author.Tests.{eq-eqb, ne_eqb, eqb-true, le-leb, lt-leb}
use lib.Dec.{eqb}
use lib.ListN.{length, replicate}
use Rattle.definitions.specs.declared.Settings.{Settings}
use Rattle.definitions.specs.declared.ActivationLimit.TheVariants.{Churn}
use Rattle.definitions.specs.declared.Finality.{Finality}
use Rattle.definitions.specs.declared.FullAnswer.{FullAnswer}
use Rattle.definitions.specs.Lists.{all, every}
use Rattle.definitions.specs.Record.{BeaconState, decode}
use Rattle.definitions.specs.Checked.{number_of, Checked, value, refused, bind, code_of, settle}
use Rattle.definitions.specs.declared.Refusal.{Refusal}
use Rattle.definitions.specs.declared.Refusal.TheVariants.{BadShape, WrongQueue}
use Rattle.definitions.specs.ExitQueue.{queue_of, is_queue_of, queue_test}
use Rattle.definitions.specs.Raised.{was_raised, raised_totals}
use Rattle.definitions.specs.Refusals.{in_order, settings_shaped, good_settings, good_validator, registry_shaped, roots_shaped, good_finality, good_registry, justification_tests, after_tests, closing_buffer}
use Rattle.definitions.specs.Rust.Altair.EpochProcessing.{process_justification_and_finalization}
use Rattle.definitions.specs.Rust.Phase0.Helpers.{compute_epoch_at_slot, get_current_epoch, get_previous_epoch}
use Rattle.definitions.specs.Rust.Altair.Helpers.{get_unslashed_participating_indices}
use Rattle.definitions.specs.Close.{step, limited_step, Call, close_tests, limited_tests}
use Rattle.definitions_close.specs.Amounts.{amounts_shaped}
use Rattle.definitions_close.specs.FinalizingTest.{finalizing_test}
use Rattle.definitions_close.specs.FullClose.{FullCall, full_tests, limited_full_tests, settings_of}
use Rattle.definitions_close.specs.declared.Running.{Running}
use Rattle.definitions_close.specs.CloseBySteps.{StepCall, StepOutcome, in_turn, so_far, found, step_tests, step_after, stepped, amounts_by, stepped_amounts, ended_by, goes_on, running_after, unwritten, turned_away, step_in_turn, close_step}
use Rattle.laws.proofs.Checked.{not_value, number_not_zero, bound, checked_value}
use Rattle.laws.proofs.Encode.{encode-decode}
use Rattle.laws.proofs.Rules.{by-fork}
use Rattle.close.specs.Worked.{record_tests, limited_record_tests}
use Rattle.close.proofs.Lent.{lent}
use Rattle.laws_close.proofs.Passed.{full-passed}
use Rattle.definitions_close.specs.declared.RunningAnswer.{RunningAnswer}
use Rattle.close_by_steps.specs.Called.{step_called, ended_answer, first_by, later_by, later_of}
use Rattle.definitions_close.specs.Calls.{step_outcome}
use Rattle.close_by_steps.specs.Ready.{Ready}
use Rattle.close_by_steps.specs.Stepped.{FirstCalled, LaterCalled}
use Rattle.laws.proofs.Checked.{settled-buffer}
use Rattle.registry_close.specs.Worked.{state_now}
use Rattle.laws.proofs.Queue.{is-queue}

shaped-bind : (t : Bool) {m : Checked (Unit {0})} → cond t m (refused BadShape) ≡ value tt → m ≡ value tt
shaped-bind true e = e
shaped-bind false e = absurd (not_value e)

parts : (c : FullCall) → full_tests c ≡ value tt → (close_tests c.call ≡ value tt) × (queue_test c.queue (decode c.call.registry) ≡ value tt)
unfolding limited_full_tests
parts c t =
    let w = shaped-bind (amounts_shaped c.call.registry c.amounts) t in
    let b = bound (close_tests c.call) (λ _. queue_test c.queue (decode c.call.registry)) w in
    (b.gave, b.then)

no-code : (m : Checked (Unit {0})) → code_of m ≡ 0 → m ≡ value tt
no-code (value u) e = refl
no-code (refused r) e = absurd (number_not_zero r e)

record_passed : (c : Call) → close_tests c ≡ value tt → record_tests c ≡ value tt
unfolding limited_tests limited_record_tests
record_passed c t = no-code _ (record_fewer _ _ (good_finality c.finality ∷ []) (good_registry c.registry ∷ []) t)

pair_is : (c : FullCall) → queue_test c.queue (decode c.call.registry) ≡ value tt → c.queue ≡ queue_of (decode c.call.registry)
unfolding queue_test
pair_is c t = is-queue c.queue (decode c.call.registry) (checked_value WrongQueue (is_queue_of c.queue (decode c.call.registry)) t).0

justifying : (s : Settings) (roots : List ℕ) (f : Finality) (registry : List ℕ) → settings_shaped s ≡ true → roots_shaped s roots ≡ true → registry_shaped registry ≡ true → good_settings s ≡ true → good_finality f ≡ true → all good_validator (decode registry) ≡ true → justification_tests s roots f registry ≡ value tt
unfolding justification_tests in_order good_registry every
justifying s roots f registry a b d e g h = rw (a, b, d, e, g, h)

pub ready : (c : FullCall) {x : Checked (Unit {0})} → x ≡ full_tests c → x ≡ value tt → Ready (settings_of c) c.call.finality c.queue c.call.registry c.call.slashings c.call.roots c.call.closing_registry c.call.closing_slashings c.amounts
ready c {x} e z =
    let t = sym e ∙ z in
    let p = full-passed c t in
    let b = parts c t in
    let k = lent Churn c.call refl (record_passed c.call b.0) in
    let roots : roots_shaped (settings_of c) c.call.roots ≡ true = by-fork c.call.rules (λ t. roots_shaped t c.call.roots ≡ true) p.roots p.roots in
    record {
      opening = k.opening;
      justifies = justifying (settings_of c) c.call.roots c.call.finality c.call.registry k.opening.settings.shaped roots p.registry_shape k.opening.settings.good p.finality p.validators;
      registry_same = k.closing_registry;
      slashings_same = k.closing_slashings;
      amounts = p.amounts;
      queue = pair_is c b.1;
    }

-- The first call

raised-under : (c : FullCall) → raised_totals (settings_of c) c.call.finality.slot (decode c.call.registry) ≡ raised_totals c.call.rules.settings c.call.finality.slot (decode c.call.registry)
unfolding raised_totals was_raised get_current_epoch get_previous_epoch compute_epoch_at_slot get_unslashed_participating_indices
raised-under c = by-fork c.call.rules (λ t. raised_totals t c.call.finality.slot (decode c.call.registry) ≡ raised_totals c.call.rules.settings c.call.finality.slot (decode c.call.registry)) refl refl

test-under : (c : FullCall) (g : Finality) → finalizing_test (settings_of c) c.call.finality (value g) ≡ finalizing_test c.call.rules.settings c.call.finality (value g)
unfolding finalizing_test get_current_epoch compute_epoch_at_slot
test-under c g = by-fork c.call.rules (λ t. finalizing_test t c.call.finality (value g) ≡ finalizing_test c.call.rules.settings c.call.finality (value g)) refl refl

module _ (c : FullCall) (number : ℕ) (a : FullAnswer) (k : ℕ) where
  abbrev begun : Running
  begun = record { done = 0; answer = a; orders = k }

  abbrev m : Checked Finality
  m = process_justification_and_finalization (settings_of c) c.call.roots c.call.finality (decode c.call.registry)

  first-value : {g : Finality} → m ≡ value g → full_tests c ≡ value tt → length c.call.registry ≡ 10 * (length c.call.registry / 10) → c.queue ≡ queue_of (decode c.call.registry) → first_by (settings_of c) c.call.finality c.queue c.call.registry c.call.slashings c.amounts (value g) ≡ step_in_turn (step_called number begun c)
  unfolding step_in_turn step_tests found stepped stepped_amounts running_after after_tests closing_buffer bind limited_step amounts_by first_by goes_on
  first-value {g} e t long q = rw (t, e, encode-decode (length c.call.registry / 10) c.call.registry long, raised-under c, test-under c g, q)

  first-refused : {r : Refusal} → m ≡ refused r → full_tests c ≡ value tt → first_by (settings_of c) c.call.finality c.queue c.call.registry c.call.slashings c.amounts (refused r) ≡ step_in_turn (step_called number begun c)
  unfolding step_in_turn step_tests found stepped stepped_amounts running_after after_tests closing_buffer bind limited_step amounts_by first_by ended_by
  first-refused e t = rw (t, e)

  first-at : full_tests c ≡ value tt → length c.call.registry ≡ 10 * (length c.call.registry / 10) → c.queue ≡ queue_of (decode c.call.registry) → first_by (settings_of c) c.call.finality c.queue c.call.registry c.call.slashings c.amounts m ≡ step_in_turn (step_called number begun c)
  first-at t long q = go m refl
    where
      go : (w : Checked Finality) → m ≡ w → first_by (settings_of c) c.call.finality c.queue c.call.registry c.call.slashings c.amounts w ≡ step_in_turn (step_called number begun c)
      go (value g) e = first-value e t long q
      go (refused r) e = first-refused e t

  first-turned : {r : Refusal} → full_tests c ≡ refused r → step_outcome (ended_answer (number_of r) c.call.finality c.queue 0) c.call.closing_registry c.call.closing_slashings c.amounts ≡ step_in_turn (step_called number begun c)
  unfolding step_in_turn step_tests found running_after after_tests closing_buffer bind ended_by
  first-turned t = rw t

at_zero : (P : Running → Type 0) (running : Running) → running.done ≡ 0 → P (record { done = 0; answer = running.answer; orders = running.orders }) → P running
at_zero P running d h = subst (λ (n : ℕ). P (record { done = n; answer = running.answer; orders = running.orders })) (sym d) h

pub first_ends : (c : FullCall) {x : Checked (Unit {0})} → x ≡ full_tests c → {p : Refusal} → x ≡ refused p → {n : ℕ} → n ≡ number_of p → {answer : RunningAnswer} → answer ≡ ended_answer n c.call.finality c.queue 0 → FirstCalled c (step_outcome answer c.call.closing_registry c.call.closing_slashings c.amounts)
first_ends c e z told {answer} h = record { is = λ number running d. at_zero (λ w. step_outcome answer c.call.closing_registry c.call.closing_slashings c.amounts ≡ step_in_turn (step_called number w c)) running d (rw (h, told) (first-turned c number running.answer running.orders (sym e ∙ z))) }

pub first-called : (c : FullCall) {x : Checked (Unit {0})} → x ≡ full_tests c → x ≡ value tt → {s : Settings} → s ≡ settings_of c → {o : StepOutcome} → o ≡ first_by s c.call.finality c.queue c.call.registry c.call.slashings c.amounts (process_justification_and_finalization s c.call.roots c.call.finality (decode c.call.registry)) → FirstCalled c o
first-called c e z {s} k {o} h =
    let p = ready c e z in
    record { is = λ number running d. at_zero (λ w. o ≡ step_in_turn (step_called number w c)) running d (h ∙ ap (λ (t : Settings). first_by t c.call.finality c.queue c.call.registry c.call.slashings c.amounts (process_justification_and_finalization t c.call.roots c.call.finality (decode c.call.registry))) k ∙ first-at c number running.answer running.orders (sym e ∙ z) p.opening.registry p.queue) }

-- A later call

module _ (c : FullCall) (running : Running) (number : ℕ) (n : running.done ≡ 0 → ⊥) where
  abbrev before : FullCall
  before = so_far running c

  abbrev st : BeaconState
  st = state_now running.answer.finality c.call.closing_registry c.call.closing_slashings c.call.roots

  later : eqb running.done 0 ≡ false
  later = ne_eqb running.done 0 n

  abbrev booked : List ℕ
  booked = settle (amounts_by (step_after running.done) (settings_of c) st c.amounts) (replicate (length c.amounts) 0)

  abbrev by : Checked BeaconState → StepOutcome
  by w = later_by running.done running.answer running.orders c.call.finality c.queue c.call.registry c.call.slashings c.amounts booked w

  later-value : {after : BeaconState} → step (settings_of c) st (step_after running.done) ≡ value after → full_tests before ≡ value tt → by (value after) ≡ step_in_turn (step_called number running c)
  unfolding step_in_turn step_tests found stepped stepped_amounts running_after after_tests closing_buffer bind later_by goes_on
  later-value e t = rw (later, t, e, later, settled-buffer (amounts_by (step_after running.done) (settings_of c) st c.amounts) (replicate (length c.amounts) 0) c.amounts)

  later-stopped : {r : Refusal} → step (settings_of c) st (step_after running.done) ≡ refused r → full_tests before ≡ value tt → by (refused r) ≡ step_in_turn (step_called number running c)
  unfolding step_in_turn step_tests found stepped stepped_amounts running_after after_tests closing_buffer bind later_by ended_by
  later-stopped e t = rw (later, t, e, later)

  later-turned : {r : Refusal} → full_tests before ≡ refused r → step_outcome (record { refusal = number_of r; ended = 0; running = running }) c.call.closing_registry c.call.closing_slashings c.amounts ≡ step_in_turn (step_called number running c)
  unfolding step_in_turn step_tests found stepped running_after after_tests closing_buffer bind
  later-turned t = rw (later, t, later)

  later-at : full_tests before ≡ value tt → by (step (settings_of c) st (step_after running.done)) ≡ step_in_turn (step_called number running c)
  later-at t = go (step (settings_of c) st (step_after running.done)) refl
    where
      go : (w : Checked BeaconState) → step (settings_of c) st (step_after running.done) ≡ w → by w ≡ step_in_turn (step_called number running c)
      go (value after) e = later-value e t
      go (refused r) e = later-stopped e t

pub later-away : (c : FullCall) (running : Running) → (running.done ≡ 0 → ⊥) → {x : Checked (Unit {0})} → x ≡ full_tests (so_far running c) → {p : Refusal} → x ≡ refused p → {answer : RunningAnswer} → answer ≡ turned_away p running → LaterCalled running c (step_outcome answer c.call.closing_registry c.call.closing_slashings c.amounts)
later-away c running d e z h = record { is = λ number. rw h (later-turned c running number d (sym e ∙ z)) }

pub later-called : (c : FullCall) (running : Running) → (running.done ≡ 0 → ⊥) → {x : Checked (Unit {0})} → x ≡ full_tests (so_far running c) → x ≡ value tt → {s : Settings} → s ≡ settings_of c → {o : StepOutcome} → o ≡ later_of running.done s running.answer running.orders c.call.finality c.queue c.call.registry c.call.slashings c.call.roots c.call.closing_registry c.call.closing_slashings c.amounts → LaterCalled running c o
later-called c running d e z {s} k {o} h = record { is = λ number. h ∙ ap (λ (t : Settings). later_of running.done t running.answer running.orders c.call.finality c.queue c.call.registry c.call.slashings c.call.roots c.call.closing_registry c.call.closing_slashings c.amounts) k ∙ later-at c running number d (sym e ∙ z) }

-- The machine

pub in_turn_lem : (x : StepCall) → (x.running.done ≡ 9 → ⊥) → x.running.done ≤ 7 → x.number ≡ x.running.done + 1 → step_in_turn x ≡ close_step x
unfolding close_step
in_turn_lem x n l e = rw (ne_eqb x.running.done 9 n, eq-eqb x.number (x.running.done + 1) e, le-leb x.number 8 (omega (arith, e, l)))

away : (x : StepCall) → (x.running.done ≡ 9 → ⊥) → in_turn x ≡ false → step_outcome (record { refusal = 1; ended = 0; running = x.running }) x.whole.call.closing_registry x.whole.call.closing_slashings x.whole.amounts ≡ close_step x
unfolding close_step unwritten
away x n f = rw (ne_eqb x.running.done 9 n, f)

pub too_late : (x : StepCall) → (x.running.done ≡ 9 → ⊥) → 7 < x.running.done → step_outcome (record { refusal = 1; ended = 0; running = x.running }) x.whole.call.closing_registry x.whole.call.closing_slashings x.whole.amounts ≡ close_step x
too_late x n l = away x n (go (eqb x.number (x.running.done + 1)) refl)
  where
    go : (t : Bool) → eqb x.number (x.running.done + 1) ≡ t → in_turn x ≡ false
    go true e = rw (e, lt-leb x.number 8 (omega (arith, eqb-true x.number (x.running.done + 1) e, l)))
    go false e = rw e

pub another : (x : StepCall) → (x.running.done ≡ 9 → ⊥) → (x.number ≡ x.running.done + 1 → ⊥) → step_outcome (record { refusal = 1; ended = 0; running = x.running }) x.whole.call.closing_registry x.whole.call.closing_slashings x.whole.amounts ≡ close_step x
another x n e = away x n (rw (ne_eqb x.number (x.running.done + 1) e))

-- One call of a step, and one order, on a desk that is under way.
use mathlib.Core.Path.{◌≡◌, refl, sym, ap, ap₂, ◌∙◌, subst}
use mathlib.Core.Bool.{true, false}
use mathlib.Core.List.{List, []}
use Prim.Native.Nat.{ℕ, suc, ◌+◌, ◌*◌, ◌/◌, ◌≤◌, ◌<◌}
use native.Mathlib.Omega.{arith}
use borrow.Author.Tests.{eq-eqb, ne_eqb, le-leb}
use lib.Dec.{eqb}
use lib.ListN.{length, replicate}
use Rattle.definitions.specs.declared.FullAnswer.{FullAnswer}
use Rattle.definitions.specs.declared.Finality.{Finality}
use Rattle.definitions.specs.Record.{Validator, BeaconState, encode}
use Rattle.definitions.specs.Checked.{number_of, Checked, value, refused, bind, fold_checked, settle}
use Rattle.definitions.specs.declared.Refusal.{Refusal}
use Rattle.definitions.specs.Refusals.{after_tests, closing_buffer}
use Rattle.definitions.specs.Raised.{none_raised, raised_totals, raised_unless_refused}
use Rattle.definitions.specs.ExitQueue.{queue_of}
use Rattle.definitions.specs.Close.{step, state_of, close_up_to, limited_up_to, process_epoch}
use Rattle.definitions_close.specs.Amounts.{limited_closing_amounts}
use Rattle.definitions_close.specs.FinalizingTest.{finalizing_test}
use Rattle.definitions_close.specs.FullClose.{FullCall, full_tests, settings_of, fully_closed, limited_fully_closed, closing_queue, full_close, limited_full_close}
use Rattle.definitions_close.specs.declared.Running.{Running}
use Rattle.definitions_close.specs.CloseBySteps.{StepCall, StepOutcome, is_first, in_turn, found, step_tests, step_after, stepped, amounts_by, stepped_amounts, ended_by, goes_on, running_after, step_in_turn, close_step}
use Rattle.definitions_close.specs.Orders.{Order, orders_in}
use Rattle.laws.proofs.Checked.{number_not_zero}
use Rattle.laws.proofs.Encode.{decode-encode}
use Rattle.laws.proofs.Checked.{settled-buffer}
use Rattle.theorems.specs.CloseBySteps.Desk.{Desk, stepping, step_call, after_step, act, NotBegun, Gives}
use Rattle.theorems.proofs.CloseBySteps.Tests.{record_at, Sound, sound-opening, sound-step, tested-again}
use Rattle.laws_close.proofs.Passed.{Passed, full-passed}
use Rattle.theorems.proofs.CloseBySteps.Folded.{one_more, stopped, later-finality}
use Rattle.theorems.proofs.CloseBySteps.Amounts.{amounts_at, amounts-turn, amounts-long}

-- What a call in turn gives

in_turn_lem : (x : StepCall) → eqb x.running.done 9 ≡ false → in_turn x ≡ true → close_step x ≡ step_in_turn x
unfolding close_step
in_turn_lem x p q = rw (p, q)

-- the amounts of an accepted step
abbrev amounts_on : StepCall → List ℕ
amounts_on x = settle (amounts_by (step_after x.running.done) (settings_of x.whole) (state_of (found x).call) x.whole.amounts) (replicate (length x.whole.amounts) 0)

went_on : (x : StepCall) {after : BeaconState} → step_tests x ≡ value tt → stepped x ≡ value after → step_in_turn x ≡ record { answer = record { refusal = 0; ended = 0; running = goes_on after x }; closing_registry = encode after.validators; closing_slashings = after.slashings; amounts = amounts_on x }
unfolding step_in_turn stepped_amounts running_after after_tests closing_buffer bind
went_on x p q =
    rw (p, q, settled-buffer (amounts_by (step_after x.running.done) (settings_of x.whole) (state_of (found x).call) x.whole.amounts) (replicate (length x.whole.amounts) 0) x.whole.amounts)

was-stopped : (x : StepCall) {r : Refusal} → step_tests x ≡ value tt → stepped x ≡ refused r → step_in_turn x ≡ record { answer = record { refusal = number_of r; ended = 0; running = ended_by r x }; closing_registry = x.whole.call.registry; closing_slashings = x.whole.call.slashings; amounts = replicate (length x.whole.amounts) 0 }
unfolding step_in_turn stepped_amounts running_after after_tests closing_buffer bind
was-stopped x p q = rw (p, q)

turned_down : (x : StepCall) {r : Refusal} → step_tests x ≡ refused r → is_first x ≡ true → step_in_turn x ≡ record { answer = record { refusal = number_of r; ended = 0; running = ended_by r x }; closing_registry = x.whole.call.closing_registry; closing_slashings = x.whole.call.closing_slashings; amounts = x.whole.amounts }
unfolding step_in_turn running_after after_tests closing_buffer bind
turned_down x p f = rw (p, f)

-- Where the whole close is refused

refused-by : (c : FullCall) {r : Refusal} → full_tests c ≡ value tt → process_epoch (settings_of c) (state_of c.call) ≡ refused r → fully_closed c ≡ refused r
unfolding limited_fully_closed after_tests bind
refused-by c p q = rw (p, q)

refused_in_tests : (c : FullCall) {r : Refusal} → full_tests c ≡ refused r → fully_closed c ≡ refused r
unfolding limited_fully_closed after_tests bind
refused_in_tests c p = rw p

-- the desk is left as the whole close leaves what it was lent
pub record Stopped (c : FullCall) (d : Desk) : Type 0 where
  pub refusal : (full_close c).refusal ≡ 0 → ⊥
  pub gives : Gives (full_close c) d

-- of a refusal by a step
module _ (c : FullCall) (orders : List ℕ) (count : ℕ) {r : Refusal} (p : full_tests c ≡ value tt) (q : process_epoch (settings_of c) (state_of c.call) ≡ refused r) where
  abbrev stopped_desk : Desk
  stopped_desk =
      record {
        running = record {
          done = 9;
          answer = record { refusal = number_of r; finality = c.call.finality; queue = c.queue; raised = none_raised; test = 0 };
          orders = count;
        };
        closing_registry = c.call.registry;
        closing_slashings = c.call.slashings;
        amounts = replicate (length c.amounts) 0;
        orders = orders;
      }

  stopped_so : Stopped c stopped_desk
  unfolding limited_full_close limited_closing_amounts closing_buffer closing_queue raised_unless_refused finalizing_test bind
  stopped_so =
      let e = refused-by c p q in
      record {
        refusal = λ z. number_not_zero r (rw e at z);
        gives =
            record {
              answer = rw e;
              closing_registry = rw (p, q);
              closing_slashings = rw (p, q);
              amounts = rw (p, q);
              done = rw (e, ne_eqb (number_of r) 0 (number_not_zero r));
            };
      }

-- of a refusal in the tests, which is the first call's
module _ (c : FullCall) (orders : List ℕ) {r : Refusal} (p : full_tests c ≡ refused r) where
  abbrev untouched_desk : Desk
  untouched_desk =
      record {
        running = record {
          done = 9;
          answer = record { refusal = number_of r; finality = c.call.finality; queue = c.queue; raised = none_raised; test = 0 };
          orders = 0;
        };
        closing_registry = c.call.closing_registry;
        closing_slashings = c.call.closing_slashings;
        amounts = c.amounts;
        orders = orders;
      }

  stopped-first : Stopped c untouched_desk
  unfolding limited_full_close limited_closing_amounts closing_buffer closing_queue raised_unless_refused finalizing_test bind
  stopped-first =
      let e = refused_in_tests c p in
      record {
        refusal = λ z. number_not_zero r (rw e at z);
        gives =
            record {
              answer = rw e;
              closing_registry = rw p;
              closing_slashings = rw p;
              amounts = rw p;
              done = rw (e, ne_eqb (number_of r) 0 (number_not_zero r));
            };
      }

-- Under way: n steps are done and the state is st

abbrev pub answer_so_far : FullCall → BeaconState → FullAnswer
answer_so_far c st =
    let s = c.call.rules.settings in
    let opening = state_of c.call in
    record {
      refusal = 0;
      finality = st.finality;
      queue = queue_of st.validators;
      raised = raised_totals s opening.finality.slot opening.validators;
      test = finalizing_test s opening.finality (value st.finality);
    }

abbrev pub desk_at : FullCall → ℕ → BeaconState → ℕ → List ℕ → Desk
desk_at c n st count orders =
    record {
      running = record { done = n; answer = answer_so_far c st; orders = count };
      closing_registry = encode st.validators;
      closing_slashings = st.slashings;
      amounts = amounts_at c n;
      orders = orders;
    }

pub record UnderWay (c : FullCall) (n : ℕ) (st : BeaconState) : Type 0 where
  pub least : 1 ≤ n
  pub most : n ≤ 8
  pub tested : full_tests c ≡ value tt
  pub went : close_up_to n (settings_of c) (state_of c.call) ≡ value st
  pub sound : Sound c st
  pub long : length (amounts_at c n) ≡ length c.amounts

-- the list of orders holds these, and is so long
pub record Listed (count : ℕ) (orders : List ℕ) (os : List Order) (size : ℕ) : Type 0 where
  pub are : orders_in count orders ≡ os
  pub long : length orders ≡ size
  pub fits : count ≤ size / 2

-- the desk after n steps: it waits for the first, is under way with these orders in its list, or has ended with the whole close's refusal
pub data On (c : FullCall) (n : ℕ) (d : Desk) (os : List Order) (size : ℕ) : Type 0 where
  waiting : n ≡ 0 → NotBegun c d → os ≡ [] → length d.orders ≡ size → On c n d os size
  onward : (st : BeaconState) (count : ℕ) (orders : List ℕ) → UnderWay c n st → d ≡ desk_at c n st count orders → Listed count orders os size
      → On c n d os size
  ended : Stopped c d → Listed d.running.orders d.orders os size → On c n d os size

-- ended at a desk that is this one
pub ended_at : {c : FullCall} {n : ℕ} {d x : Desk} {os : List Order} {size : ℕ} → d ≡ x → Stopped c x → Listed x.running.orders x.orders os size → On c n d os size
ended_at {c} {n} {d} {x} {os} {size} e s l = subst (λ (y : Desk). On c n y os size) (sym e) (ended s l)

-- A call

acted : (c : FullCall) (d : Desk) (k : ℕ) {out : StepOutcome} → close_step (step_call c d k) ≡ out → act c d (stepping k) ≡ after_step d out
unfolding act
acted c d k e = ap (λ (out : StepOutcome). after_step d out) e

-- The first call

abbrev pub not_begun : FullCall → FullAnswer → ℕ → List ℕ → Desk
not_begun c a count orders =
    record {
      running = record { done = 0; answer = a; orders = count };
      closing_registry = c.call.closing_registry;
      closing_slashings = c.call.closing_slashings;
      amounts = c.amounts;
      orders = orders;
    }

module _ (c : FullCall) (a : FullAnswer) (count : ℕ) (orders : List ℕ) where
  abbrev first_call : StepCall
  first_call = step_call c (not_begun c a count orders) 1

  first-tests : {m : Checked (Unit {0})} → full_tests c ≡ m → step_tests first_call ≡ m
  unfolding step_tests found
  first-tests e = e

  first-work : {m : Checked BeaconState} → step (settings_of c) (state_of c.call) (step_after 0) ≡ m → stepped first_call ≡ m
  unfolding stepped found
  first-work e = e

  none_done : close_up_to 0 (settings_of c) (state_of c.call) ≡ value (state_of c.call)
  unfolding limited_up_to fold_checked
  none_done = refl

  first-onward : (st : BeaconState) → full_tests c ≡ value tt → step (settings_of c) (state_of c.call) (step_after 0) ≡ value st → act c (not_begun c a count orders) (stepping 1) ≡ desk_at c 1 st 0 orders
  unfolding goes_on found amounts_at
  first-onward st p q =
      acted c (not_begun c a count orders) 1 (in_turn_lem first_call refl refl ∙ went_on first_call (first-tests p) (first-work q))
      ∙ ap (λ (xs : List ℕ). record { running = record { done = 1; answer = answer_so_far c st; orders = 0 }; closing_registry = encode st.validators; closing_slashings = st.slashings; amounts = xs; orders = orders }) (sym (amounts-turn c 0 none_done))

  first-stopped : {r : Refusal} (p : full_tests c ≡ value tt) (q : step (settings_of c) (state_of c.call) (step_after 0) ≡ refused r) → act c (not_begun c a count orders) (stepping 1) ≡ stopped_desk c orders 0 p (stopped (settings_of c) (state_of c.call) 0 (omega arith) none_done q)
  unfolding ended_by
  first-stopped p q = acted c (not_begun c a count orders) 1 (in_turn_lem first_call refl refl ∙ was-stopped first_call (first-tests p) (first-work q))

  first-refused : {r : Refusal} (p : full_tests c ≡ refused r) → act c (not_begun c a count orders) (stepping 1) ≡ untouched_desk c orders p
  unfolding ended_by
  first-refused p = acted c (not_begun c a count orders) 1 (in_turn_lem first_call refl refl ∙ turned_down first_call (first-tests p) refl)

  first-long : {st : BeaconState} → Passed c → step (settings_of c) (state_of c.call) (step_after 0) ≡ value st → length (amounts_at c 1) ≡ length c.amounts
  unfolding amounts_at
  first-long {st} p q =
      ap length (amounts-turn c 0 none_done)
      ∙ amounts-long (settings_of c) (step_after 0) (state_of c.call) st c.amounts (p.amounts ∙ ap (λ (n : ℕ). 9 * n) (sym (sound-opening c p).many)) q

  no-orders : Listed 0 orders [] (length orders)
  unfolding orders_in
  no-orders = record { are = refl; long = refl; fits = omega arith }

  pub first-call : On c 1 (act c (not_begun c a count orders) (stepping 1)) [] (length orders)
  first-call = go (full_tests c) refl (step (settings_of c) (state_of c.call) (step_after 0)) refl
    where
      go : (t : Checked (Unit {0})) → full_tests c ≡ t → (m : Checked BeaconState) → step (settings_of c) (state_of c.call) (step_after 0) ≡ m → On c 1 (act c (not_begun c a count orders) (stepping 1)) [] (length orders)
      go (value tt) p (value st) q =
          let passed = full-passed c p in
          onward st 0 orders
          (record {
            least = omega arith;
            most = omega arith;
            tested = p;
            went = one_more (settings_of c) (state_of c.call) 0 (omega arith) none_done q;
            sound = sound-step c (settings_of c) (step_after 0) (state_of c.call) st (sound-opening c passed) q;
            long = first-long passed q;
          })
          (first-onward st p q) no-orders
      go (value tt) p (refused r) q = ended_at (first-stopped p q) (stopped_so c orders 0 p (stopped (settings_of c) (state_of c.call) 0 (omega arith) none_done q)) no-orders
      go (refused r) p m q = ended_at (first-refused p) (stopped-first c orders p) no-orders

-- A later call

state-again : (c : FullCall) (st : BeaconState) (xs : List ℕ) → Sound c st → state_of (record_at c st xs).call ≡ st
state-again c st xs h =
    ap₂ (λ (vs : List Validator) (roots : List ℕ). record { finality = st.finality; validators = vs; slashings = st.slashings; block_roots = roots }) (decode-encode st.validators) (sym h.roots)

module _ (c : FullCall) (m : ℕ) (st : BeaconState) (u : UnderWay c (suc m) st) (l : suc m < 8) (count : ℕ) (orders : List ℕ) where
  abbrev n : ℕ
  n = suc m

  abbrev here : Desk
  here = desk_at c n st count orders

  abbrev later_call : StepCall
  later_call = step_call c here (n + 1)

  its_turn : in_turn later_call ≡ true
  its_turn = rw (eq-eqb (n + 1) (n + 1) refl, le-leb (n + 1) 8 (omega arith))

  not_ended : eqb n 9 ≡ false
  not_ended = ne_eqb n 9 (λ e. omega arith)

  not_first : eqb n 0 ≡ false
  not_first = ne_eqb n 0 (λ e. omega arith)

  later-tests : step_tests later_call ≡ value tt
  unfolding step_tests found
  later-tests = rw not_first (tested-again c st (amounts_at c n) (full-passed c u.tested) u.sound u.long)

  later-state : state_of (found later_call).call ≡ st
  unfolding found
  later-state = rw not_first (state-again c st (amounts_at c n) u.sound)

  later-work : {w : Checked BeaconState} → step (settings_of c) st (step_after n) ≡ w → stepped later_call ≡ w
  unfolding stepped
  later-work e = rw later-state e

  later-amounts : amounts_on later_call ≡ amounts_at c (n + 1)
  later-amounts =
      ap (λ (s : BeaconState). settle (amounts_by (step_after n) (settings_of c) s (amounts_at c n)) (replicate (length (amounts_at c n)) 0)) later-state
      ∙ sym (amounts-turn c n u.went)

  later-goes : (next : BeaconState) → goes_on next later_call ≡ record { done = n + 1; answer = record { refusal = 0; finality = next.finality; queue = queue_of next.validators; raised = (answer_so_far c st).raised; test = (answer_so_far c st).test }; orders = count }
  unfolding goes_on
  later-goes next = rw not_first

  later-ends : (r : Refusal) → ended_by r later_call ≡ record { done = 9; answer = record { refusal = number_of r; finality = c.call.finality; queue = c.queue; raised = none_raised; test = 0 }; orders = count }
  unfolding ended_by
  later-ends r = rw not_first

  later-onward : (next : BeaconState) → step (settings_of c) st (step_after n) ≡ value next → act c here (stepping (n + 1)) ≡ desk_at c (n + 1) next count orders
  later-onward next q =
      acted c here (n + 1) (in_turn_lem later_call not_ended its_turn ∙ went_on later_call later-tests (later-work q))
      ∙ ap (λ (w : Running). record { running = w; closing_registry = encode next.validators; closing_slashings = next.slashings; amounts = amounts_on later_call; orders = orders }) (later-goes next)
      ∙ ap₂ (λ (xs : List ℕ) (f : Finality).
      record {
        running = record {
          done = n + 1;
          answer = record {
            refusal = 0;
            finality = next.finality;
            queue = queue_of next.validators;
            raised = (answer_so_far c next).raised;
            test = finalizing_test c.call.rules.settings c.call.finality (value f);
          };
          orders = count;
        };
        closing_registry = encode next.validators;
        closing_slashings = next.slashings;
        amounts = xs;
        orders = orders;
      }) later-amounts (sym (later-finality (settings_of c) m st next q))

  later-stopped : {r : Refusal} (q : step (settings_of c) st (step_after n) ≡ refused r) → act c here (stepping (n + 1)) ≡ stopped_desk c orders count u.tested (stopped (settings_of c) (state_of c.call) n l u.went q)
  later-stopped {r} q =
      acted c here (n + 1) (in_turn_lem later_call not_ended its_turn ∙ was-stopped later_call later-tests (later-work q))
      ∙ ap (λ (w : Running). record { running = w; closing_registry = c.call.registry; closing_slashings = c.call.slashings; amounts = replicate (length (amounts_at c n)) 0; orders = orders }) (later-ends r)
      ∙ ap (λ (k : ℕ).
      record {
        running = record {
          done = 9;
          answer = record { refusal = number_of r; finality = c.call.finality; queue = c.queue; raised = none_raised; test = 0 };
          orders = count;
        };
        closing_registry = c.call.registry;
        closing_slashings = c.call.slashings;
        amounts = replicate k 0;
        orders = orders;
      }) u.long

  later-long : {next : BeaconState} → step (settings_of c) st (step_after n) ≡ value next → length (amounts_at c (n + 1)) ≡ length c.amounts
  later-long {next} q =
      let p = full-passed c u.tested in
      ap length (amounts-turn c n u.went)
      ∙ amounts-long (settings_of c) (step_after n) st next (amounts_at c n) (u.long ∙ p.amounts ∙ ap (λ (k : ℕ). 9 * k) (sym u.sound.many)) q
      ∙ u.long

  pub later-call : {os : List Order} {size : ℕ} → Listed count orders os size → On c (n + 1) (act c here (stepping (n + 1))) os size
  later-call {os} {size} listed = go (step (settings_of c) st (step_after n)) refl
    where
      go : (w : Checked BeaconState) → step (settings_of c) st (step_after n) ≡ w → On c (n + 1) (act c here (stepping (n + 1))) os size
      go (value next) q =
          onward next count orders
          (record {
            least = omega arith;
            most = omega arith;
            tested = u.tested;
            went = one_more (settings_of c) (state_of c.call) n l u.went q;
            sound = sound-step c (settings_of c) (step_after n) st next u.sound q;
            long = later-long q;
          })
          (later-onward next q) listed
      go (refused r) q = ended_at (later-stopped q) (stopped_so c orders count u.tested (stopped (settings_of c) (state_of c.call) n l u.went q)) listed

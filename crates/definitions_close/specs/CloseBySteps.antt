-- 02, R-9: "A close may be run one step a call, giving what the whole close gives, amounts too." Words in quotation marks are the request's.
-- Each call is handed the close so far and what the whole close is handed; the record so far stands in the closing buffers.
use Rattle.std.specs.Prelude.{Bool, cond, ◌&&◌, List, [], ◌∷◌, map, ℕ, zero, suc, ◌+◌, ◌/◌, leb, eqb, length, get_or, take, drop, replicate}
use Rattle.definitions.specs.declared.Settings.{Settings}
use Rattle.definitions.specs.Record.{BeaconState, encode}
use Rattle.definitions.specs.Checked.{number_of, Checked, value, refused, bind, code_of}
use Rattle.definitions.specs.declared.Refusal.{Refusal}
use Rattle.definitions.specs.declared.Refusal.TheVariants.{BadShape}
use Rattle.definitions.specs.Refusals.{after_tests, closing_buffer}
use Rattle.definitions.specs.Raised.{none_raised, raised_totals}
use Rattle.definitions.specs.ExitQueue.{queue_of}
use Rattle.definitions.specs.Close.{Step, justification_step, inactivity_step, rewards_step, registry_step, slashings_step, effective_balances_step, slashings_reset_step, participation_flags_step, steps, step, state_of, finalized_epoch_of}
use Rattle.definitions_close.specs.Amounts.{booked_by_rewards, taken_by_slashings, nines}
use Rattle.definitions_close.specs.FinalizingTest.{finalizing_test}
use Rattle.definitions_close.specs.FullClose.{FullCall, full_tests, settings_of}
use Rattle.definitions_close.specs.declared.Running.{Running}
use Rattle.definitions_close.specs.declared.RunningAnswer.{RunningAnswer}

-- "A call after either end changes nothing and, before any test, says so."
abbrev pub says_ended : Running → RunningAnswer
says_ended running = record { refusal = 0; ended = 1; running = running }

abbrev pub has_ended : Running → Bool
has_ended running = eqb running.done 9

-- turned away alone: the close is as it was, and the same call may be made again
abbrev pub turned_away : Refusal → Running → RunningAnswer
turned_away r running = record { refusal = number_of r; ended = 0; running = running }

-- The first eight calls

-- a step's number from 1 to 8, the close so far, and what the whole close is handed, at every call the same opening
pub record StepCall : Type 0 where
  pub number : ℕ
  pub running : Running
  pub whole : FullCall

abbrev pub is_first : StepCall → Bool
is_first c = eqb c.running.done 0

-- "a call out of turn gets 1"
abbrev pub in_turn : StepCall → Bool
in_turn c = eqb c.number (c.running.done + 1) && leb c.number 8

-- the record so far as if it were an opening. The opening stands in the place of the closing buffers, of which the tests ask the length alone.
abbrev pub so_far : Running → FullCall → FullCall
so_far running c =
    record {
      call = record {
        rules = c.call.rules;
        finality = running.answer.finality;
        registry = c.call.closing_registry;
        slashings = c.call.closing_slashings;
        roots = c.call.roots;
        closing_registry = c.call.registry;
        closing_slashings = c.call.slashings;
      };
      queue = running.answer.queue;
      amounts = c.amounts;
    }

-- the record that a step finds, which is what it tests: the opening at the first, and then the record so far
unfoldable pub found : StepCall → FullCall
found c = cond (is_first c) c.whole (so_far c.running c.whole)

unfoldable pub step_tests : StepCall → Checked (Unit {0})
step_tests c = full_tests (found c)

-- the step that comes after so many
abbrev pub step_after : ℕ → Step
step_after done = get_or steps done participation_flags_step

unfoldable pub stepped : StepCall → Checked BeaconState
stepped c = step (settings_of c.whole) (state_of (found c).call) (step_after c.running.done)

-- "amounts too": zeros from the first call on; the rewards step, the third, books eight numbers of each nine, and slashings, the fifth, the ninth

unfoldable pub eights : ℕ → List ℕ → List (List ℕ)
eights zero amounts = []
eights (suc n) amounts = take 8 amounts ∷ eights n (drop 9 amounts)

unfoldable pub amounts_by : Step → Settings → BeaconState → List ℕ → Checked (List ℕ)
amounts_by justification_step s st amounts = value (replicate (length amounts) 0)
amounts_by rewards_step s st amounts =
    let quotient = s.inactivity_penalty_quotient_altair in
    bind (booked_by_rewards s quotient st.finality.slot (finalized_epoch_of st) st.validators) (λ booked.
    value (nines booked (map (λ _. 0) st.validators)))
amounts_by slashings_step s st amounts =
    let multiplier = s.proportional_slashing_multiplier_altair in
    bind (taken_by_slashings s multiplier st.finality.slot st.slashings st.validators) (λ taken.
    value (nines (eights (length amounts / 9) amounts) taken))
amounts_by inactivity_step s st amounts = value amounts
amounts_by registry_step s st amounts = value amounts
amounts_by effective_balances_step s st amounts = value amounts
amounts_by slashings_reset_step s st amounts = value amounts
amounts_by participation_flags_step s st amounts = value amounts

-- with the step, which refuses where they do
unfoldable pub stepped_amounts : StepCall → Checked (List ℕ)
stepped_amounts c =
    bind (stepped c) (λ _. amounts_by (step_after c.running.done) (settings_of c.whole) (state_of (found c).call) c.whole.amounts)

-- The close as it is after a call in turn

-- the list of orders is "empty at the start"
abbrev pub orders_so_far : StepCall → ℕ
orders_so_far c = cond (is_first c) 0 c.running.orders

-- as the whole close is refused; "where the close is refused, the orders stay in it untried"
unfoldable pub ended_by : Refusal → StepCall → Running
ended_by r c =
    record {
      done = 9;
      answer = record { refusal = number_of r; finality = c.whole.call.finality; queue = c.whole.queue; raised = none_raised; test = 0 };
      orders = orders_so_far c;
    }

-- justification, the first step, says what was raised and which test set the checkpoint
unfoldable pub goes_on : BeaconState → StepCall → Running
goes_on after c =
    let s = c.whole.call.rules.settings in
    let opening = state_of c.whole.call in
    record {
      done = c.running.done + 1;
      answer = record {
        refusal = 0;
        finality = after.finality;
        queue = queue_of after.validators;
        raised = cond (is_first c) (raised_totals s opening.finality.slot opening.validators) c.running.answer.raised;
        test = cond (is_first c) (finalizing_test s opening.finality (value after.finality)) c.running.answer.test;
      };
      orders = orders_so_far c;
    }

-- "After the first step, a refusal tested before 4 turns away the call alone"; 4 and 5, and any at the first call, end the close
unfoldable pub running_after : StepCall → Checked (Unit {0}) → Checked BeaconState → Running
running_after c (refused r) work = cond (is_first c) (ended_by r c) c.running
running_after c (value u) (refused r) = ended_by r c
running_after c (value u) (value after) = goes_on after c

-- What comes back and what the lent lists hold afterwards
pub record StepOutcome : Type 0 where
  pub answer : RunningAnswer
  pub closing_registry : List ℕ
  pub closing_slashings : List ℕ
  pub amounts : List ℕ

unfoldable pub unwritten : RunningAnswer → StepCall → StepOutcome
unwritten answer c =
    record {
      answer = answer;
      closing_registry = c.whole.call.closing_registry;
      closing_slashings = c.whole.call.closing_slashings;
      amounts = c.whole.amounts;
    }

-- on 4 and 5 the opening is put back, and the amounts are zeros
unfoldable pub step_in_turn : StepCall → StepOutcome
step_in_turn c =
    let call = c.whole.call in
    let lent = c.whole.amounts in
    let tests = step_tests c in
    let work = stepped c in
    record {
      answer = record { refusal = code_of (after_tests tests work); ended = 0; running = running_after c tests work };
      closing_registry = closing_buffer (λ st. encode st.validators) tests work call.registry call.closing_registry;
      closing_slashings = closing_buffer (λ st. st.slashings) tests work call.slashings call.closing_slashings;
      amounts = closing_buffer (λ filled. filled) tests (stepped_amounts c) (replicate (length lent) 0) lent;
    }

unfoldable pub close_step : StepCall → StepOutcome
close_step c =
    cond (has_ended c.running) (unwritten (says_ended c.running) c)
    (cond (in_turn c) (step_in_turn c) (unwritten (turned_away BadShape c.running) c))

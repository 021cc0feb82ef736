-- A call of a step, and what it came back with, as the definition's records; and what comes of it once its tests have passed.
use Rattle.std.specs.Prelude.{List, ℕ, ◌+◌, length, replicate}
use Rattle.definitions.specs.declared.Settings.{Settings}
use Rattle.definitions.specs.declared.Finality.{Finality}
use Rattle.definitions.specs.declared.ExitQueue.{ExitQueue}
use Rattle.definitions.specs.declared.FullAnswer.{FullAnswer}
use Rattle.definitions.specs.Record.{BeaconState, encode, decode}
use Rattle.definitions.specs.Checked.{Checked, value, refused, number_of, settle}
use Rattle.definitions.specs.ExitQueue.{queue_of}
use Rattle.definitions.specs.Raised.{none_raised, raised_totals}
use Rattle.definitions_close.specs.FinalizingTest.{finalizing_test}
use Rattle.definitions_close.specs.FullClose.{FullCall}
use Rattle.definitions_close.specs.declared.Running.{Running}
use Rattle.definitions_close.specs.declared.RunningAnswer.{RunningAnswer}
use Rattle.definitions.specs.Close.{step}
use Rattle.definitions_close.specs.CloseBySteps.{StepCall, StepOutcome, step_after, amounts_by}
use Rattle.registry_close.specs.Worked.{state_now}
use Rattle.definitions_close.specs.Calls.{step_outcome}

abbrev pub step_called : ℕ → Running → FullCall → StepCall
step_called number running whole = record { number = number; running = running; whole = whole }

-- ended as the whole close is refused
abbrev pub ended_answer : ℕ → Finality → ExitQueue → ℕ → RunningAnswer
ended_answer refusal f queue orders =
    record {
      refusal = refusal;
      ended = 0;
      running = record { done = 9; answer = record { refusal = refusal; finality = f; queue = queue; raised = none_raised; test = 0 }; orders = orders };
    }

-- the first call, by what justification gives
unfoldable pub first_by : Settings → Finality → ExitQueue → List ℕ → List ℕ → List ℕ → Checked Finality → StepOutcome
first_by s f queue registry slashings lent (value after) =
    step_outcome
    (record {
      refusal = 0;
      ended = 0;
      running = record {
        done = 1;
        answer = record { refusal = 0; finality = after; queue = queue; raised = raised_totals s f.slot (decode registry); test = finalizing_test s f (value after) };
        orders = 0;
      };
    })
    registry slashings (replicate (length lent) 0)
first_by s f queue registry slashings lent (refused r) =
    step_outcome (ended_answer (number_of r) f queue 0) registry slashings (replicate (length lent) 0)

-- a later one, by what its step gives and books
unfoldable pub later_by : ℕ → FullAnswer → ℕ → Finality → ExitQueue → List ℕ → List ℕ → List ℕ → List ℕ → Checked BeaconState → StepOutcome
later_by done so_far orders f queue registry slashings lent booked (value after) =
    step_outcome
    (record {
      refusal = 0;
      ended = 0;
      running = record {
        done = done + 1;
        answer = record { refusal = 0; finality = after.finality; queue = queue_of after.validators; raised = so_far.raised; test = so_far.test };
        orders = orders;
      };
    })
    (encode after.validators) after.slashings booked
later_by done so_far orders f queue registry slashings lent booked (refused r) =
    step_outcome (ended_answer (number_of r) f queue orders) registry slashings (replicate (length lent) 0)

abbrev pub later_of : ℕ → Settings → FullAnswer → ℕ → Finality → ExitQueue → List ℕ → List ℕ → List ℕ → List ℕ → List ℕ → List ℕ → StepOutcome
later_of done s so_far orders f queue registry slashings roots closing_registry closing_slashings lent =
    let before = state_now so_far.finality closing_registry closing_slashings roots in
    later_by done so_far orders f queue registry slashings lent (settle (amounts_by (step_after done) s before lent) (replicate (length lent) 0))
    (step s before (step_after done))

-- What the first call, and a later one, promise: the definition's, whatever number they are called by.
use Rattle.std.specs.Prelude.{◌≡◌, ℕ}
use Rattle.definitions_close.specs.FullClose.{FullCall}
use Rattle.definitions_close.specs.declared.Running.{Running}
use Rattle.definitions_close.specs.CloseBySteps.{StepOutcome, step_in_turn}
use Rattle.close_by_steps.specs.Called.{step_called}

pub record FirstCalled (c : FullCall) (o : StepOutcome) : Type 0 where
  pub is : (number : ℕ) (running : Running) → running.done ≡ 0 → o ≡ step_in_turn (step_called number running c)

pub record LaterCalled (running : Running) (c : FullCall) (o : StepOutcome) : Type 0 where
  pub is : (number : ℕ) → o ≡ step_in_turn (step_called number running c)

-- What the calls are lent and what they came back with, field by field, as the records of the definitions beside this file.
use Rattle.std.specs.Prelude.{List, ℕ}
use Rattle.definitions.specs.declared.ExitQueue.{ExitQueue}
use Rattle.definitions.specs.declared.Finality.{Finality}
use Rattle.definitions.specs.declared.FullAnswer.{FullAnswer}
use Rattle.definitions.specs.declared.Rules.{Rules}
use Rattle.definitions_close.specs.CloseBySteps.{StepOutcome}
use Rattle.definitions_close.specs.FullClose.{FullOutcome}
use Rattle.definitions_close.specs.Orders.{Order, OrderCall, OrderOutcome, NinthCall, NinthOutcome}
use Rattle.definitions_close.specs.Store.{Store, Entry, AddOutcome}
use Rattle.definitions_close.specs.StoreClose.{StoreCall}
use Rattle.definitions_close.specs.StoreSteps.{StoreStepCall, StoreNinthCall}
use Rattle.definitions_close.specs.declared.CountAnswer.{CountAnswer}
use Rattle.definitions_close.specs.declared.Running.{Running}
use Rattle.definitions_close.specs.declared.RunningAnswer.{RunningAnswer}

-- The whole close

-- the answer, and what the lent lists hold
abbrev pub full_outcome : FullAnswer → List ℕ → List ℕ → List ℕ → FullOutcome
full_outcome r closing_registry closing_slashings amounts =
    record {
      refusal = r.refusal;
      finality = r.finality;
      queue = r.queue;
      raised = r.raised;
      test = r.test;
      closing_registry = closing_registry;
      closing_slashings = closing_slashings;
      amounts = amounts;
    }

-- A close by steps

abbrev pub step_outcome : RunningAnswer → List ℕ → List ℕ → List ℕ → StepOutcome
step_outcome answer closing_registry closing_slashings amounts =
    record { answer = answer; closing_registry = closing_registry; closing_slashings = closing_slashings; amounts = amounts }

-- Orders, and the ninth call

abbrev pub order : ℕ → ℕ → Order
order validator start = record { validator = validator; start = start }

abbrev pub order_called : Running → ℕ → ℕ → List ℕ → OrderCall
order_called running validator start orders = record { running = running; order = order validator start; orders = orders }

abbrev pub order_outcome : RunningAnswer → List ℕ → OrderOutcome
order_outcome answer orders = record { answer = answer; orders = orders }

abbrev pub ninth_called : Rules → ℕ → Running → List ℕ → List ℕ → List ℕ → NinthCall
ninth_called rules period running registry orders answers =
    record { rules = rules; period = period; running = running; closing_registry = registry; orders = orders; answers = answers }

abbrev pub ninth_outcome : RunningAnswer → List ℕ → List ℕ → NinthOutcome
ninth_outcome answer registry answers = record { answer = answer; closing_registry = registry; answers = answers }

-- A store

abbrev pub lent : List ℕ → ℕ → Store
lent numbers count = record { numbers = numbers; count = count }

abbrev pub store_called : Store → Finality → ExitQueue → List ℕ → List ℕ → List ℕ → List ℕ → List ℕ → List ℕ → StoreCall
store_called store f queue registry slashings roots closing_registry closing_slashings amounts =
    record {
      store = store;
      finality = f;
      queue = queue;
      registry = registry;
      slashings = slashings;
      roots = roots;
      closing_registry = closing_registry;
      closing_slashings = closing_slashings;
      amounts = amounts;
    }

abbrev pub new_entry : ℕ → Rules → Entry
new_entry start rules = record { start = start; rules = rules }

-- the answer of an addition, and the store afterwards
abbrev pub add_outcome : CountAnswer → List ℕ → AddOutcome
add_outcome r numbers = record { refusal = r.refusal; store = lent numbers r.count }

-- A close by steps with a store

abbrev pub store_step_called : ℕ → Running → StoreCall → StoreStepCall
store_step_called number running whole = record { number = number; running = running; whole = whole }

abbrev pub store_ninth_called : Store → ℕ → Running → List ℕ → List ℕ → List ℕ → StoreNinthCall
store_ninth_called store period running registry orders answers =
    record { store = store; period = period; running = running; closing_registry = registry; orders = orders; answers = answers }

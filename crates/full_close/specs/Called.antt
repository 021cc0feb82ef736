-- A call of the close with pair and amounts, and what it came back with, as the definition's records.
use Rattle.std.specs.Prelude.{List, ℕ}
use Rattle.definitions.specs.declared.Rules.{Rules}
use Rattle.definitions.specs.declared.Finality.{Finality}
use Rattle.definitions.specs.declared.ExitQueue.{ExitQueue}
use Rattle.definitions.specs.declared.FullAnswer.{FullAnswer}
use Rattle.definitions.specs.Raised.{none_raised}
use Rattle.definitions_close.specs.FullClose.{FullCall}
use Rattle.close.specs.Called.{called}

abbrev pub full_called : Rules → Finality → ExitQueue → List ℕ → List ℕ → List ℕ → List ℕ → List ℕ → List ℕ → FullCall
full_called rules f queue registry slashings roots closing_registry closing_slashings amounts =
    record { call = called rules f registry slashings roots closing_registry closing_slashings; queue = queue; amounts = amounts }

-- the answer where a test refuses
abbrev pub unclosed : ℕ → Finality → ExitQueue → FullAnswer
unclosed refusal f queue = record { refusal = refusal; finality = f; queue = queue; raised = none_raised; test = 0 }

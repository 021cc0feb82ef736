-- A call of the close, and what it came back with, as the definition's records.
use Rattle.std.specs.Prelude.{List, ℕ}
use Rattle.definitions.specs.declared.Rules.{Rules}
use Rattle.definitions.specs.declared.Finality.{Finality}
use Rattle.definitions.specs.declared.CloseAnswer.{CloseAnswer}
use Rattle.definitions.specs.Close.{Call, Outcome}

abbrev pub called : Rules → Finality → List ℕ → List ℕ → List ℕ → List ℕ → List ℕ → Call
called rules f registry slashings roots closing_registry closing_slashings =
    record {
      rules = rules;
      finality = f;
      registry = registry;
      slashings = slashings;
      roots = roots;
      closing_registry = closing_registry;
      closing_slashings = closing_slashings;
    }

-- the answer, and what the closing buffers hold
abbrev pub outcome : CloseAnswer → List ℕ → List ℕ → Outcome
outcome r closing_registry closing_slashings =
    record { refusal = r.refusal; finality = r.finality; raised = r.raised; closing_registry = closing_registry; closing_slashings = closing_slashings }

-- What an answer holds besides a value or a refusal.
use Rattle.std.specs.Prelude.{ℕ}
use Rattle.definitions.specs.declared.Finality.{Finality}
use Rattle.definitions.specs.declared.FinalityAnswer.{FinalityAnswer}
use Rattle.definitions.specs.Checked.{Checked, code_of, settle}

-- `old` is the finality handed in
abbrev pub finality_answer_for : Checked Finality → Finality → FinalityAnswer
finality_answer_for m old = record { refusal = code_of m; finality = settle m old }

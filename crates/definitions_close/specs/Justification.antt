-- Document 02, R-4: "The finality answer says which of the four tests, 1 to 4 in their order, last set the checkpoint, or 0, also on refusal."
use Rattle.definitions.specs.declared.Settings.{Settings}
use Rattle.definitions.specs.declared.Finality.{Finality}
use Rattle.definitions.specs.declared.Raised.{Raised}
use Rattle.definitions.specs.declared.CloseAnswer.{CloseAnswer}
use Rattle.definitions.specs.declared.JustificationAnswer.{JustificationAnswer}
use Rattle.definitions.specs.Checked.{Checked, code_of, settle}
use Rattle.definitions.specs.Raised.{raised_unless_refused}
use Rattle.definitions_close.specs.FinalizingTest.{finalizing_test}

-- `close_answer_for` of definitions, Raised.antt, with the test's number; `old` is the finality handed in
abbrev pub justification_answer_for : Settings → Checked Finality → Finality → Raised → JustificationAnswer
justification_answer_for s m old raised =
    record { refusal = code_of m; finality = settle m old; raised = raised_unless_refused m raised; test = finalizing_test s old m }

-- the answer less that number
abbrev pub less_test : JustificationAnswer → CloseAnswer
less_test r = record { refusal = r.refusal; finality = r.finality; raised = r.raised }

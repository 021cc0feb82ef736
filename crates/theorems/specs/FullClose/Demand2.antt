-- Demand 2 of a full close: "What is compared with the reference is the record less the pair" (R-8).
use Rattle.std.specs.Prelude.{◌≡◌, ◌⊎◌}
use Rattle.definitions.specs.declared.ActivationLimit.{ActivationLimit}
use Rattle.definitions.specs.declared.ActivationLimit.TheVariants.{Churn}
use Rattle.definitions.specs.Record.{BeaconState}
use Rattle.definitions.specs.Checked.{value}
use Rattle.definitions.specs.Document.ByFork.{document_under}
use Rattle.definitions.specs.Close.{state_of}
use Rattle.definitions_close.specs.FullClose.{FullCall, settings_of, limited_full_tests, FullOutcome}
use Rattle.theorems.specs.Completeness.DocumentIn64Bits as In64Bits
use Rattle.theorems.specs.Completeness.Complete.{CloseParts}
use Rattle.theorems.specs.Completeness.Calls.{outcome_by, Gives}
use Rattle.theorems.specs.FullClose.ByNumber.{plain_outcome}

-- of every call c, whose outcome o is `limited_full_close l c`; `document` is what the fork's document makes of the record handed in
pub record LimitedCloseCall (l : ActivationLimit) (document : BeaconState) (c : FullCall) (o : FullOutcome) : Type 0 where
  pub accepted : o.refusal ≡ 0 → Gives document (plain_outcome o)
  -- it answers as the document in 64 bits would, or a row parts the two
  pub complete : let st = state_of c.call in
      (plain_outcome o ≡ outcome_by (limited_full_tests l c) c.call (In64Bits.limited_epoch l (settings_of c) st))
      ⊎ ((limited_full_tests l c ≡ value tt) × CloseParts l (settings_of c) st)

-- before Deneb
abbrev pub FullCloseCall : FullCall → FullOutcome → Type 0
FullCloseCall c o = LimitedCloseCall Churn (document_under c.call.rules (state_of c.call)) c o

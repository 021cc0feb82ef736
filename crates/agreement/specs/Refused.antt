-- Which refusals the eight steps and the whole close can answer: 4 comes from justification alone, the last two steps answer neither 4
-- nor 5, and nothing but 4 and 5 comes after the tests.
use Rattle.std.specs.Prelude.{◌≡◌, ◌⊎◌, ◌≢◌}
use Rattle.definitions.specs.declared.Settings.{Settings}
use Rattle.definitions.specs.Record.{BeaconState}
use Rattle.definitions.specs.Checked.{value, refused}
use Rattle.definitions.specs.declared.Refusal.{Refusal}
use Rattle.definitions.specs.declared.Refusal.TheVariants.{NoRoot, Overflow}
use Rattle.definitions.specs.Close.{Step, justification_step, slashings_reset_step, participation_flags_step, step, process_epoch, Call, close_tests, closed}
use Rattle.agreement.specs.Agreement.{document_step}

pub record Refused (s : Settings) (st : BeaconState) : Type 0 where
  -- always a value
  pub slashings_reset : step s st slashings_reset_step ≡ value (document_step s st slashings_reset_step)
  pub participation_flags : step s st participation_flags_step ≡ value (document_step s st participation_flags_step)
  -- 5 or 4
  pub justification : (r : Refusal) → step s st justification_step ≡ refused r → (r ≡ Overflow) ⊎ (r ≡ NoRoot)
  -- 5
  pub later : (k : Step) → k ≢ justification_step → (r : Refusal) → step s st k ≡ refused r → r ≡ Overflow
  -- 5, or justification's 4
  pub close : (r : Refusal) → process_epoch s st ≡ refused r → (r ≡ Overflow) ⊎ ((r ≡ NoRoot) × (step s st justification_step ≡ refused NoRoot))

-- a call whose tests passed
abbrev pub AfterTests : Call → Type 0
AfterTests c = (r : Refusal) → close_tests c ≡ value tt → closed c ≡ refused r → (r ≡ Overflow) ⊎ (r ≡ NoRoot)

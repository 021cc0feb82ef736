-- What the code promises once tests have passed.
use Rattle.std.specs.Prelude.{◌≡◌, List, ℕ}
use Rattle.definitions.specs.declared.Settings.{Settings}
use Rattle.definitions.specs.declared.ActivationLimit.{ActivationLimit}
use Rattle.definitions.specs.declared.Rules.{Rules}
use Rattle.definitions.specs.declared.Finality.{Finality}
use Rattle.definitions.specs.declared.ExitQueue.{ExitQueue}
use Rattle.definitions.specs.declared.FullAnswer.{FullAnswer}
use Rattle.definitions.specs.Record.{BeaconState, encode}
use Rattle.definitions.specs.Checked.{value, bind, code_of, settle}
use Rattle.definitions.specs.Raised.{raised_totals, raised_unless_refused}
use Rattle.definitions.specs.Refusals.{closing_buffer}
use Rattle.definitions.specs.Rules.{settings_under}
use Rattle.definitions.specs.Close.{limited_epoch}
use Rattle.definitions_close.specs.Amounts.{limited_closing_amounts}
use Rattle.definitions_close.specs.FinalizingTest.{finalizing_test}
use Rattle.definitions_close.specs.FullClose.{closing_queue, FullOutcome, limited_full_close}
use Rattle.close.specs.Worked.{limited_record_tests}
use Rattle.full_close.specs.Called.{full_called}

-- The eight steps on the state `before`, with the pair q: the answer, and what the lent lists hold
pub record FullWorked (limit : ActivationLimit) (s : Settings) (before : BeaconState) (q : ExitQueue) (opening lent lent_slashings lent_amounts closing closing_slashings amounts : List ℕ) (r : FullAnswer) : Type 0 where
  pub code : r.refusal ≡ code_of (limited_epoch limit s before)
  pub finality : r.finality ≡ (settle (limited_epoch limit s before) before).finality
  pub queue : r.queue ≡ closing_queue (limited_epoch limit s before) q
  pub raised : r.raised ≡ raised_unless_refused (limited_epoch limit s before) (raised_totals s before.finality.slot before.validators)
  pub test : r.test ≡ finalizing_test s before.finality (bind (limited_epoch limit s before) (λ after. value after.finality))
  pub registry : closing ≡ closing_buffer (λ st. encode st.validators) (value tt) (limited_epoch limit s before) opening lent
  pub slashings : closing_slashings ≡ closing_buffer (λ st. st.slashings) (value tt) (limited_epoch limit s before) before.slashings lent_slashings
  pub filled : amounts ≡ limited_closing_amounts limit (value tt) s before lent_amounts

-- The outcome is that of a call under any rules by which the settings are s, and which pass the tests but for those of entries and pair
pub record FullUnder (limit : ActivationLimit) (s : Settings) (f : Finality) (q : ExitQueue) (registry slashings roots closing_registry closing_slashings amounts : List ℕ) (o : FullOutcome) : Type 0 where
  pub under : (r : Rules) → settings_under r ≡ s → let c = full_called r f q registry slashings roots closing_registry closing_slashings amounts in limited_record_tests limit c.call ≡ value tt → o ≡ limited_full_close limit c

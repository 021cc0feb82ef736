-- The close that a user calls: `close` of definitions, lent besides the exit queue's pair (02, R-8) and a list of nine numbers a validator
-- (02, R-4), which also says which of the four finality tests last set the checkpoint.
use Rattle.std.specs.Prelude.{cond, List, ℕ}
use Rattle.definitions.specs.declared.Settings.{Settings}
use Rattle.definitions.specs.declared.Finality.{Finality}
use Rattle.definitions.specs.declared.Raised.{Raised}
use Rattle.definitions.specs.declared.ExitQueue.{ExitQueue}
use Rattle.definitions.specs.declared.ActivationLimit.{ActivationLimit}
use Rattle.definitions.specs.declared.ActivationLimit.TheVariants.{Churn}
use Rattle.definitions.specs.Record.{BeaconState, encode, decode}
use Rattle.definitions.specs.Checked.{Checked, value, refused, bind, code_of, settle}
use Rattle.definitions.specs.declared.Refusal.TheVariants.{BadShape}
use Rattle.definitions.specs.Refusals.{after_tests, closing_buffer}
use Rattle.definitions.specs.Rules.{settings_under}
use Rattle.definitions.specs.Raised.{raised_totals, raised_unless_refused}
use Rattle.definitions.specs.ExitQueue.{queue_of, queue_test}
use Rattle.definitions.specs.Close.{Call, state_of, limited_tests, limited_epoch}
use Rattle.definitions_close.specs.Amounts.{amounts_shaped, limited_closing_amounts}
use Rattle.definitions_close.specs.FinalizingTest.{finalizing_test}

-- All that a close is handed: what `close` is, the pair beside the finality, and a list of any contents for the amounts
pub record FullCall : Type 0 where
  pub call : Call
  pub queue : ExitQueue
  pub amounts : List ℕ

-- 1, 2, 3 and then 8: R-8, "tested after 3, nothing written"; R-4, "A list of the wrong length gets refusal 1"
unfoldable pub limited_full_tests : ActivationLimit → FullCall → Checked (Unit {0})
limited_full_tests limit c =
    let others = bind (limited_tests limit c.call) (λ _. queue_test c.queue (decode c.call.registry)) in
    cond (amounts_shaped c.call.registry c.amounts) others (refused BadShape)

abbrev pub full_tests : FullCall → Checked (Unit {0})
full_tests c = limited_full_tests Churn c

abbrev pub settings_of : FullCall → Settings
settings_of c = settings_under c.call.rules

-- the closed state, or the refusal
unfoldable pub limited_fully_closed : ActivationLimit → FullCall → Checked BeaconState
limited_fully_closed limit c = after_tests (limited_full_tests limit c) (limited_epoch limit (settings_of c) (state_of c.call))

abbrev pub fully_closed : FullCall → Checked BeaconState
fully_closed c = limited_fully_closed Churn c

-- the pair goes in and comes back: on refusal the opening's
unfoldable pub closing_queue : Checked BeaconState → ExitQueue → ExitQueue
closing_queue (value after) before = queue_of after.validators
closing_queue (refused r) before = before

-- What comes back and what the lent lists hold afterwards
pub record FullOutcome : Type 0 where
  pub refusal : ℕ
  pub finality : Finality
  pub queue : ExitQueue
  pub raised : Raised
  pub test : ℕ
  pub closing_registry : List ℕ
  pub closing_slashings : List ℕ
  pub amounts : List ℕ

unfoldable pub limited_full_close : ActivationLimit → FullCall → FullOutcome
limited_full_close limit c =
    let s = settings_of c in
    let opening = state_of c.call in
    let closed = limited_fully_closed limit c in
    let tests = limited_full_tests limit c in
    let work = limited_epoch limit s opening in
    record {
      refusal = code_of closed;
      finality = (settle closed opening).finality;
      queue = closing_queue closed c.queue;
      raised = raised_unless_refused closed (raised_totals c.call.rules.settings opening.finality.slot opening.validators);
      test = finalizing_test c.call.rules.settings opening.finality (bind closed (λ after. value after.finality));
      closing_registry = closing_buffer (λ st. encode st.validators) tests work c.call.registry c.call.closing_registry;
      closing_slashings = closing_buffer (λ st. st.slashings) tests work c.call.slashings c.call.closing_slashings;
      amounts = limited_closing_amounts limit tests s opening c.amounts;
    }

abbrev pub full_close : FullCall → FullOutcome
full_close c = limited_full_close Churn c

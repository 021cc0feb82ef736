-- The tests as the code groups them, and what it promises of a close.
use Rattle.std.specs.Prelude.{◌≡◌, List, [], ◌∷◌, ℕ}
use Rattle.definitions.specs.declared.Settings.{Settings}
use Rattle.definitions.specs.declared.ActivationLimit.{ActivationLimit}
use Rattle.definitions.specs.declared.ActivationLimit.TheVariants.{Churn}
use Rattle.definitions.specs.declared.Rules.{Rules}
use Rattle.definitions.specs.declared.Finality.{Finality}
use Rattle.definitions.specs.declared.CloseAnswer.{CloseAnswer}
use Rattle.definitions.specs.Record.{BeaconState, encode}
use Rattle.definitions.specs.Checked.{Checked, value, code_of, settle}
use Rattle.definitions.specs.Raised.{raised_totals, raised_unless_refused}
use Rattle.definitions.specs.Refusals.{in_order, registry_shaped, roots_shaped, slashings_shaped, same_length, good_finality, closing_buffer}
use Rattle.definitions.specs.Rules.{settings_under, rules_shaped, good_rules}
use Rattle.definitions.specs.Close.{Call, Outcome, good_limit, limited_epoch, close}
use Rattle.close.specs.Called.{called}

-- Tests 1, 2 and 3 but for the registry's entries
unfoldable pub limited_record_tests : ActivationLimit → Call → Checked (Unit {0})
limited_record_tests limit c =
    let s = c.rules.settings in
    let closing = same_length c.registry c.closing_registry ∷ same_length c.slashings c.closing_slashings ∷ [] in
    let shaped = rules_shaped c.rules ∷ registry_shaped c.registry ∷ roots_shaped s c.roots ∷ slashings_shaped s c.slashings ∷ closing in
    in_order shaped (good_rules c.rules ∷ good_limit limit) (good_finality c.finality ∷ [])

abbrev pub record_tests : Call → Checked (Unit {0})
record_tests c = limited_record_tests Churn c

-- The eight steps on the state `before`, with the opening's registry and slashings put back where they are refused. What was lent to close into does
-- not matter.
pub record StepsClosed (limit : ActivationLimit) (s : Settings) (before : BeaconState) (opening lent lent_slashings closing closing_slashings : List ℕ) (r : CloseAnswer) : Type 0 where
  pub code : r.refusal ≡ code_of (limited_epoch limit s before)
  pub finality : r.finality ≡ (settle (limited_epoch limit s before) before).finality
  pub raised : r.raised ≡ raised_unless_refused (limited_epoch limit s before) (raised_totals s before.finality.slot before.validators)
  pub registry : closing ≡ closing_buffer (λ st. encode st.validators) (value tt) (limited_epoch limit s before) opening lent
  pub slashings : closing_slashings ≡ closing_buffer (λ st. st.slashings) (value tt) (limited_epoch limit s before) before.slashings lent_slashings

-- The outcome is that of a call under any rules by which the settings are s, and which pass these tests
pub record ClosedUnder (s : Settings) (f : Finality) (registry slashings roots closing_registry closing_slashings : List ℕ) (o : Outcome) : Type 0 where
  pub under : (r : Rules) → settings_under r ≡ s → let c = called r f registry slashings roots closing_registry closing_slashings in record_tests c ≡ value tt → o ≡ close c

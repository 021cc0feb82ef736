-- A turn of Electra's registry loop by the few numbers that it reads, which the step works out once: proofs/Text.antt, it is the text's.
use Rattle.std.specs.Prelude.{◌≡◌, Bool, cond, ◌&&◌, List, ℕ, ◌+◌, leb, eqb}
use Rattle.definitions.specs.Record.{Validator, FAR_FUTURE_EPOCH, decode_one, encode_one}
use Rattle.definitions.specs.Updates.{with_eligibility, with_activation, with_exit}
use Rattle.definitions.specs.Checked.{Checked, value, refused, bind, add64, settle}
use Rattle.definitions.specs.declared.Refusal.TheVariants.{Overflow}
use Rattle.definitions.specs.Document.Phase0.Helpers.{is_active_validator, is_eligible_for_activation}
use Rattle.definitions_electra.specs.declared.ExitChurn.{ExitChurn}
use Rattle.definitions_electra.specs.Evaluated.Electra.Helpers.{churned}
use Rattle.electra_registry.specs.declared.updates.RegistryNumbers.{RegistryNumbers}

-- a limit as one number: 0 where the total active balance left 64 bits
unfoldable pub limit_of : ℕ → Checked ℕ
limit_of limit = cond (eqb limit 0) (refused Overflow) (value limit)

unfoldable pub churn_by : ℕ → ℕ → ExitChurn → ℕ → Checked ExitChurn
churn_by least limit churn balance = bind (limit_of limit) (λ l. churned least l churn balance)

-- a validator and the record's two numbers
pub record Turned : Type 0 where
  pub validator : Validator
  pub churn : ExitChurn

abbrev pub kept : ExitChurn → Validator → Turned
kept churn v = record { validator = v; churn = churn }

unfoldable pub exit_with : ℕ → ℕ → ℕ → ExitChurn → Validator → Checked Turned
exit_with least limit delay churn v =
    cond (eqb v.exit_epoch FAR_FUTURE_EPOCH)
    (bind (churn_by least limit churn v.effective_balance) (λ after.
    bind (add64 after.earliest_exit_epoch delay) (λ withdrawable.
    value (kept after (with_exit after.earliest_exit_epoch withdrawable v)))))
    (value (kept churn v))

-- The three tests

abbrev pub is_queued : RegistryNumbers → Validator → Bool
is_queued n v = eqb v.activation_eligibility_epoch FAR_FUTURE_EPOCH && leb n.min_activation_balance v.effective_balance

abbrev pub is_ejected_by : RegistryNumbers → Validator → Bool
is_ejected_by n v = is_active_validator v n.epoch && leb v.effective_balance n.ejection_balance

abbrev pub is_activated : RegistryNumbers → Validator → Bool
is_activated n v = is_eligible_for_activation n.finalized_epoch v

unfoldable pub turn_by : RegistryNumbers → ExitChurn → Validator → Checked Turned
turn_by n churn v =
    cond (is_queued n v) (value (kept churn (with_eligibility (n.epoch + 1) v)))
    (cond (is_ejected_by n v) (exit_with n.least n.limit n.delay churn v)
    (cond (is_activated n v) (value (kept churn (with_activation n.least v))) (value (kept churn v))))

-- What a function on one validator's ten numbers and the churn promises: the two numbers, or why f is refused, and the ten numbers, left as lent where
-- it is
pub record Turns (f : Validator → Checked Turned) (churn : ExitChurn) (before after : List ℕ) (r : Checked ExitChurn) : Type 0 where
  pub is : r ≡ bind (f (decode_one before)) (λ t. value t.churn)
  pub held : after ≡ encode_one (settle (f (decode_one before)) (kept churn (decode_one before))).validator

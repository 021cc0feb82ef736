-- What an Electra close answers where it is refused.
use Rattle.std.specs.Prelude.{List, ℕ, ◌/◌, length}
use Rattle.definitions.specs.declared.Finality.{Finality}
use Rattle.definitions.specs.Raised.{none_raised}
use Rattle.definitions_electra.specs.declared.ExitChurn.{ExitChurn}
use Rattle.definitions_electra.specs.declared.DepositNumbers.{DepositNumbers}
use Rattle.definitions_electra.specs.Refusals.{count_of, deposits_of}
use Rattle.definitions_electra_close.specs.declared.ElectraAnswer.{ElectraAnswer}

abbrev pub as_opened : ℕ → Finality → ExitChurn → DepositNumbers → List ℕ → List ℕ → List ℕ → ElectraAnswer
as_opened refusal f churn numbers registry deposits consolidations =
    record {
      refusal = refusal;
      finality = f;
      raised = none_raised;
      test = 0;
      validators = count_of registry;
      deposits = deposits_of deposits;
      consolidations = length consolidations / 2;
      deposit_balance_to_consume = numbers.deposit_balance_to_consume;
      churn = churn;
    }

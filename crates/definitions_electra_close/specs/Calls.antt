-- A call of the close under Electra as it is made and as it came back: what the exported function says of itself.
use Rattle.std.specs.Prelude.{List, ℕ}
use Rattle.definitions.specs.declared.Finality.{Finality}
use Rattle.definitions_electra.specs.declared.ElectraRules.{ElectraRules}
use Rattle.definitions_electra.specs.declared.ExitChurn.{ExitChurn}
use Rattle.definitions_electra.specs.declared.DepositNumbers.{DepositNumbers}
use Rattle.definitions_electra_close.specs.declared.ElectraAnswer.{ElectraAnswer}
use Rattle.definitions_electra_close.specs.Close.{ElectraCall, ElectraOutcome}

abbrev pub electra_called : ElectraRules → Finality → ExitChurn → DepositNumbers → List ℕ → List ℕ → List ℕ → List ℕ → List ℕ → List ℕ → List ℕ
    → List ℕ → List ℕ → List ℕ → List ℕ → List ℕ → List ℕ → ElectraCall
electra_called r f churn numbers registry compounding slashings roots deposits consolidations closing_registry closing_compounding closing_slashings
    closing_deposits closing_consolidations amounts places =
    record {
      rules = r;
      finality = f;
      churn = churn;
      numbers = numbers;
      registry = registry;
      compounding = compounding;
      slashings = slashings;
      roots = roots;
      deposits = deposits;
      consolidations = consolidations;
      closing_registry = closing_registry;
      closing_compounding = closing_compounding;
      closing_slashings = closing_slashings;
      closing_deposits = closing_deposits;
      closing_consolidations = closing_consolidations;
      amounts = amounts;
      places = places;
    }

abbrev pub electra_outcome : ElectraAnswer → List ℕ → List ℕ → List ℕ → List ℕ → List ℕ → List ℕ → ElectraOutcome
electra_outcome answer registry compounding slashings deposits consolidations amounts =
    record {
      answer = answer;
      closing_registry = registry;
      closing_compounding = compounding;
      closing_slashings = slashings;
      closing_deposits = deposits;
      closing_consolidations = consolidations;
      amounts = amounts;
    }

-- The numbers of the registry step, by the total active balance.
use Rattle.std.specs.Prelude.{ℕ, ◌+◌}
use Rattle.definitions_electra.specs.declared.ElectraRules.{ElectraRules}
use Rattle.definitions_electra.specs.Document.Electra.Helpers.{activation_exit_churn_limit}
use Rattle.electra_registry.specs.declared.updates.RegistryNumbers.{RegistryNumbers}

abbrev pub numbers_by : ElectraRules → ℕ → ℕ → ℕ → RegistryNumbers
numbers_by r epoch finalized_epoch total =
    record {
      epoch = epoch;
      finalized_epoch = finalized_epoch;
      least = epoch + 1 + r.settings.max_seed_lookahead;
      limit = activation_exit_churn_limit r total;
      delay = r.settings.min_validator_withdrawability_delay;
      min_activation_balance = r.electra.min_activation_balance;
      ejection_balance = r.settings.ejection_balance;
    }

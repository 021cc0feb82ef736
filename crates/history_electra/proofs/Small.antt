-- A small network for the examples, which are checked by computing.
use mathlib.Core.Bool.{false}
use mathlib.Core.List.{List, []}
use Prim.Native.Nat.{ℕ}
use Rattle.definitions.specs.Record.{BeaconState}
use Rattle.definitions.specs.Checked.{value}
use Rattle.definitions_electra.specs.declared.ElectraRules.{ElectraRules}
use Rattle.definitions_electra.specs.declared.PendingDeposit.{PendingDeposit}
use Rattle.definitions_electra.specs.Record.{ElectraState}
use Rattle.history.proofs.Small.{settings_of, record_of}
use Rattle.history_electra.specs.DepositsEarn.{Close}

-- by slots_per_epoch, max_pending_deposits_per_epoch, and the churn limit, which the few validators' balance never raises
abbrev pub rules : ℕ → ℕ → ℕ → ElectraRules
rules slots number churn =
    record {
      settings = settings_of slots 2;
      bellatrix = record { inactivity_penalty_quotient_bellatrix = 1; proportional_slashing_multiplier_bellatrix = 2 };
      electra = record {
        min_activation_balance = 32;
        max_effective_balance_electra = 2048;
        min_per_epoch_churn_limit_electra = churn;
        max_per_epoch_activation_exit_churn_limit = 1000;
        max_pending_deposits_per_epoch = number;
      };
    }

-- by finality and registry, what is carried, and the queue; the bridge's deposits are all there
abbrev pub state : BeaconState → List ℕ → List ℕ → ℕ → List PendingDeposit → ElectraState
state altair pubkeys compounding carried deposits =
    record {
      altair = altair;
      pubkeys = pubkeys;
      compounding = compounding;
      deposit_balance_to_consume = carried;
      churn = record { exit_balance_to_consume = 0; earliest_exit_epoch = 0 };
      eth1_deposit_index = 0;
      deposit_requests_start_index = 0;
      pending_deposits = deposits;
      pending_consolidations = [];
    }

-- no validators, slot 0 and this finalized epoch
abbrev pub empty : ℕ → ℕ → List PendingDeposit → ElectraState
empty final carried deposits = state (record_of 0 0 final final final []) [] [] carried deposits

-- by key, amount and slot; its signature is not valid
abbrev pub deposit : ℕ → ℕ → ℕ → PendingDeposit
deposit key amount slot = record { pubkey = key; compounding = 0; amount = amount; slot = slot; valid = 0 }

-- a close whose tests pass, and of which others stay
abbrev pub close : ElectraRules → ElectraState → Close
close r st = record { rules = r; tests = value tt; opening = st; others_stay = false }

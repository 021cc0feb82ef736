-- Every freedom that demand 3 leaves is used in one list: others change balances, effective balances, slashed, exits, scores, flags, bits,
-- slashings, roots and slot, and add a validator; each close names a fork and lends a pair; a closing buffer has another length; closes are
-- refused, and what others did then stays or not. By the claim alone, the one who waits has its activation epoch.
use mathlib.Core.Path.{◌≡◌, refl, sym, ◌∙◌}
use mathlib.Core.Logic.{◌≢◌}
use mathlib.Core.Bool.{Bool, true, false}
use mathlib.Core.List.{List, [], ◌∷◌, ◌++◌, map, append-nil}
use Prim.Native.Nat.{ℕ, ◌+◌, ◌/◌, ◌≤◌}
use native.Mathlib.Omega.{arith}
use lib.Dec.{T}
use lib.ListN.{length, replicate}
use Rattle.definitions.specs.declared.Settings.{Settings}
use Rattle.definitions.specs.declared.Rules.{Rules}
use Rattle.definitions.specs.Record.{Validator, BeaconState, FAR_FUTURE_EPOCH, encode}
use Rattle.definitions.specs.Close.{Call, close}
use Rattle.history.specs.Events.{activation, waits, ahead, k, Others, Event, accepted, standing}
use Rattle.history.specs.Demand3.{Close, event, returned_by, close_of, Premises}
use Rattle.history.proofs.Computing.{computing}
use Rattle.history.proofs.Premises.{met}
use Rattle.history.proofs.Follow.{follow}
use Rattle.history.proofs.Small.{settings_of, settings, validator, far, record_of, call}
use Rattle.history.proofs.WholeClose.{demand3}

-- a validator's ten numbers
abbrev entry : ℕ → ℕ → ℕ → ℕ → ℕ → ℕ → ℕ → ℕ → ℕ → ℕ → Validator
entry effective slashed eligibility activation exit withdrawable balance previous current score =
    record {
      effective_balance = effective;
      slashed = slashed;
      activation_eligibility_epoch = eligibility;
      activation_epoch = activation;
      exit_epoch = exit;
      withdrawable_epoch = withdrawable;
      balance = balance;
      previous_epoch_participation = previous;
      current_epoch_participation = current;
      inactivity_score = score;
    }

-- fork and pair
abbrev by : ℕ → ℕ → ℕ → Rules
by fork quotient multiplier =
    record {
      settings = settings;
      fork = fork;
      bellatrix = record { inactivity_penalty_quotient_bellatrix = quotient; proportional_slashing_multiplier_bellatrix = multiplier };
    }

-- what others make of r, as a call: all but the checkpoints is anew, and so are the closing buffers, of n numbers and of one
abbrev handed : Rules → BeaconState → ℕ → ℕ → List Validator → ℕ → ℕ → ℕ → Call
handed rules r slot bits vs slashing root n =
    record {
      rules = rules;
      finality = record {
        slot = slot;
        justification_bits = bits;
        previous_justified_checkpoint = r.finality.previous_justified_checkpoint;
        current_justified_checkpoint = r.finality.current_justified_checkpoint;
        finalized_checkpoint = r.finality.finalized_checkpoint;
      };
      registry = encode vs;
      slashings = slashing ∷ [];
      roots = replicate 256 root;
      closing_registry = replicate n 7;
      closing_slashings = 7 ∷ [];
    }

-- one active, and three who wait: numbers 2 and 3 are ahead of 1
abbrev start : BeaconState
start = record_of 15 3 1 2 1 (validator 0 0 7 7 ∷ validator 1 far 0 0 ∷ validator 0 far 0 0 ∷ validator 0 far 0 0 ∷ [])

-- 1: a closing registry of 39 numbers
abbrev first : Call
first = handed (by 0 0 0) start 15 3 (entry 32 0 0 0 far far 40 7 7 0 ∷ validator 1 far 0 0 ∷ validator 0 far 0 0 ∷ validator 0 far 0 0 ∷ []) 0 0 39

-- 3: bits over 15
abbrev second : Call
second = handed (by 1 7 3) start 15 16 (entry 32 1 0 0 far far 32 7 7 0 ∷ validator 1 far 0 0 ∷ validator 0 far 0 0 ∷ validator 0 far 0 0 ∷ []) 0 0 40

-- accepted, of epoch 3: numbers 2, which is slashed and loses balance, and 3 are activated
abbrev third : Call
third = handed (by 1 16_777_216 3) start 15 2 (entry 31 0 0 0 far far 33 7 7 3 ∷ entry 32 0 1 far 9 265 32 0 0 5 ∷ entry 32 1 0 far far 3 32 0 0 0 ∷ entry 17 0 0 far far far 17 1 2 0 ∷ []) 5 9 40

abbrev then : BeaconState
then = returned_by third (close third)

-- 4: at the first slot of epoch 4 its root is not there yet
abbrev fourth : Call
fourth = handed (by 0 far far) then 16 7 (entry 32 0 0 0 far far 33 7 7 0 ∷ entry 32 0 1 far 9 265 32 0 0 5 ∷ entry 22 1 0 8 far 3 22 0 0 0 ∷ entry 17 0 0 8 far far 17 1 2 0 ∷ []) 1 8 40

-- 5: a balance that the hysteresis takes out of 64 bits
abbrev fifth : Call
fifth = handed (by 1 1 0) then 19 5 (entry 32 0 0 0 far far far 7 0 0 ∷ entry 32 0 1 far far far 32 0 0 0 ∷ entry 22 0 0 8 far far 22 0 0 0 ∷ entry 17 0 0 8 20 276 17 0 0 0 ∷ []) 2 7 40

-- accepted, of epoch 4, with a validator that others have added: number 1 is activated
abbrev sixth : Call
sixth = handed (by 0 0 9) then 19 6 (entry 30 0 0 0 far far 31 7 0 0 ∷ entry 1 1 1 far 9 10 0 0 0 9 ∷ entry 0 0 0 8 8 8 0 255 0 0 ∷ entry 17 0 0 8 far far 17 1 2 0 ∷ validator far far 0 0 ∷ []) 3 6 50

abbrev calls : List (Bool × Call)
calls = (false, first) ∷ (true, second) ∷ (false, third) ∷ (true, fourth) ∷ (false, fifth) ∷ (true, sixth) ∷ []

unfoldable pub run : List Close
run = map close_of calls

abbrev pub events : List Event
events = map event run

pub refusals : map (λ c. c.outcome.refusal) run ≡ 1 ∷ 3 ∷ 0 ∷ 4 ∷ 5 ∷ 0 ∷ []
unfolding run computing
refusals = refl

pub premises : Premises settings start run
unfolding run computing
premises =
    record {
      churn = omega arith;
      stay = refl;
      list = met start (map event (map close_of calls))
          (record {
            handed = (
              follow refl refl refl (refl, refl, (refl, refl, (refl, refl, (refl, refl, tt)))),
              (
                follow refl refl refl (refl, refl, (refl, refl, (refl, refl, (refl, refl, tt)))),
                (
                  follow refl refl refl (refl, refl, (refl, refl, (refl, refl, (refl, refl, tt)))),
                  (
                    follow refl refl refl (refl, refl, (refl, refl, (refl, refl, (refl, refl, tt)))),
                    (
                      follow refl refl refl (refl, refl, (refl, refl, (refl, refl, (refl, refl, tt)))),
                      (follow refl refl refl (refl, refl, (refl, refl, (refl, refl, (refl, refl, (refl, refl, tt))))), tt),
                    ),
                  ),
                ),
              ),
            );
            rising = (omega arith, tt);
            ordered = record { low = omega arith; middle = omega arith; high = omega arith };
          });
    }

-- number 1 waits with 2 ahead, and floor(2 / 2) + 1 are accepted
pub record Owed : Type 0 where
  pub waiting : T (waits start 1)
  pub enough : k start 1 / 2 + 1 ≤ length (accepted events)

pub owed : Owed
unfolding run waits ahead k computing
owed = record { waiting = tt; enough = omega arith }

pub by_the_claim : activation (standing start events) 1 ≢ FAR_FUTURE_EPOCH
unfolding run
by_the_claim = ((demand3 settings start calls premises).activated [] events [] [] 1 (sym (append-nil (events ++ []) ∙ append-nil events)) owed.waiting (omega (arith, owed.enough))).0

-- 2: settings that stay are refused in every close that has the lengths called for
abbrev no-slots : Settings
no-slots = settings_of 0 2

abbrev refused-calls : List (Bool × Call)
refused-calls = (true, call no-slots 40 start) ∷ (false, call no-slots 39 start) ∷ (false, call no-slots 40 start) ∷ []

unfoldable pub refused-run : List Close
refused-run = map close_of refused-calls

pub record SettingsRefused : Type 0 where
  pub refusals-given : map (λ c. c.outcome.refusal) refused-run ≡ 2 ∷ 1 ∷ 2 ∷ []
  pub premises-met : Premises no-slots start refused-run

pub settings-refused : SettingsRefused
unfolding refused-run computing
settings-refused =
    record {
      refusals-given = refl;
      premises-met = record {
        churn = omega arith;
        stay = refl;
        list = met start (map event (map close_of refused-calls)) (record { handed = (as_it_was, (as_it_was, (as_it_was, tt))); rising = tt; ordered = tt });
      };
    }
  where
    as_it_was : Others start start
    as_it_was = follow refl refl refl (refl, refl, (refl, refl, (refl, refl, (refl, refl, tt))))

-- Wrong closes are shut out by the claim itself. Each is a list of closes with literal outcomes: the premises hold, and the claim is false.
use mathlib.Core.Path.{refl}
use mathlib.Core.Bool.{false}
use mathlib.Core.List.{List, [], ◌∷◌, map}
use Prim.Native.Nat.{ℕ}
use native.Mathlib.Omega.{arith}
use Rattle.definitions.specs.Record.{BeaconState, encode}
use Rattle.definitions.specs.Raised.{none_raised}
use Rattle.history.specs.Events.{waits, ahead, k, Claim}
use Rattle.history.specs.Demand3.{Close, event, Premises}
use Rattle.history.proofs.OneClose.{epoch-of}
use Rattle.history.proofs.Premises.{met}
use Rattle.history.proofs.Computing.{computing}
use Rattle.history.proofs.Follow.{follow}
use Rattle.history.proofs.Small.{settings, validator, far, record_of, call}

-- handed o, accepted, and r comes back
abbrev returning : BeaconState → BeaconState → Close
returning o r =
    record {
      call = call settings 30 o;
      outcome = record { refusal = 0; finality = r.finality; raised = none_raised; closing_registry = encode r.validators; closing_slashings = r.slashings };
      others_stay = false;
    }

pub record Refuted (start : BeaconState) (closes : List Close) : Type 0 where
  pub premises : Premises settings start closes
  pub not_claimed : Claim 2 start (map event closes) → ⊥

-- Of one close, of epoch 3, with churn limit 2: previous justified 1, current justified 2, finalized 1; number 2 is first in the queue

abbrev start : BeaconState
start = record_of 15 3 1 2 1 (validator 1 far 0 0 ∷ validator 1 far 0 0 ∷ validator 0 far 0 0 ∷ [])

abbrev returns : BeaconState → List Close
returns r = returning start r ∷ []

premises-start : (r : BeaconState) → Premises settings start (returns r)
unfolding computing
premises-start r =
    record {
      churn = omega arith;
      stay = refl;
      list = met start (map event (returns r)) (record { handed = (follow refl refl refl (refl, refl, (refl, refl, (refl, refl, tt))), tt); rising = tt; ordered = record { low = omega arith; middle = omega arith; high = omega arith } });
    }

-- the opening is handed back
pub handed-back : Refuted start (returns start)
unfolding waits ahead k computing
handed-back = record { premises = premises-start start; not_claimed = λ c. (c.activated [] (map event (returns start)) [] [] 2 refl tt (omega arith)).0 refl }

-- activation by number alone: 0 and 1 are activated, and 2, with nobody ahead, is not
abbrev numbered : BeaconState
numbered = record_of 15 7 2 3 2 (validator 1 8 0 0 ∷ validator 1 8 0 0 ∷ validator 0 far 0 0 ∷ [])

pub by_number : Refuted start (returns numbered)
unfolding waits ahead k computing
by_number = record { premises = premises-start numbered; not_claimed = λ c. (c.activated [] (map event (returns numbered)) [] [] 2 refl tt (omega arith)).0 refl }

-- number 2 is dropped: past the end of the registry its activation epoch reads 0, which is not FAR
abbrev dropped : BeaconState
dropped = record_of 15 7 2 3 2 (validator 1 8 0 0 ∷ validator 1 8 0 0 ∷ [])

pub one-dropped : Refuted start (returns dropped)
unfolding waits ahead k computing
one-dropped = record { premises = premises-start dropped; not_claimed = λ c. absurd (omega (arith, (c.activated [] (map event (returns dropped)) [] [] 2 refl tt (omega arith)).2)) }

-- the finalized epoch falls
abbrev lowered : BeaconState
lowered = record_of 15 7 2 3 0 (validator 1 far 0 0 ∷ validator 1 8 0 0 ∷ validator 0 8 0 0 ∷ [])

pub finality-lowered : Refuted start (returns lowered)
unfolding computing
finality-lowered = record { premises = premises-start lowered; not_claimed = λ c. absurd (omega (arith, c.kept [] (map event (returns lowered)) [] refl)) }

-- Four epochs back: a close of epoch 6 finalizes the previous justified checkpoint, of epoch 2

abbrev stalled : ℕ → BeaconState
stalled final = record_of 27 15 2 3 final (validator 0 0 0 0 ∷ [])

pub four-back : Refuted (stalled 1) (returning (stalled 1) (stalled 2) ∷ [])
unfolding computing
four-back =
    record {
      premises = record {
        churn = omega arith;
        stay = refl;
        list = met (stalled 1) _ (record { handed = (follow refl refl refl (refl, refl, tt), tt); rising = tt; ordered = record { low = omega arith; middle = omega arith; high = omega arith } });
      };
      not_claimed = λ c. absurd (omega (arith, (c.changed [] [] (event (returning (stalled 1) (stalled 2))) refl (λ p. absurd (omega (arith, epoch-of p)))).2));
    }

-- Its own epoch: a close of epoch 3 justifies epoch 4, and the one of epoch 4 finalizes it

abbrev hasty : ℕ → ℕ → ℕ → BeaconState
hasty slot current final = record_of slot 3 2 current final (validator 0 0 0 0 ∷ [])

abbrev hasty-closes : List Close
hasty-closes = returning (hasty 15 2 1) (hasty 15 4 1) ∷ returning (hasty 19 4 1) (hasty 19 4 4) ∷ []

pub own-epoch : Refuted (hasty 15 2 1) hasty-closes
unfolding computing
own-epoch =
    record {
      premises = record {
        churn = omega arith;
        stay = refl;
        list = met (hasty 15 2 1) (map event hasty-closes) (record { handed = (follow refl refl refl (refl, refl, tt), (follow refl refl refl (refl, refl, tt), tt)); rising = (omega arith, tt); ordered = record { low = omega arith; middle = omega arith; high = omega arith } });
      };
      not_claimed = λ c. absurd (omega (arith, (c.changed (event (returning (hasty 15 2 1) (hasty 15 4 1)) ∷ []) [] (event (returning (hasty 19 4 1) (hasty 19 4 4))) refl (λ p. absurd (omega (arith, epoch-of p)))).1));
    }

-- An activation epoch that a close of epoch 3 gave is changed by one of epoch 4

abbrev waiter : ℕ → ℕ → BeaconState
waiter slot activation = record_of slot 3 1 2 1 (validator 0 activation 0 0 ∷ [])

abbrev moving : List Close
moving = returning (waiter 15 far) (waiter 15 8) ∷ returning (waiter 19 8) (waiter 19 9) ∷ []

pub activation-moved : Refuted (waiter 15 far) moving
unfolding waits ahead k computing
activation-moved =
    record {
      premises = record {
        churn = omega arith;
        stay = refl;
        list = met (waiter 15 far) (map event moving) (record { handed = (follow refl refl refl (refl, refl, tt), (follow refl refl refl (refl, refl, tt), tt)); rising = (omega arith, tt); ordered = record { low = omega arith; middle = omega arith; high = omega arith } });
      };
      not_claimed = λ c. absurd (omega (arith, (c.activated [] (event (returning (waiter 15 far) (waiter 15 8)) ∷ []) (event (returning (waiter 19 8) (waiter 19 9)) ∷ []) [] 0 refl tt (omega arith)).3));
    }

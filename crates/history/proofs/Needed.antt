-- The premises are needed: for each part of them a list of closes that meets the others, and of which the claim is false. One part is not among
-- them, since the claim's proof does not use it: that a validator which others add carries no activation epoch.
use mathlib.Core.Path.{refl}
use mathlib.Core.Bool.{Bool, false}
use mathlib.Core.List.{List, [], ◌∷◌, map}
use Prim.Native.Nat.{ℕ}
use native.Mathlib.Nat.{div-zero}
use native.Mathlib.Omega.{arith}
use Rattle.definitions.specs.Record.{Validator, BeaconState}
use Rattle.definitions.specs.Close.{Call}
use Rattle.history.specs.Events.{waits, ahead, k, after}
use Rattle.history.specs.Demand3.{event, close_of}
use Rattle.history.proofs.Computing.{computing}
use Rattle.history.proofs.Small.{settings_with, settings, validator, far, record_of, call}
use Rattle.history.proofs.Parts.{Part, limit, settings_stay, previous_checkpoint, current_checkpoint, finalized_checkpoint, numbering, eligibilities, activations, new_eligibilities, rising, finalized_low, previous_low, current_low, OthersBut, Shows, registry-kept, all-kept, one, came, in_one}

-- The order of the checkpoints at the start

-- finalized 3, previous justified 2, current justified 3; a close of epoch 4 justifies the previous epoch alone and finalizes 2
abbrev finalized-above : BeaconState
finalized-above = record_of 19 3 2 3 3 (validator 0 0 7 0 ∷ [])

low-shown : Shows finalized_low
unfolding computing
low-shown =
    record {
      settings-used = settings;
      start = finalized-above;
      calls = one 10 finalized-above;
      others-met = in_one finalized_low finalized-above 10 finalized-above (all-kept finalized_low finalized-above) (record { low = λ t. absurd t; middle = λ _. omega arith; high = λ _. omega arith });
      not_claimed = λ c. absurd (omega (arith, c.kept [] (came 10 finalized-above) [] refl));
    }

-- finalized 2, previous justified 2, current justified 1; a close of epoch 3 justifies both epochs and finalizes 1
abbrev current-below : BeaconState
current-below = record_of 15 3 2 1 2 (validator 0 0 7 7 ∷ [])

middle-shown : Shows previous_low
unfolding computing
middle-shown =
    record {
      settings-used = settings;
      start = current-below;
      calls = one 10 current-below;
      others-met = in_one previous_low current-below 10 current-below (all-kept previous_low current-below) (record { low = λ _. omega arith; middle = λ t. absurd t; high = λ _. omega arith });
      not_claimed = λ c. absurd (omega (arith, c.kept [] (came 10 current-below) [] refl));
    }

-- checkpoints of epoch 7 and a close of epoch 0: two get eligibility epoch 1 in it and pass the one who waits
abbrev ahead_of_time : BeaconState
ahead_of_time = record_of 3 0 7 7 7 (validator 5 far 0 0 ∷ validator far far 0 0 ∷ validator far far 0 0 ∷ [])

high-shown : Shows current_low
unfolding waits ahead k computing
high-shown =
    record {
      settings-used = settings;
      start = ahead_of_time;
      calls = one 30 ahead_of_time;
      others-met = in_one current_low ahead_of_time 30 ahead_of_time (all-kept current_low ahead_of_time) (record { low = λ _. omega arith; middle = λ _. omega arith; high = λ t. absurd t });
      not_claimed = λ c. (c.activated [] (came 30 ahead_of_time) [] [] 0 refl tt (omega arith)).0 refl;
    }

-- Rising epochs

-- a close of epoch 8, then one of epoch 0 before which others added two, who pass the one who waits
abbrev at-eight : BeaconState
at-eight = record_of 35 0 7 7 7 (validator 0 0 0 0 ∷ validator 0 far 0 0 ∷ validator 0 far 0 0 ∷ validator 5 far 0 0 ∷ [])

abbrev at_zero : BeaconState
at_zero = record_of 3 0 7 7 7 (validator 0 0 0 0 ∷ validator 0 13 0 0 ∷ validator 0 13 0 0 ∷ validator 5 far 0 0 ∷ validator far far 0 0 ∷ validator far far 0 0 ∷ [])

rising-shown : Shows rising
unfolding waits ahead k computing
rising-shown =
    record {
      settings-used = settings;
      start = at-eight;
      calls = (false, call settings 40 at-eight) ∷ one 60 at_zero;
      others-met = record {
        churn = λ _. omega arith;
        stay = λ _. refl;
        handed = (all-kept rising at-eight, (added, tt));
        later = λ t. absurd t;
        ordered = record { low = λ _. omega arith; middle = λ _. omega arith; high = λ _. omega arith };
      };
      not_claimed = λ c. (c.activated (came 40 at-eight) (came 60 at_zero) [] [] 3 refl tt (omega arith)).0 refl;
    }
  where
    added : OthersBut rising (after at-eight (event (close_of (false, call settings 40 at-eight)))) at_zero
    added =
        record {
          previous = λ _. refl;
          current = λ _. refl;
          final = λ _. refl;
          registry = record {
            more = λ _. omega arith;
            eligibility = λ _. (refl, (refl, (refl, (refl, tt))));
            activation = λ _. (refl, (refl, (refl, (refl, tt))));
            new_eligibility = λ _. (refl, (refl, tt));
            new_activation = (refl, (refl, tt));
          };
        }

-- The checkpoints, between closes

-- finalized 2, and others lower the previous justified one from 2 to 1; a close of epoch 4 justifies the previous epoch and finalizes 1
abbrev justified : ℕ → BeaconState
justified previous = record_of 19 7 previous 3 2 (validator 0 0 7 0 ∷ [])

previous-shown : Shows previous_checkpoint
unfolding computing
previous-shown =
    record {
      settings-used = settings;
      start = justified 2;
      calls = one 10 (justified 1);
      others-met = in_one previous_checkpoint (justified 2) 10 (justified 1) (record { previous = λ t. absurd t; current = λ _. refl; final = λ _. refl; registry = registry-kept previous_checkpoint (justified 2).validators }) (record { low = λ _. omega arith; middle = λ _. omega arith; high = λ _. omega arith });
      not_claimed = λ c. absurd (omega (arith, c.kept [] (came 10 (justified 1)) [] refl));
    }

-- the same with the current justified one, and a close of epoch 3 that justifies both epochs
abbrev both-justified : ℕ → BeaconState
both-justified current = record_of 15 3 2 current 2 (validator 0 0 7 7 ∷ [])

current-shown : Shows current_checkpoint
unfolding computing
current-shown =
    record {
      settings-used = settings;
      start = both-justified 2;
      calls = one 10 (both-justified 1);
      others-met = in_one current_checkpoint (both-justified 2) 10 (both-justified 1) (record { previous = λ _. refl; current = λ t. absurd t; final = λ _. refl; registry = registry-kept current_checkpoint (both-justified 2).validators }) (record { low = λ _. omega arith; middle = λ _. omega arith; high = λ _. omega arith });
      not_claimed = λ c. absurd (omega (arith, c.kept [] (came 10 (both-justified 1)) [] refl));
    }

-- others lower the finalized one, and a close in which nobody votes leaves it there
abbrev finalizing : ℕ → BeaconState
finalizing final = record_of 19 0 1 1 final (validator 0 0 0 0 ∷ [])

final-shown : Shows finalized_checkpoint
unfolding computing
final-shown =
    record {
      settings-used = settings;
      start = finalizing 1;
      calls = one 10 (finalizing 0);
      others-met = in_one finalized_checkpoint (finalizing 1) 10 (finalizing 0) (record { previous = λ _. refl; current = λ _. refl; final = λ t. absurd t; registry = registry-kept finalized_checkpoint (finalizing 1).validators }) (record { low = λ _. omega arith; middle = λ _. omega arith; high = λ _. omega arith });
      not_claimed = λ c. absurd (omega (arith, c.kept [] (came 10 (finalizing 0)) [] refl));
    }

-- The registry, between closes: one waits with eligibility epoch 1 and nobody ahead, and is not activated in a close of epoch 3

abbrev with-others : List Validator → BeaconState
with-others vs = record_of 15 3 1 2 1 (validator 0 0 7 7 ∷ validator 1 far 0 0 ∷ vs)

-- others drop it
abbrev dropped : BeaconState
dropped = record_of 15 3 1 2 1 (validator 0 0 7 7 ∷ [])

numbering_shown : Shows numbering
unfolding waits ahead k computing
numbering_shown =
    record {
      settings-used = settings;
      start = (with-others []);
      calls = one 10 dropped;
      others-met = in_one numbering (with-others []) 10 dropped (record { previous = λ _. refl; current = λ _. refl; final = λ _. refl; registry = record { more = λ t. absurd t; eligibility = λ _. (refl, tt); activation = λ _. (refl, tt); new_eligibility = λ _. tt; new_activation = tt } }) (record { low = λ _. omega arith; middle = λ _. omega arith; high = λ _. omega arith });
      not_claimed = λ c. absurd (omega (arith, (c.activated [] (came 10 dropped) [] [] 1 refl tt (omega arith)).2));
    }

-- others make two eligible before it
eligibility-shown : Shows eligibilities
unfolding waits ahead k computing
eligibility-shown =
    record {
      settings-used = settings;
      start = (with-others (validator far far 0 0 ∷ validator far far 0 0 ∷ []));
      calls = one 40 (with-others (validator 0 far 0 0 ∷ validator 0 far 0 0 ∷ []));
      others-met = in_one eligibilities (with-others (validator far far 0 0 ∷ validator far far 0 0 ∷ [])) 40 (with-others (validator 0 far 0 0 ∷ validator 0 far 0 0 ∷ [])) (record { previous = λ _. refl; current = λ _. refl; final = λ _. refl; registry = record { more = λ _. omega arith; eligibility = λ t. absurd t; activation = λ _. (refl, (refl, (refl, (refl, tt)))); new_eligibility = λ _. tt; new_activation = tt } }) (record { low = λ _. omega arith; middle = λ _. omega arith; high = λ _. omega arith });
      not_claimed = λ c. (c.activated [] (came 40 (with-others (validator 0 far 0 0 ∷ validator 0 far 0 0 ∷ []))) [] [] 1 refl tt (omega arith)).0 refl;
    }

-- others take the activation epochs of two away
activation-shown : Shows activations
unfolding waits ahead k computing
activation-shown =
    record {
      settings-used = settings;
      start = (with-others (validator 0 0 0 0 ∷ validator 0 0 0 0 ∷ []));
      calls = one 40 (with-others (validator 0 far 0 0 ∷ validator 0 far 0 0 ∷ []));
      others-met = in_one activations (with-others (validator 0 0 0 0 ∷ validator 0 0 0 0 ∷ [])) 40 (with-others (validator 0 far 0 0 ∷ validator 0 far 0 0 ∷ [])) (record { previous = λ _. refl; current = λ _. refl; final = λ _. refl; registry = record { more = λ _. omega arith; eligibility = λ _. (refl, (refl, (refl, (refl, tt)))); activation = λ t. absurd t; new_eligibility = λ _. tt; new_activation = tt } }) (record { low = λ _. omega arith; middle = λ _. omega arith; high = λ _. omega arith });
      not_claimed = λ c. (c.activated [] (came 40 (with-others (validator 0 far 0 0 ∷ validator 0 far 0 0 ∷ []))) [] [] 1 refl tt (omega arith)).0 refl;
    }

-- others add two that are eligible before it
new-shown : Shows new_eligibilities
unfolding waits ahead k computing
new-shown =
    record {
      settings-used = settings;
      start = (with-others []);
      calls = one 40 (with-others (validator 0 far 0 0 ∷ validator 0 far 0 0 ∷ []));
      others-met = in_one new_eligibilities (with-others []) 40 (with-others (validator 0 far 0 0 ∷ validator 0 far 0 0 ∷ [])) (record { previous = λ _. refl; current = λ _. refl; final = λ _. refl; registry = record { more = λ _. omega arith; eligibility = λ _. (refl, (refl, tt)); activation = λ _. (refl, (refl, tt)); new_eligibility = λ t. absurd t; new_activation = (refl, (refl, tt)) } }) (record { low = λ _. omega arith; middle = λ _. omega arith; high = λ _. omega arith });
      not_claimed = λ c. (c.activated [] (came 40 (with-others (validator 0 far 0 0 ∷ validator 0 far 0 0 ∷ []))) [] [] 1 refl tt (omega arith)).0 refl;
    }

-- The settings

-- others lower the limit from 2 to 1: number 1, with one ahead, is not activated in floor(1 / 2) + 1 closes
abbrev two-wait : BeaconState
two-wait = record_of 15 3 1 2 1 (validator 0 far 0 0 ∷ validator 0 far 0 0 ∷ [])

stay-shown : Shows settings_stay
unfolding waits ahead k computing
stay-shown =
    record {
      settings-used = settings;
      start = two-wait;
      calls = (false, call (settings_with 1) 20 two-wait) ∷ [];
      others-met = record {
        churn = λ _. omega arith;
        stay = λ t. absurd t;
        handed = (all-kept settings_stay two-wait, tt);
        later = λ _. tt;
        ordered = record { low = λ _. omega arith; middle = λ _. omega arith; high = λ _. omega arith };
      };
      not_claimed = λ c. (c.activated [] (map event (map close_of ((false, call (settings_with 1) 20 two-wait) ∷ []))) [] [] 1 refl tt (omega arith)).0 refl;
    }

-- m of 0: nobody is activated, though more than floor(0 / 0) + 1 closes are accepted, where a quotient by 0 is 0. Nor do any other closes help: NoChurn.antt
abbrev pub alone : ℕ → BeaconState
alone slot = record_of slot 0 0 0 0 (validator 0 far 0 0 ∷ [])

abbrev alone-calls : List (Bool × Call)
alone-calls = (false, call (settings_with 0) 10 (alone 3)) ∷ (false, call (settings_with 0) 10 (alone 7)) ∷ []

limit-shown : Shows limit
unfolding waits ahead k computing
limit-shown =
    record {
      settings-used = settings_with 0;
      start = alone 3;
      calls = alone-calls;
      others-met = record {
        churn = λ t. absurd t;
        stay = λ _. refl;
        handed = (all-kept limit (alone 3), (record { previous = λ _. refl; current = λ _. refl; final = λ _. refl; registry = registry-kept limit (alone 7).validators }, tt));
        later = λ _. (omega arith, tt);
        ordered = record { low = λ _. omega arith; middle = λ _. omega arith; high = λ _. omega arith };
      };
      not_claimed = λ c. (c.activated [] (map event (map close_of alone-calls)) [] [] 0 refl tt (omega (arith, div-zero 0))).0 refl;
    }

-- each part
pub needed : (x : Part) → Shows x
needed limit = limit-shown
needed settings_stay = stay-shown
needed previous_checkpoint = previous-shown
needed current_checkpoint = current-shown
needed finalized_checkpoint = final-shown
needed numbering = numbering_shown
needed eligibilities = eligibility-shown
needed activations = activation-shown
needed new_eligibilities = new-shown
needed rising = rising-shown
needed finalized_low = low-shown
needed previous_low = middle-shown
needed current_low = high-shown

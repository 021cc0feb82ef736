-- The premises are needed: for each part of them a list of closes that meets the others, and of which the claim is false.
use mathlib.Core.Path.{refl}
use mathlib.Core.List.{List, [], ◌∷◌}
use native.Mathlib.Nat.{div-zero}
use native.Mathlib.Omega.{arith}
use Rattle.definitions_electra.specs.Record.{ElectraState}
use Rattle.history.proofs.Computing.{computing}
use Rattle.history.proofs.Small.{record_of, validator}
use Rattle.history_electra.specs.Events.{Event}
use Rattle.history_electra.specs.DepositsEarn.{event}
use Rattle.history_electra.proofs.Computing.{electra}
use Rattle.history_electra.proofs.Small.{rules, state, empty, deposit, close}
use Rattle.history_electra.proofs.Parts.{Part, some_number, some_churn, smallest_slots, smallest_number, smallest_churn, present, amounts_stay, slots_stay, carried_stays, finality_stays, finality_kept, bridge_closed, Shows, all-kept, in_one}

-- One deposit waits, with nobody ahead but where it says so, and one close does not move past it

-- a number of 0
number-shown : Shows some_number
unfolding computing electra
number-shown =
    record {
      slots = 4;
      number = 0;
      churn = 10;
      start = (empty 0 0 (deposit 0 5 0 ∷ []));
      closes = close (rules 4 0 10) (empty 0 0 (deposit 0 5 0 ∷ [])) ∷ [];
      others-met = in_one some_number 4 0 10 (empty 0 0 (deposit 0 5 0 ∷ [])) (event (close (rules 4 0 10) (empty 0 0 (deposit 0 5 0 ∷ [])))) (λ t. absurd t) (λ _. omega arith) (all-kept some_number (empty 0 0 (deposit 0 5 0 ∷ []))) (record { kept = λ _. omega arith; bridge = λ _. omega arith; slots = λ _. omega arith; number = λ _. omega arith; churn = λ _. omega arith });
      not_claimed = λ c. absurd (omega (arith, c.served [] ((event (close (rules 4 0 10) (empty 0 0 (deposit 0 5 0 ∷ [])))) ∷ []) [] 0 refl (omega arith) tt (omega (arith, div-zero 0))));
    }

-- a churn limit of 0
churn-shown : Shows some_churn
unfolding computing electra
churn-shown =
    record {
      slots = 4;
      number = 1;
      churn = 0;
      start = (empty 0 0 (deposit 0 5 0 ∷ []));
      closes = close (rules 4 1 0) (empty 0 0 (deposit 0 5 0 ∷ [])) ∷ [];
      others-met = in_one some_churn 4 1 0 (empty 0 0 (deposit 0 5 0 ∷ [])) (event (close (rules 4 1 0) (empty 0 0 (deposit 0 5 0 ∷ [])))) (λ _. omega arith) (λ t. absurd t) (all-kept some_churn (empty 0 0 (deposit 0 5 0 ∷ []))) (record { kept = λ _. omega arith; bridge = λ _. omega arith; slots = λ _. omega arith; number = λ _. omega arith; churn = λ _. omega arith });
      not_claimed = λ c. absurd (omega (arith, c.served [] ((event (close (rules 4 1 0) (empty 0 0 (deposit 0 5 0 ∷ [])))) ∷ []) [] 0 refl (omega arith) tt (omega (arith, div-zero 4))));
    }

-- epoch 1 is finalized, the slot is 4, and an epoch has two slots instead of four
slots-shown : Shows smallest_slots
unfolding computing electra
slots-shown =
    record {
      slots = 4;
      number = 1;
      churn = 10;
      start = (empty 1 0 (deposit 0 5 4 ∷ []));
      closes = close (rules 2 1 10) (empty 1 0 (deposit 0 5 4 ∷ [])) ∷ [];
      others-met = in_one smallest_slots 4 1 10 (empty 1 0 (deposit 0 5 4 ∷ [])) (event (close (rules 2 1 10) (empty 1 0 (deposit 0 5 4 ∷ [])))) (λ _. omega arith) (λ _. omega arith) (all-kept smallest_slots (empty 1 0 (deposit 0 5 4 ∷ []))) (record { kept = λ _. omega arith; bridge = λ _. omega arith; slots = λ t. absurd t; number = λ _. omega arith; churn = λ _. omega arith });
      not_claimed = λ c. absurd (omega (arith, c.served [] ((event (close (rules 2 1 10) (empty 1 0 (deposit 0 5 4 ∷ [])))) ∷ []) [] 0 refl (omega arith) tt (omega (arith))));
    }

-- one ahead, and one a close instead of two
fewer-shown : Shows smallest_number
unfolding computing electra
fewer-shown =
    record {
      slots = 4;
      number = 2;
      churn = 10;
      start = (empty 0 0 (deposit 0 5 0 ∷ deposit 0 5 0 ∷ []));
      closes = close (rules 4 1 10) (empty 0 0 (deposit 0 5 0 ∷ deposit 0 5 0 ∷ [])) ∷ [];
      others-met = in_one smallest_number 4 2 10 (empty 0 0 (deposit 0 5 0 ∷ deposit 0 5 0 ∷ [])) (event (close (rules 4 1 10) (empty 0 0 (deposit 0 5 0 ∷ deposit 0 5 0 ∷ [])))) (λ _. omega arith) (λ _. omega arith) (all-kept smallest_number (empty 0 0 (deposit 0 5 0 ∷ deposit 0 5 0 ∷ []))) (record { kept = λ _. omega arith; bridge = λ _. omega arith; slots = λ _. omega arith; number = λ t. absurd t; churn = λ _. omega arith });
      not_claimed = λ c. absurd (omega (arith, c.served [] ((event (close (rules 4 1 10) (empty 0 0 (deposit 0 5 0 ∷ deposit 0 5 0 ∷ [])))) ∷ []) [] 1 refl (omega arith) tt (omega (arith))));
    }

-- a churn limit of 4 instead of 10
lower-shown : Shows smallest_churn
unfolding computing electra
lower-shown =
    record {
      slots = 4;
      number = 1;
      churn = 10;
      start = (empty 0 0 (deposit 0 5 0 ∷ []));
      closes = close (rules 4 1 4) (empty 0 0 (deposit 0 5 0 ∷ [])) ∷ [];
      others-met = in_one smallest_churn 4 1 10 (empty 0 0 (deposit 0 5 0 ∷ [])) (event (close (rules 4 1 4) (empty 0 0 (deposit 0 5 0 ∷ [])))) (λ _. omega arith) (λ _. omega arith) (all-kept smallest_churn (empty 0 0 (deposit 0 5 0 ∷ []))) (record { kept = λ _. omega arith; bridge = λ _. omega arith; slots = λ _. omega arith; number = λ _. omega arith; churn = λ t. absurd t });
      not_claimed = λ c. absurd (omega (arith, c.served [] ((event (close (rules 4 1 4) (empty 0 0 (deposit 0 5 0 ∷ [])))) ∷ []) [] 0 refl (omega arith) tt (omega (arith))));
    }

-- others take it away
present-shown : Shows present
unfolding computing electra
present-shown =
    record {
      slots = 4;
      number = 1;
      churn = 10;
      start = (empty 0 0 (deposit 0 5 0 ∷ []));
      closes = close (rules 4 1 10) (empty 0 0 []) ∷ [];
      others-met = in_one present 4 1 10 (empty 0 0 (deposit 0 5 0 ∷ [])) (event (close (rules 4 1 10) (empty 0 0 []))) (λ _. omega arith) (λ _. omega arith) (record { there = λ t. absurd t; amounts = λ _. tt; slots = λ _. tt; carried = λ _. omega arith; final = λ _. omega arith }) (record { kept = λ _. omega arith; bridge = λ _. omega arith; slots = λ _. omega arith; number = λ _. omega arith; churn = λ _. omega arith });
      not_claimed = λ c. absurd (omega (arith, c.served [] ((event (close (rules 4 1 10) (empty 0 0 []))) ∷ []) [] 0 refl (omega arith) tt (omega (arith))));
    }

-- others make it larger than the limit
amounts-shown : Shows amounts_stay
unfolding computing electra
amounts-shown =
    record {
      slots = 4;
      number = 1;
      churn = 10;
      start = (empty 0 0 (deposit 0 5 0 ∷ []));
      closes = close (rules 4 1 10) (empty 0 0 (deposit 0 11 0 ∷ [])) ∷ [];
      others-met = in_one amounts_stay 4 1 10 (empty 0 0 (deposit 0 5 0 ∷ [])) (event (close (rules 4 1 10) (empty 0 0 (deposit 0 11 0 ∷ [])))) (λ _. omega arith) (λ _. omega arith) (record { there = λ _. omega arith; amounts = λ t. absurd t; slots = λ _. (refl, tt); carried = λ _. omega arith; final = λ _. omega arith }) (record { kept = λ _. omega arith; bridge = λ _. omega arith; slots = λ _. omega arith; number = λ _. omega arith; churn = λ _. omega arith });
      not_claimed = λ c. absurd (omega (arith, c.served [] ((event (close (rules 4 1 10) (empty 0 0 (deposit 0 11 0 ∷ [])))) ∷ []) [] 0 refl (omega arith) tt (omega (arith))));
    }

-- others give it a slot that is not finalized
later-shown : Shows slots_stay
unfolding computing electra
later-shown =
    record {
      slots = 4;
      number = 1;
      churn = 10;
      start = (empty 0 0 (deposit 0 5 0 ∷ []));
      closes = close (rules 4 1 10) (empty 0 0 (deposit 0 5 1 ∷ [])) ∷ [];
      others-met = in_one slots_stay 4 1 10 (empty 0 0 (deposit 0 5 0 ∷ [])) (event (close (rules 4 1 10) (empty 0 0 (deposit 0 5 1 ∷ [])))) (λ _. omega arith) (λ _. omega arith) (record { there = λ _. omega arith; amounts = λ _. (refl, tt); slots = λ t. absurd t; carried = λ _. omega arith; final = λ _. omega arith }) (record { kept = λ _. omega arith; bridge = λ _. omega arith; slots = λ _. omega arith; number = λ _. omega arith; churn = λ _. omega arith });
      not_claimed = λ c. absurd (omega (arith, c.served [] ((event (close (rules 4 1 10) (empty 0 0 (deposit 0 5 1 ∷ [])))) ∷ []) [] 0 refl (omega arith) tt (omega (arith))));
    }

-- others take finality back
finality-shown : Shows finality_stays
unfolding computing electra
finality-shown =
    record {
      slots = 4;
      number = 1;
      churn = 10;
      start = (empty 1 0 (deposit 0 5 4 ∷ []));
      closes = close (rules 4 1 10) (empty 0 0 (deposit 0 5 4 ∷ [])) ∷ [];
      others-met = in_one finality_stays 4 1 10 (empty 1 0 (deposit 0 5 4 ∷ [])) (event (close (rules 4 1 10) (empty 0 0 (deposit 0 5 4 ∷ [])))) (λ _. omega arith) (λ _. omega arith) (record { there = λ _. omega arith; amounts = λ _. (refl, tt); slots = λ _. (refl, tt); carried = λ _. omega arith; final = λ t. absurd t }) (record { kept = λ _. omega arith; bridge = λ _. omega arith; slots = λ _. omega arith; number = λ _. omega arith; churn = λ _. omega arith });
      not_claimed = λ c. absurd (omega (arith, c.served [] ((event (close (rules 4 1 10) (empty 0 0 (deposit 0 5 4 ∷ [])))) ∷ []) [] 0 refl (omega arith) tt (omega (arith))));
    }

-- finalized 3, previous justified 2, current justified 3: a close of epoch 4 justifies the previous epoch alone and finalizes 2
abbrev above : ElectraState
above = state (record_of 19 3 2 3 3 (validator 0 0 7 0 ∷ [])) (0 ∷ []) (0 ∷ []) 0 (deposit 1 5 12 ∷ [])

-- and so takes finality back
kept-shown : Shows finality_kept
unfolding computing electra
kept-shown =
    record {
      slots = 4;
      number = 1;
      churn = 10;
      start = above;
      closes = close (rules 4 1 10) above ∷ [];
      others-met = in_one finality_kept 4 1 10 above (event (close (rules 4 1 10) above)) (λ _. omega arith) (λ _. omega arith) (all-kept finality_kept above) (record { kept = λ t. absurd t; bridge = λ _. omega arith; slots = λ _. omega arith; number = λ _. omega arith; churn = λ _. omega arith });
      not_claimed = λ c. absurd (omega (arith, c.served [] ((event (close (rules 4 1 10) above)) ∷ []) [] 0 refl (omega arith) tt (omega (arith))));
    }

-- the bridge has deposits yet to come
abbrev behind : ElectraState
behind = let st = empty 1 0 (deposit 0 5 4 ∷ []) in
    record {
      altair = st.altair;
      pubkeys = [];
      compounding = [];
      deposit_balance_to_consume = 0;
      churn = st.churn;
      eth1_deposit_index = 0;
      deposit_requests_start_index = 1;
      pending_deposits = st.pending_deposits;
      pending_consolidations = [];
    }

-- and its own wait for them
bridge-shown : Shows bridge_closed
unfolding computing electra
bridge-shown =
    record {
      slots = 4;
      number = 1;
      churn = 10;
      start = behind;
      closes = close (rules 4 1 10) behind ∷ [];
      others-met = in_one bridge_closed 4 1 10 behind (event (close (rules 4 1 10) behind)) (λ _. omega arith) (λ _. omega arith) (all-kept bridge_closed behind) (record { kept = λ _. omega arith; bridge = λ t. absurd t; slots = λ _. omega arith; number = λ _. omega arith; churn = λ _. omega arith });
      not_claimed = λ c. absurd (omega (arith, c.served [] ((event (close (rules 4 1 10) behind)) ∷ []) [] 0 refl (omega arith) tt (omega (arith))));
    }

-- 15 where the limit is 10: the first close carries 10, and others take it away before the second
abbrev fifteen : ElectraState
fifteen = empty 0 0 (deposit 0 15 0 ∷ [])

abbrev again : List Event
again = event (close (rules 4 1 10) fifteen) ∷ event (close (rules 4 1 10) fifteen) ∷ []

carried-shown : Shows carried_stays
unfolding computing electra
carried-shown =
    record {
      slots = 4;
      number = 1;
      churn = 10;
      start = fifteen;
      closes = close (rules 4 1 10) fifteen ∷ close (rules 4 1 10) fifteen ∷ [];
      others-met = record {
        positive_number = λ _. omega arith;
        positive_churn = λ _. omega arith;
        handed = (all-kept carried_stays fifteen, (record { there = λ _. omega arith; amounts = λ _. (refl, tt); slots = λ _. (refl, tt); carried = λ t. absurd t; final = λ _. omega arith }, tt));
        each = (record { kept = λ _. omega arith; bridge = λ _. omega arith; slots = λ _. omega arith; number = λ _. omega arith; churn = λ _. omega arith }, (record { kept = λ _. omega arith; bridge = λ _. omega arith; slots = λ _. omega arith; number = λ _. omega arith; churn = λ _. omega arith }, tt));
      };
      not_claimed = λ c. absurd (omega (arith, c.served [] again [] 0 refl (omega arith) tt (omega arith)));
    }

pub needed : (x : Part) → Shows x
needed some_number = number-shown
needed some_churn = churn-shown
needed smallest_slots = slots-shown
needed smallest_number = fewer-shown
needed smallest_churn = lower-shown
needed present = present-shown
needed amounts_stay = amounts-shown
needed slots_stay = later-shown
needed carried_stays = carried-shown
needed finality_stays = finality-shown
needed finality_kept = kept-shown
needed bridge_closed = bridge-shown

-- One list that uses every freedom and meets the bound exactly. Others add deposits, number keys anew, change credentials, signatures, registry,
-- slot, finality, consolidations, exits and slashings, and add to what is carried; settings change from close to close; closes are refused, by
-- their tests and by the evaluation, and what others did then stays or not; of those ahead one is postponed and one is applied without churn.
use mathlib.Core.Path.{◌≡◌, refl, sym}
use mathlib.Core.Bool.{Bool, true, false, false≢true}
use mathlib.Core.List.{List, [], ◌∷◌, map, append-nil}
use Prim.Native.Nat.{ℕ, ◌*◌, ◌≤◌, ◌<◌}
use native.Mathlib.Omega.{arith}
use lib.Dec.{T}
use lib.ListN.{length, take}
use Rattle.definitions.specs.Record.{Validator}
use Rattle.definitions.specs.Checked.{Checked, value, refused}
use Rattle.definitions.specs.declared.Refusal.TheVariants.{BadShape}
use Rattle.definitions_electra.specs.declared.ElectraRules.{ElectraRules}
use Rattle.definitions_electra.specs.declared.PendingDeposit.{PendingDeposit}
use Rattle.definitions_electra.specs.Record.{PendingConsolidation, ElectraState}
use Rattle.definitions_electra.specs.Document.Electra.EpochProcessing.{finalized_epoch_of}
use Rattle.history.proofs.Computing.{computing}
use Rattle.history.proofs.Induction.{All, all-met}
use Rattle.history.proofs.Small.{record_of, far}
use Rattle.history_electra.specs.Events.{up_to, amounts, slots_at_most, closes_for, Event, accepted, all_moved, after, Others, Premises, Least}
use Rattle.history_electra.specs.DepositsEarn.{Close, event}
use Rattle.history_electra.proofs.Computing.{electra}
use Rattle.history_electra.proofs.Small.{rules, deposit}
use Rattle.history_electra.proofs.EveryList.{each-met}
use Rattle.history_electra.proofs.WholeClose.{deposits_earn}

-- a validator by effective balance, exit epoch, withdrawable epoch and balance
abbrev one : ℕ → ℕ → ℕ → ℕ → Validator
one effective exit withdrawable balance =
    record {
      effective_balance = effective;
      slashed = 0;
      activation_eligibility_epoch = 0;
      activation_epoch = 0;
      exit_epoch = exit;
      withdrawable_epoch = withdrawable;
      balance = balance;
      previous_epoch_participation = 7;
      current_epoch_participation = 0;
      inactivity_score = 3;
    }

-- with a valid signature and credentials that begin with 0x02
abbrev valid : ℕ → ℕ → ℕ → PendingDeposit
valid key amount slot = record { pubkey = key; compounding = 1; amount = amount; slot = slot; valid = 1 }

-- slot, finalized epoch, validators with their keys and credentials, what is carried, what may leave, the bridge's two, the two queues
abbrev made : ℕ → ℕ → List Validator → List ℕ → List ℕ → ℕ → ℕ → ℕ → List PendingDeposit → List PendingConsolidation → ElectraState
made slot final vs keys credentials carried exits bridge deposits consolidations =
    record {
      altair = record_of slot 0 final final final vs;
      pubkeys = keys;
      compounding = credentials;
      deposit_balance_to_consume = carried;
      churn = record { exit_balance_to_consume = exits; earliest_exit_epoch = exits };
      eth1_deposit_index = bridge;
      deposit_requests_start_index = 1;
      pending_deposits = deposits;
      pending_consolidations = consolidations;
    }

-- number 0 leaves, number 1 has left; theirs are the first two deposits, and the third, with K = 27, is of a key that no validator has
abbrev start : ElectraState
start = made 0 1 (one 32 5 261 32 ∷ one 32 0 0 0 ∷ []) (0 ∷ 1 ∷ []) (0 ∷ 0 ∷ []) 0 0 1 (deposit 0 1 0 ∷ deposit 1 1 3 ∷ deposit 2 25 4 ∷ []) []

-- its tests refuse the first, and what others did stays: a deposit more, and more is carried
abbrev first : ElectraState
first = made 1 1 (one 32 5 261 32 ∷ one 32 0 0 0 ∷ []) (0 ∷ 1 ∷ []) (0 ∷ 0 ∷ []) 7 0 1 (deposit 0 1 0 ∷ deposit 1 1 3 ∷ deposit 2 25 4 ∷ valid 3 3 9 ∷ []) []

-- accepted, two a close with limit 12: one is postponed, one applied; what was carried is lost
abbrev second : ElectraState
second = made 2 1 (one 32 6 262 32 ∷ one 32 0 0 0 ∷ one 16 far far 16 ∷ []) (4 ∷ 5 ∷ 6 ∷ []) (1 ∷ 1 ∷ 0 ∷ []) 8 3 2
    (valid 4 1 0 ∷ valid 5 1 3 ∷ valid 8 25 4 ∷ deposit 9 3 9 ∷ []) []

-- accepted, with limit 10, which 25 is above; other validators stand there by now, and finality has moved on
abbrev third : ElectraState
third = made 15 2 (one 32 far far 40 ∷ []) (0 ∷ []) (1 ∷ []) 0 1 1 (deposit 0 25 4 ∷ deposit 7 3 9 ∷ deposit 7 1 0 ∷ deposit 7 9 5 ∷ []) []

-- refused by the evaluation, since what others made of the carried one leaves 64 bits: without what they did
abbrev fourth : ElectraState
fourth = made 15 2 [] [] [] far 0 1 (deposit 0 25 4 ∷ deposit 7 3 9 ∷ deposit 7 1 0 ∷ deposit 7 9 5 ∷ []) []

-- accepted: 20 are carried
abbrev fifth : ElectraState
fifth = made 0 3 [] [] [] 10 0 1 (deposit 5 25 4 ∷ deposit 7 3 9 ∷ deposit 7 1 0 ∷ deposit 7 9 5 ∷ []) []

-- accepted: 25, 3 and 1 are at most 30; with two validators, one consolidated into the other
abbrev sixth : ElectraState
sixth = made 0 4 (one 32 0 0 32 ∷ one 32 far far 32 ∷ []) (3 ∷ 4 ∷ []) (0 ∷ 1 ∷ []) 20 0 1 (valid 4 25 4 ∷ valid 7 3 9 ∷ deposit 7 1 0 ∷ deposit 7 9 5 ∷ [])
    (record { source_index = 0; target_index = 1 } ∷ [])

abbrev closing : ElectraRules → Checked (Unit {0}) → ElectraState → Bool → Close
closing r tests st stay = record { rules = r; tests = tests; opening = st; others_stay = stay }

abbrev closes : List Close
closes =
    closing (rules 1 0 0) (refused BadShape) first true ∷
    closing (rules 4 2 12) (value tt) second false ∷
    closing (rules 4 5 10) (value tt) third true ∷
    closing (rules 4 5 10) (value tt) fourth false ∷
    closing (rules 8 2 10) (value tt) fifth false ∷
    closing (rules 4 7 10) (value tt) sixth true ∷
    []

unfoldable pub run : List Event
run = map event closes

-- the third, with two ahead, is moved past by the fourth accepted close and not by the third: floor(2 / 2) + max(1, ceil(27 / 10)) = 4
pub record Exactly : Type 0 where
  pub refusals : map (λ e. e.refusal) run ≡ 1 ∷ 0 ∷ 0 ∷ 5 ∷ 0 ∷ 0 ∷ []
  pub moves : map (λ e. e.moved) (accepted run) ≡ 2 ∷ 0 ∷ 0 ∷ 3 ∷ []
  pub carry : map (λ e. e.returned.deposit_balance_to_consume) (accepted run) ≡ 0 ∷ 10 ∷ 20 ∷ 1 ∷ []
  pub three-accepted : length (accepted (take 5 run)) ≡ 3
  pub not_yet : all_moved (accepted (take 5 run)) ≡ 2
  pub four-accepted : length (accepted run) ≡ closes_for 2 10 2 (amounts (up_to start 2))
  pub finalized : T (slots_at_most (finalized_epoch_of start * 4) (up_to start 2))

pub exactly : Exactly
unfolding run computing electra
exactly = record { refusals = refl; moves = refl; carry = refl; three-accepted = refl; not_yet = refl; four-accepted = refl; finalized = tt }

pub premises : Premises start run
unfolding run computing electra
premises =
    record {
      handed = all-met (λ r e. Others r e.opening) after (map event closes) start handed;
      kept = each-met (λ e. finalized_epoch_of e.opening ≤ finalized_epoch_of e.returned) (map event closes) (λ _. omega arith, (λ _. omega arith, (λ _. omega arith, (λ _. omega arith, (λ _. omega arith, (λ _. omega arith, tt))))));
      bridge = each-met (λ e. e.opening.deposit_requests_start_index ≤ e.opening.eth1_deposit_index) (map event closes) (λ _. omega arith, (λ _. omega arith, (λ _. omega arith, (λ _. omega arith, (λ _. omega arith, (λ _. omega arith, tt))))));
    }
  where
    handed : All (λ r e. Others r e.opening) after start (map event closes)
    handed = (record { queue = (refl, refl, (refl, refl, (refl, refl, tt))); carried = omega arith; final = omega arith }, (record { queue = (refl, refl, (refl, refl, (refl, refl, (refl, refl, tt)))); carried = omega arith; final = omega arith }, (record { queue = (refl, refl, (refl, refl, (refl, refl, tt))); carried = omega arith; final = omega arith }, (record { queue = (refl, refl, (refl, refl, (refl, refl, (refl, refl, tt)))); carried = omega arith; final = omega arith }, (record { queue = (refl, refl, (refl, refl, (refl, refl, (refl, refl, tt)))); carried = omega arith; final = omega arith }, (record { queue = (refl, refl, (refl, refl, (refl, refl, (refl, refl, tt)))); carried = omega arith; final = omega arith }, tt))))))

-- slots_per_epoch 4, two a close and a limit of 10 at least
pub least : Least 4 2 10 run
unfolding run computing electra
least =
    record {
      some_number = omega arith;
      some_churn = omega arith;
      smallest = each-met (λ e. (4 ≤ e.slots) × (2 ≤ e.number) × (10 ≤ e.churn)) (map event closes) (λ t. absurd (false≢true t), (λ _. (omega arith, omega arith, omega arith), (λ _. (omega arith, omega arith, omega arith), (λ _. (omega arith, omega arith, omega arith), (λ _. (omega arith, omega arith, omega arith), (λ _. (omega arith, omega arith, omega arith), tt))))));
    }

-- and the claim says so: by it alone, the third has been moved past
pub by_the_claim : 2 < all_moved (accepted run)
unfolding run
by_the_claim =
    (deposits_earn 4 2 10 start closes premises least).served [] run [] 2 (sym (append-nil run)) there exactly.finalized (omega (arith, exactly.four-accepted))
  where
    there : 2 < length start.pending_deposits
    there = omega arith

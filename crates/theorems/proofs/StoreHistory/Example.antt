-- A run that crosses entries, checked by computing: a store grows between two closes, the second goes by the new entry, and the bound is met exactly
-- by the smaller of the two limits.
use mathlib.Core.Bool.{false}
use mathlib.Core.List.{List, [], ◌∷◌, ◌++◌, map}
use mathlib.Core.Path.{◌≡◌, refl}
use Prim.Native.Nat.{ℕ, ◌+◌, ◌/◌, ◌≤◌}
use native.Mathlib.Omega.{arith}
use lib.Dec.{T}
use lib.ListN.{length, take, replicate}
use Rattle.definitions.specs.declared.Bellatrix.{Bellatrix}
use Rattle.definitions.specs.Lists.{every}
use Rattle.definitions.specs.Record.{BeaconState, encode}
use Rattle.definitions.specs.Checked.{value}
use Rattle.definitions.specs.ExitQueue.{queue_of, is_queue_of, queue_test}
use Rattle.definitions_close.specs.FullClose.{limited_full_tests, limited_fully_closed, limited_full_close}
use Rattle.definitions_close.specs.Store.{Entry, Store, entries_from, numbers_of, last_of, keeps, follows, in_sequence, store_shaped, good_entries, store_tests, entry_for, rules_at, of_last, addition_shaped, start_test, addition_tests, with_entry, add_entry}
use Rattle.definitions_close.specs.StoreClose.{StoreCall, store_call_shaped, rules_at_slot, rules_for, close_by, store_close}
use Rattle.history.specs.Events.{activation, waits, ahead, k, Event, accepted, standing, Least, Premises, Claim}
use Rattle.history.specs.Demand3.{event}
use Rattle.history.proofs.Computing.{computing}
use Rattle.history.proofs.Premises.{met, least}
use Rattle.history.proofs.Small.{settings_with, validator, far, record_of}
use Rattle.history.proofs.Follow.{follow}
use Rattle.theorems.specs.StoreHistory.Demand3.{wholly, close_of}
use Rattle.theorems.proofs.StoreHistory.Demand3.{store-demand3}

abbrev entry : ℕ → ℕ → ℕ → Entry
entry start fork limit =
    let pair : Bellatrix = record { inactivity_penalty_quotient_bellatrix = 1; proportional_slashing_multiplier_bellatrix = 3 } in
    record { start = start; rules = record { settings = settings_with limit; fork = fork; bellatrix = pair } }

-- from epoch 0 on Altair with a churn limit of 3, and by notice from epoch 4 on Bellatrix with 2
abbrev before : Store
before = record { numbers = numbers_of (entry 0 0 3) ++ replicate 23 7; count = 1 }

abbrev after : Store
after = record { numbers = numbers_of (entry 0 0 3) ++ numbers_of (entry 4 1 2); count = 2 }

-- handed o, with the pair of its register
abbrev call : Store → BeaconState → StoreCall
call s o =
    record {
      store = s;
      finality = o.finality;
      queue = queue_of o.validators;
      registry = encode o.validators;
      slashings = o.slashings;
      roots = o.block_roots;
      closing_registry = replicate 50 7;
      closing_slashings = 7 ∷ [];
      amounts = replicate 45 7;
    }

-- one active, and four who wait: 2, 3, 1 and 4, in this order
abbrev start : BeaconState
start = record_of 15 3 1 2 1 (validator 0 0 7 7 ∷ validator 1 far 0 0 ∷ validator 0 far 0 0 ∷ validator 0 far 0 0 ∷ validator 1 far 0 0 ∷ [])

-- the close of epoch 3 activates three of them; others set flags
abbrev opening : BeaconState
opening = record_of 19 7 2 3 2 (validator 0 0 7 7 ∷ validator 1 8 0 0 ∷ validator 0 8 0 0 ∷ validator 0 8 0 0 ∷ validator 1 far 0 0 ∷ [])

unfoldable pub run : List Event
run = map event (map close_of ((false, wholly (call before start)) ∷ (false, wholly (call after opening)) ∷ []))

unfoldable storing : Unit {0}
unfolding computing queue_of is_queue_of queue_test limited_full_tests limited_fully_closed limited_full_close entries_from last_of keeps follows in_sequence store_shaped good_entries store_tests entry_for rules_at of_last addition_shaped start_test addition_tests with_entry add_entry store_call_shaped rules_at_slot rules_for close_by store_close every
storing = tt

pub premises : Least 2 run × Premises start run
unfolding run storing
premises = (
  least 2 run (omega arith) (omega arith, (omega arith, tt)),
  met start run
      (record {
        handed = (
          follow refl refl refl (refl, refl, (refl, refl, (refl, refl, (refl, refl, (refl, refl, tt))))),
          (follow refl refl refl (refl, refl, (refl, refl, (refl, refl, (refl, refl, (refl, refl, tt))))), tt),
        );
        rising = (omega arith, tt);
        ordered = record { low = omega arith; middle = omega arith; high = omega arith };
      }),
)

-- number 4 waits with 3 ahead and has its epoch, 4 + 1 + 4, in exactly floor(3 / 2) + 1 closes
pub record Exactly : Type 0 where
  pub grown : add_entry before (entry 4 1 2) ≡ value after
  pub limits : map (λ e. e.churn) (accepted run) ≡ 3 ∷ 2 ∷ []
  pub waiting : T (waits start 4)
  pub three-ahead : k start 4 ≡ 3
  pub not_yet : activation (standing start (take 1 run)) 4 ≡ far
  pub accepted_ones : length (accepted run) ≡ k start 4 / 2 + 1
  pub at_last : activation (standing start run) 4 ≡ 9

pub exactly : Exactly
unfolding run waits ahead k storing
exactly = record { grown = refl; limits = refl; waiting = tt; three-ahead = refl; not_yet = refl; accepted_ones = refl; at_last = refl }

pub claimed : Claim 2 start run
unfolding run
claimed = store-demand3 2 start ((false, wholly (call before start)) ∷ (false, wholly (call after opening)) ∷ []) premises.0 premises.1

-- m above a limit that was used: by an entry with limit 1, number 3, with one ahead, is not activated in floor(1 / 2) + 1 closes
abbrev slow : Store
slow = record { numbers = numbers_of (entry 0 0 1); count = 1 }

unfoldable pub run-slow : List Event
run-slow = map event (map close_of ((false, wholly (call slow start)) ∷ []))

pub record Slow : Type 0 where
  pub premises-met : Premises start run-slow
  pub limits : map (λ e. e.churn) (accepted run-slow) ≡ 1 ∷ []
  pub waiting : T (waits start 3)
  pub enough : k start 3 / 2 + 1 ≤ length (accepted run-slow)
  pub not_yet : activation (standing start run-slow) 3 ≡ far

pub not_smallest : Slow
unfolding run-slow waits ahead k storing
not_smallest =
    record {
      premises-met = met start run-slow (record { handed = (follow refl refl refl (refl, refl, (refl, refl, (refl, refl, (refl, refl, (refl, refl, tt))))), tt); rising = tt; ordered = record { low = omega arith; middle = omega arith; high = omega arith } });
      limits = refl;
      waiting = tt;
      enough = omega arith;
      not_yet = refl;
    }

pub not_above : Claim 2 start run-slow → ⊥
unfolding run-slow
not_above c = (c.activated [] run-slow [] [] 3 refl not_smallest.waiting not_smallest.enough).0 not_smallest.not_yet

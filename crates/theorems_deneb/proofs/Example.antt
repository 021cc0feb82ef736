-- A list that crosses from Bellatrix to Deneb, checked by computing: nobody is active, so that the churn limit is min_per_epoch_churn_limit, and the
-- bound is met exactly. And m by the churn limit alone is false.
use mathlib.Core.Path.{◌≡◌, refl}
use mathlib.Core.Bool.{Bool, false}
use mathlib.Core.List.{List, [], ◌∷◌, map}
use Prim.Native.Nat.{ℕ, ◌+◌, ◌*◌, ◌/◌, ◌≤◌}
use native.Mathlib.Omega.{arith}
use lib.Dec.{T}
use lib.ListN.{length, take, replicate}
use Rattle.definitions.specs.declared.Bellatrix.{Bellatrix}
use Rattle.definitions.specs.Lists.{every}
use Rattle.definitions.specs.Record.{Validator, BeaconState, encode}
use Rattle.definitions.specs.ExitQueue.{queue_of, is_queue_of, queue_test}
use Rattle.definitions_close.specs.FullClose.{limited_full_tests, limited_fully_closed, limited_full_close}
use Rattle.definitions_close.specs.Store.{numbers_of, entries_from, last_of, keeps, follows, in_sequence, store_shaped, good_entries, store_tests, entry_for, rules_at, of_last}
use Rattle.definitions_close.specs.StoreClose.{store_call_shaped, rules_at_slot, rules_for, close_by, store_close}
use Rattle.definitions_deneb.specs.Calls.{deneb_close}
use Rattle.history.specs.Events.{activation, waits, ahead, k, Event, accepted, standing, Least, Premises, Claim}
use Rattle.history.proofs.Computing.{computing}
use Rattle.history.proofs.Premises.{met, least}
use Rattle.history.proofs.Small.{settings_with, validator, far, record_of}
use Rattle.history.proofs.Follow.{follow}
use Rattle.theorems.specs.StoreHistory.Demand3.{wholly}
use Rattle.theorems_deneb.specs.Demand3.{ForkClose, earlier, deneb, event_of}
use Rattle.theorems_deneb.proofs.Demand3.{fork-demand3}

abbrev pair : Bellatrix
pair = record { inactivity_penalty_quotient_bellatrix = 1; proportional_slashing_multiplier_bellatrix = 3 }

-- handed o, under Bellatrix from epoch 0 on, with this min_per_epoch_churn_limit
abbrev by_bellatrix : ℕ → BeaconState → ForkClose
by_bellatrix limit o =
    earlier (wholly (record {
      store = record { numbers = numbers_of (record { start = 0; rules = record { settings = settings_with limit; fork = 1; bellatrix = pair } }); count = 1 };
      finality = o.finality;
      queue = queue_of o.validators;
      registry = encode o.validators;
      slashings = o.slashings;
      roots = o.block_roots;
      closing_registry = replicate (10 * length o.validators) 7;
      closing_slashings = 7 ∷ [];
      amounts = replicate (9 * length o.validators) 7;
    }))

-- under Deneb, with this max_per_epoch_activation_churn_limit besides
abbrev by_deneb : ℕ → ℕ → BeaconState → ForkClose
by_deneb limit maximum o =
    deneb (record {
      rules = record { settings = settings_with limit; bellatrix = pair; max_per_epoch_activation_churn_limit = maximum };
      finality = o.finality;
      queue = queue_of o.validators;
      registry = encode o.validators;
      slashings = o.slashings;
      roots = o.block_roots;
      closing_registry = replicate (10 * length o.validators) 7;
      closing_slashings = 7 ∷ [];
      amounts = replicate (9 * length o.validators) 7;
    })

-- five, by their activation epochs: eligible since epoch 1, so that they wait in the order of their numbers
abbrev five : ℕ → ℕ → ℕ → ℕ → ℕ → List Validator
five a b c d e = validator 1 a 0 0 ∷ validator 1 b 0 0 ∷ validator 1 c 0 0 ∷ validator 1 d 0 0 ∷ validator 1 e 0 0 ∷ []

abbrev start : BeaconState
start = record_of 15 3 1 2 1 (five far far far far far)

-- what the first close, Bellatrix's of epoch 3, returns at its slot; the second is handed it at slot 19
abbrev between : ℕ → BeaconState
between slot = record_of slot 7 2 3 2 (five 8 8 far far far)

-- the second, of epoch 4, is Deneb's, with a churn limit of 3 and a maximum of 2
abbrev calls : List (Bool × ForkClose)
calls = (false, by_bellatrix 2 start) ∷ (false, by_deneb 3 2 (between 19)) ∷ []

unfoldable pub run : List Event
run = map event_of calls

unfoldable closing : Unit {0}
unfolding computing queue_of is_queue_of queue_test limited_full_tests limited_fully_closed limited_full_close entries_from last_of keeps follows in_sequence store_shaped good_entries store_tests entry_for rules_at of_last store_call_shaped rules_at_slot rules_for close_by store_close deneb_close every
closing = tt

pub premises : Least 2 run × Premises start run
unfolding run closing
premises = (
  least 2 run (omega arith) (omega arith, (omega arith, tt)),
  met start run
      (record {
        handed = (
          follow refl refl refl (refl, refl, (refl, refl, (refl, refl, (refl, refl, (refl, refl, tt))))),
          (follow refl refl refl (refl, refl, (refl, refl, (refl, refl, (refl, refl, (refl, refl, tt))))), tt),
        );
        rising = (omega arith, tt);
        ordered = record { low = omega arith; middle = omega arith; high = omega arith };
      }),
)

-- number 3 waits with 3 ahead and has its epoch, 4 + 1 + 4, in exactly floor(3 / 2) + 1 closes
pub record Exactly : Type 0 where
  pub limits : map (λ e. e.churn) (accepted run) ≡ 2 ∷ 2 ∷ []
  pub once : standing start (take 1 run) ≡ between 15
  pub twice : standing start run ≡ record_of 19 15 3 4 3 (five 8 8 9 9 far)
  pub waiting : T (waits start 3)
  pub three-ahead : k start 3 ≡ 3
  pub not_yet : activation (standing start (take 1 run)) 3 ≡ far
  pub accepted_ones : length (accepted run) ≡ k start 3 / 2 + 1
  pub at_last : activation (standing start run) 3 ≡ 9
  -- number 4 would be let in by the churn limit of 3, as a Bellatrix close does
  pub by_churn_limit : (event_of (false, by_bellatrix 3 (between 19))).returned ≡ record_of 19 15 3 4 3 (five 8 8 9 9 9)

pub exactly : Exactly
unfolding run waits ahead k closing
exactly =
    record {
      limits = refl;
      once = refl;
      twice = refl;
      waiting = tt;
      three-ahead = refl;
      not_yet = refl;
      accepted_ones = refl;
      at_last = refl;
      by_churn_limit = refl;
    }

pub claimed : Claim 2 start run
unfolding run
claimed = fork-demand3 2 start calls premises.0 premises.1

-- The wrong event: of a Deneb close too, the smallest churn limit
abbrev event_by_churn_limit : Bool × ForkClose → Event
event_by_churn_limit (others_stay, earlier c) = event_of (others_stay, earlier c)
event_by_churn_limit (others_stay, deneb c) =
    let e = event_of (others_stay, deneb c) in
    record {
      opening = e.opening;
      returned = e.returned;
      refusal = e.refusal;
      epoch = e.epoch;
      lookahead = e.lookahead;
      churn = c.rules.settings.min_per_epoch_churn_limit;
      others_stay = others_stay;
    }

abbrev pub ByChurnLimit : Type 0
ByChurnLimit =
    (m : ℕ) (start : BeaconState) (calls : List (Bool × ForkClose)) → let events = map event_by_churn_limit calls in
    Least m events → Premises start events → Claim m start events

abbrev two : BeaconState
two = record_of 15 3 1 2 1 (validator 1 far 0 0 ∷ validator 1 far 0 0 ∷ [])

-- a churn limit of 2 and a maximum of 1
abbrev calls-slow : List (Bool × ForkClose)
calls-slow = (false, by_deneb 2 1 two) ∷ []

unfoldable pub run-slow : List Event
run-slow = map event_by_churn_limit calls-slow

-- number 1, with one ahead, is not activated in floor(1 / 2) + 1 closes
pub record Slow : Type 0 where
  pub least-met : Least 2 run-slow
  pub premises-met : Premises two run-slow
  pub waiting : T (waits two 1)
  pub one-ahead : k two 1 ≡ 1
  pub enough : k two 1 / 2 + 1 ≤ length (accepted run-slow)
  pub first-only : activation (standing two run-slow) 0 ≡ 8
  pub not_yet : activation (standing two run-slow) 1 ≡ far

pub slow : Slow
unfolding run-slow waits ahead k closing
slow =
    record {
      least-met = least 2 run-slow (omega arith) (omega arith, tt);
      premises-met = met two run-slow
          (record {
            handed = (follow refl refl refl (refl, refl, (refl, refl, tt)), tt);
            rising = tt;
            ordered = record { low = omega arith; middle = omega arith; high = omega arith };
          });
      waiting = tt;
      one-ahead = refl;
      enough = omega arith;
      first-only = refl;
      not_yet = refl;
    }

pub not_by_churn_limit : ByChurnLimit → ⊥
unfolding run-slow
not_by_churn_limit d = ((d 2 two calls-slow slow.least-met slow.premises-met).activated [] run-slow [] [] 1 refl slow.waiting slow.enough).0 slow.not_yet

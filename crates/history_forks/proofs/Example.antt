-- A list that crosses from Deneb to Electra, checked by computing: four wait through the Deneb close and a refused one, and the next accepted Electra
-- close activates them all and adds a sixth validator. An Electra close that goes by a limit is shut out.
use mathlib.Core.Path.{◌≡◌, refl}
use mathlib.Core.Logic.{◌≢◌}
use mathlib.Core.Bool.{Bool, true, false}
use mathlib.Core.List.{List, [], ◌∷◌, ◌++◌, map, cons-ne-nil}
use Prim.Native.Nat.{ℕ, ◌+◌, ◌*◌, ◌/◌}
use native.Mathlib.Omega.{arith}
use lib.Dec.{T}
use lib.ListN.{length, take, replicate}
use Rattle.definitions.specs.declared.ActivationLimit.TheVariants.{AtMost}
use Rattle.definitions.specs.Lists.{filter}
use Rattle.definitions.specs.Record.{Validator, BeaconState, encode}
use Rattle.definitions.specs.Updates.{with_validators}
use Rattle.definitions.specs.ExitQueue.{queue_of, is_queue_of, queue_test}
use Rattle.definitions.specs.Checked.{settle}
use Rattle.definitions.specs.Rust.Phase0.EpochProcessing.{limited_registry_updates}
use Rattle.definitions_close.specs.FinalizingTest.{last_test, finalizing_test}
use Rattle.definitions_close.specs.FullClose.{limited_full_tests, limited_fully_closed, limited_full_close}
use Rattle.definitions_deneb.specs.Calls.{deneb_close}
use Rattle.definitions_electra.specs.Record.{encode_deposits, first_deposits, decode_deposits, encode_consolidations, first_consolidations, decode_consolidations}
use Rattle.definitions_electra.specs.Refusals.{deposits_shaped, consolidations_shaped, keys_shaped, indices_shaped, good_electra, good_compounding, good_deposit, good_deposits}
use Rattle.definitions_electra_close.specs.Close.{ElectraCall, electra_tests, electra_closed, electra_answer, electra_close}
use Rattle.history.specs.Events.{activation, waits, ahead, k, Event, standing, Least, Premises}
use Rattle.history.proofs.Computing.{computing}
use Rattle.history.proofs.Premises.{met, least}
use Rattle.history.proofs.Small.{settings_with, validator, far, record_of}
use Rattle.history.proofs.Follow.{follow}
use Rattle.history_electra.proofs.Computing as unfolded
use Rattle.history_electra.proofs.Small.{rules}
use Rattle.theorems_deneb.specs.Demand3 as deneb
use Rattle.history_forks.specs.Demand3.{electra_event, AnyClose, earlier, electra, event_of, accepted_electra, NextElectra, ForkClaim}
use Rattle.history_forks.proofs.Demand3.{demand3}

-- handed o, under Deneb, with a churn limit of 3 and this max_per_epoch_activation_churn_limit
abbrev by_deneb : ℕ → BeaconState → AnyClose
by_deneb maximum o =
    earlier (deneb.deneb (record {
      rules = record { settings = settings_with 3; bellatrix = record { inactivity_penalty_quotient_bellatrix = 1; proportional_slashing_multiplier_bellatrix = 3 }; max_per_epoch_activation_churn_limit = maximum };
      finality = o.finality;
      queue = queue_of o.validators;
      registry = encode o.validators;
      slashings = o.slashings;
      roots = o.block_roots;
      closing_registry = replicate (10 * length o.validators) 7;
      closing_slashings = 7 ∷ [];
      amounts = replicate (9 * length o.validators) 7;
    }))

-- under Electra, with one deposit of 32 for a key that no validator has, and a working list of this length
abbrev electra_call : ℕ → BeaconState → ElectraCall
electra_call places o =
    let n = length o.validators in
    record {
      rules = rules 4 16 100;
      finality = o.finality;
      churn = record { exit_balance_to_consume = 0; earliest_exit_epoch = 0 };
      numbers = record { deposit_balance_to_consume = 0; eth1_deposit_index = 0; deposit_requests_start_index = 0 };
      registry = encode o.validators;
      compounding = replicate n 0;
      slashings = o.slashings;
      roots = o.block_roots;
      deposits = n ∷ 0 ∷ 32 ∷ 0 ∷ 1 ∷ [];
      consolidations = [];
      closing_registry = replicate (10 * (n + 1)) 7;
      closing_compounding = replicate (n + 1) 7;
      closing_slashings = 7 ∷ [];
      closing_deposits = replicate 5 7;
      closing_consolidations = [];
      amounts = replicate (12 * (n + 1)) 7;
      places = replicate places 7;
    }

abbrev by_electra : ℕ → BeaconState → AnyClose
by_electra places o = electra (electra_call places o) (electra_close (electra_call places o)) refl

-- five, by their activation epochs: eligible since epoch 1, so that they wait in the order of their numbers
abbrev five : ℕ → ℕ → ℕ → ℕ → ℕ → List Validator
five a b c d e = validator 1 a 0 0 ∷ validator 1 b 0 0 ∷ validator 1 c 0 0 ∷ validator 1 d 0 0 ∷ validator 1 e 0 0 ∷ []

abbrev start : BeaconState
start = record_of 15 3 1 2 1 (five far far far far far)

-- what the first close, Deneb's of epoch 3, returns at its slot; the others are handed it at slot 19
abbrev between : ℕ → BeaconState
between slot = record_of slot 7 2 3 2 (five 8 far far far far)

-- Deneb's lets one in; the first of Electra's is lent no working list and is refused; the second is of epoch 4
abbrev closes : List (Bool × AnyClose)
closes = (false, by_deneb 1 start) ∷ (true, by_electra 0 (between 19)) ∷ (false, by_electra 1 (between 19)) ∷ []

unfoldable pub run : List Event
run = map event_of closes

unfoldable closing : Unit {0}
unfolding computing unfolded.electra queue_of is_queue_of queue_test limited_full_tests limited_fully_closed limited_full_close deneb_close last_test finalizing_test encode_deposits first_deposits decode_deposits encode_consolidations first_consolidations decode_consolidations deposits_shaped consolidations_shaped keys_shaped indices_shaped good_electra good_compounding good_deposit good_deposits electra_tests electra_closed electra_answer electra_close
closing = tt

pub premises : Least 1 run × Premises start run
unfolding run closing
premises = (
  least 1 run (omega arith) (omega arith, (omega arith, tt)),
  met start run
      (record {
        handed = (
          follow refl refl refl (refl, refl, (refl, refl, (refl, refl, (refl, refl, (refl, refl, tt))))),
          (
            follow refl refl refl (refl, refl, (refl, refl, (refl, refl, (refl, refl, (refl, refl, tt))))),
            (follow refl refl refl (refl, refl, (refl, refl, (refl, refl, (refl, refl, (refl, refl, tt))))), tt),
          ),
        );
        rising = (omega arith, tt);
        ordered = record { low = omega arith; middle = omega arith; high = omega arith };
      }),
)

-- number 4 waits with 4 ahead: by a limit of 1 it might wait for 5 closes
pub record Exactly : Type 0 where
  pub numbers : map (λ e. e.refusal) run ≡ 0 ∷ 1 ∷ 0 ∷ []
  pub waiting : T (waits start 4)
  pub by-limit : k start 4 / 1 + 1 ≡ 5
  pub once : standing start (take 1 run) ≡ between 15
  pub not_yet : activation (standing start (take 2 run)) 4 ≡ far
  pub no_electra_yet : filter accepted_electra (take 2 closes) ≡ []
  -- by the next accepted Electra close, of epoch 4: 4 + 1 + 4
  pub at_last : standing start run ≡ record_of 19 15 3 4 3 (five 8 9 9 9 9 ++ validator far far 0 0 ∷ [])

pub exactly : Exactly
unfolding run waits ahead k closing
exactly = record { numbers = refl; waiting = tt; by-limit = refl; once = refl; not_yet = refl; no_electra_yet = refl; at_last = refl }

pub claimed : ForkClaim 1 start closes
unfolding run
claimed = demand3 1 start closes premises.0 premises.1

-- The wrong Electra close: it goes by a limit of 1, as Deneb's registry step does
abbrev event_by_limit : Bool × AnyClose → Event
event_by_limit (others_stay, earlier c) = event_of (others_stay, earlier c)
event_by_limit (others_stay, electra c o came) =
    let e = electra_event others_stay c o in
    let f = e.returned.finality.finalized_checkpoint.epoch in
    record {
      opening = e.opening;
      returned = with_validators (settle (limited_registry_updates (AtMost 1) c.rules.settings c.finality.slot f e.opening.validators) []) e.returned;
      refusal = e.refusal;
      epoch = e.epoch;
      lookahead = e.lookahead;
      churn = 1;
      others_stay = others_stay;
    }

abbrev pub ByLimit : Type 0
ByLimit =
    (m : ℕ) (start : BeaconState) (closes : List (Bool × AnyClose)) → let events = map event_by_limit closes in
    Least m events → Premises start events → NextElectra event_by_limit accepted_electra start closes

abbrev two : BeaconState
two = record_of 15 3 1 2 1 (validator 1 far 0 0 ∷ validator 1 far 0 0 ∷ [])

abbrev closes-slow : List (Bool × AnyClose)
closes-slow = (false, by_electra 1 two) ∷ []

unfoldable pub run-slow : List Event
run-slow = map event_by_limit closes-slow

-- number 1 is not activated by the next Electra close
pub record Slow : Type 0 where
  pub least-met : Least 1 run-slow
  pub premises-met : Premises two run-slow
  pub waiting : T (waits two 1)
  pub some-electra : filter accepted_electra closes-slow ≢ []
  pub first-only : activation (standing two run-slow) 0 ≡ 8
  pub not_yet : activation (standing two run-slow) 1 ≡ far
  -- which Electra's own does
  pub by-electra : activation (standing two (map event_of closes-slow)) 1 ≡ 8

pub slow : Slow
unfolding run-slow waits ahead closing
slow =
    record {
      least-met = least 1 run-slow (omega arith) (omega arith, tt);
      premises-met = met two run-slow
          (record {
            handed = (follow refl refl refl (refl, refl, (refl, refl, tt)), tt);
            rising = tt;
            ordered = record { low = omega arith; middle = omega arith; high = omega arith };
          });
      waiting = tt;
      some-electra = cons-ne-nil (false, by_electra 1 two) [];
      first-only = refl;
      not_yet = refl;
      by-electra = refl;
    }

pub not_by_a_limit : ByLimit → ⊥
unfolding run-slow
not_by_a_limit d = (d 1 two closes-slow slow.least-met slow.premises-met [] closes-slow [] [] 1 refl slow.waiting slow.some-electra).0 slow.not_yet

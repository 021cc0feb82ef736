-- The premises can be met, and the bound is met exactly: two accepted closes, a refused one between them, and a validator that others add.
use mathlib.Core.Path.{◌≡◌, refl, sym, ap, ◌∙◌, subst}
use mathlib.Core.Logic.{◌≢◌}
use mathlib.Core.Bool.{Bool, true, false, cond, ◌&&◌}
use mathlib.Core.List.{List, [], ◌∷◌, ◌++◌, map, append-nil}
use Prim.Native.Nat.{ℕ, suc, ◌+◌, ◌/◌, ◌≤◌}
use native.Mathlib.Omega.{arith}
use lib.Dec.{T, eqb, ltb}
use lib.ListN.{length, take}
use Rattle.definitions.specs.Lists.{filter, range}
use Rattle.definitions.specs.Record.{BeaconState, FAR_FUTURE_EPOCH, encode}
use Rattle.definitions.specs.Raised.{none_raised}
use Rattle.definitions.specs.Close.{Call, Outcome, finalized_epoch_of}
use Rattle.history.specs.Events as statement
use Rattle.history.specs.Events.{activation, waits, ahead, k, Others, Event, accepted, standing, Claim}
use Rattle.history.specs.Demand3.{Close, event, close_of, Premises}
use Rattle.history.proofs.Computing.{computing}
use Rattle.history.proofs.Premises.{Handed, met}
use Rattle.history.proofs.Small.{settings, validator, far, record_of, call}
use Rattle.history.proofs.Follow.{follow}
use Rattle.history.proofs.WholeClose.{demand3}

-- one active, and four who wait: by their eligibility epochs, numbers 2 and 3 are ahead of 1 and 4
abbrev start : BeaconState
start = record_of 15 3 1 2 1 (validator 0 0 7 7 ∷ validator 1 far 0 0 ∷ validator 0 far 0 0 ∷ validator 0 far 0 0 ∷ validator 1 far 0 0 ∷ [])

-- what the first close, of epoch 3, returns: numbers 2 and 3 are activated
abbrev once : BeaconState
once = record_of 15 7 2 3 2 (validator 0 0 7 0 ∷ validator 1 far 0 0 ∷ validator 0 8 0 0 ∷ validator 0 8 0 0 ∷ validator 1 far 0 0 ∷ [])

-- others set flags and add a validator; at slot 16 the close is refused, since the root of slot 16 is wanted, and at slot 19 it is accepted
abbrev opening : ℕ → BeaconState
opening slot = record_of slot 7 2 3 2 (validator 0 0 7 7 ∷ validator 1 far 0 0 ∷ validator 0 8 0 0 ∷ validator 0 8 0 0 ∷ validator 1 far 0 0 ∷ validator far far 0 0 ∷ [])

-- what the last close, of epoch 4, returns: numbers 1 and 4 are activated, and the added one is eligible
abbrev twice : BeaconState
twice = record_of 19 15 3 4 3 (validator 0 0 7 0 ∷ validator 1 9 0 0 ∷ validator 0 8 0 0 ∷ validator 0 8 0 0 ∷ validator 1 9 0 0 ∷ validator 5 far 0 0 ∷ [])

-- after the refused one what others did stays, or not
abbrev pub calls : Bool → List (Bool × Call)
calls w = (false, call settings 50 start) ∷ (w, call settings 60 (opening 16)) ∷ (true, call settings 60 (opening 19)) ∷ []

unfoldable pub run : Bool → List Close
run w = map close_of (calls w)

abbrev outcome : ℕ → BeaconState → Outcome
outcome refusal r =
    record { refusal = refusal; finality = r.finality; raised = none_raised; closing_registry = encode r.validators; closing_slashings = r.slashings }

abbrev closes : Bool → List Close
closes w =
    record { call = call settings 50 start; outcome = outcome 0 once; others_stay = false } ∷
    record { call = call settings 60 (opening 16); outcome = outcome 4 (opening 16); others_stay = w } ∷
    record { call = call settings 60 (opening 19); outcome = outcome 0 twice; others_stay = true } ∷
    []

went : (w : Bool) → run w ≡ closes w
unfolding run computing
went w = refl

handed : (w : Bool) → Handed start (map event (closes w))
unfolding computing
handed w = (
  follow refl refl refl (refl, refl, (refl, refl, (refl, refl, (refl, refl, (refl, refl, tt))))),
  (
    added 16,
    (
      third w,
      tt,
    ),
  ),
)
  where
    added : (slot : ℕ) → Others once (opening slot)
    added slot = follow refl refl refl (refl, refl, (refl, refl, (refl, refl, (refl, refl, (refl, refl, (refl, refl, tt))))))

    third : (w : Bool) → Others (cond w (opening 16) once) (opening 19)
    third true = follow refl refl refl (refl, refl, (refl, refl, (refl, refl, (refl, refl, (refl, refl, (refl, refl, tt))))))
    third false = added 19

-- the premises are met, in both readings
pub premises : (w : Bool) → Premises settings start (run w)
unfolding computing
premises w =
    subst (Premises settings start) (sym (went w))
    (record {
      churn = omega arith;
      stay = refl;
      list = met start (map event (closes w)) (record { handed = handed w; rising = (omega arith, tt); ordered = record { low = omega arith; middle = omega arith; high = omega arith } });
    })

pub refusals : (w : Bool) → map (λ c. c.outcome.refusal) (run w) ≡ 0 ∷ 4 ∷ 0 ∷ []
refusals w = ap (map (λ c. c.outcome.refusal)) (went w)

abbrev pub events : Bool → List Event
events w = map event (run w)

-- validator 1 waits with 2 ahead and gets its epoch, 4 + 1 + 4, in exactly floor(2 / 2) + 1 closes: in the second that is accepted and not in the first
pub record Exactly (w : Bool) : Type 0 where
  pub waiting : T (waits start 1)
  pub two-ahead : k start 1 ≡ 2
  pub one-accepted : length (accepted (take 2 (events w))) ≡ 1
  pub not_yet : activation (standing start (take 2 (events w))) 1 ≡ FAR_FUTURE_EPOCH
  pub two-accepted : length (accepted (events w)) ≡ k start 1 / 2 + 1
  pub at_last : activation (standing start (events w)) 1 ≡ 9
  pub one-added : length (standing start (events w)).validators ≡ suc (length start.validators)

pub exactly : (w : Bool) → Exactly w
unfolding waits ahead k computing
exactly w =
    record {
      waiting = tt;
      two-ahead = refl;
      one-accepted = ap (λ (cs : List Close). length (accepted (take 2 (map event cs)))) (went w);
      not_yet = ap (λ (cs : List Close). activation (standing start (take 2 (map event cs))) 1) (went w) ∙ second w;
      two-accepted = ap (λ (cs : List Close). length (accepted (map event cs))) (went w);
      at_last = ap (λ (cs : List Close). activation (standing start (map event cs)) 1) (went w);
      one-added = ap (λ (cs : List Close). length (standing start (map event cs)).validators) (went w);
    }
  where
    second : (w : Bool) → activation (cond w (opening 16) once) 1 ≡ FAR_FUTURE_EPOCH
    second true = refl
    second false = refl

-- and the claim says so: by it alone, the epoch is there and was given by one of the two
pub claimed : (w : Bool) → Claim 2 start (events w)
unfolding run
claimed w = demand3 settings start (calls w) (premises w)

pub by_the_claim : (w : Bool) → (activation (standing start (events w)) 1 ≢ FAR_FUTURE_EPOCH) × (filter (λ e. eqb (e.epoch + 1 + e.lookahead) (activation (standing start (events w)) 1)) (accepted (events w)) ≢ [])
by_the_claim w =
    let x = exactly w in
    let c = (claimed w).activated [] (events w) [] [] 1 (sym (append-nil (events w ++ []) ∙ append-nil (events w))) x.waiting (omega (arith, x.two-accepted)) in
    (c.0, c.1)

-- Those ahead are not those with a smaller number: of these number 1 has none, and after one close it has no epoch yet
abbrev before_it : ℕ → ℕ
before_it i = length (filter (λ j. waits start j && ltb j i) (range 0 (length start.validators)))

pub none_before : before_it 1 ≡ 0
unfolding waits computing
none_before = refl

pub not_by_number : (w : Bool) → ((i : ℕ) → T (waits start i) → before_it i / 2 + 1 ≤ length (accepted (take 2 (events w))) → activation (standing start (take 2 (events w))) i ≢ FAR_FUTURE_EPOCH) → ⊥
not_by_number w h =
    let x = exactly w in
    h 1 x.waiting (omega (arith, x.one-accepted, ap (λ (n : ℕ). n / 2) none_before)) x.not_yet

-- a close of epoch 4 that justifies the previous epoch alone finalizes three epochs back
abbrev deep : BeaconState
deep = record_of 19 7 1 2 0 (validator 0 0 7 0 ∷ [])

unfoldable pub run-deep : List Event
run-deep = map (λ c. event (close_of c)) ((false, call settings 10 deep) ∷ [])

pub record ThreeBack : Type 0 where
  pub premises-met : statement.Premises deep run-deep
  pub epochs : map (λ e. e.epoch) (accepted run-deep) ≡ 4 ∷ []
  pub before : finalized_epoch_of deep ≡ 0
  pub then : finalized_epoch_of (standing deep run-deep) + 3 ≡ 4

pub three_back : ThreeBack
unfolding run-deep computing
three_back =
    record {
      premises-met = met deep run-deep (record { handed = (follow refl refl refl (refl, refl, tt), tt); rising = tt; ordered = record { low = omega arith; middle = omega arith; high = omega arith } });
      epochs = refl;
      before = refl;
      then = refl;
    }

-- The premises in parts, and without one of them: for Needed.antt. All of them together are the premises.
use mathlib.Core.Path.{◌≡◌, refl}
use mathlib.Core.Bool.{Bool, true, false, cond, not}
use mathlib.Core.List.{List, [], ◌∷◌, map}
use Prim.Native.Nat.{ℕ, ◌-◌, ◌/◌, ◌≤◌}
use native.Mathlib.Omega.{arith}
use lib.Dec.{T, eqb}
use lib.ListN.{length, replicate}
use Rattle.definitions.specs.declared.Settings.{Settings}
use Rattle.definitions.specs.Record.{Validator, BeaconState, FAR_FUTURE_EPOCH}
use Rattle.definitions.specs.Close.{Call, state_of}
use Rattle.definitions.specs.Lists.{filter}
use Rattle.history.specs.Events.{Event, accepts, accepted, after, Claim}
use Rattle.history.specs.Demand3.{Close, event, close_of, Premises}
use Rattle.history.proofs.Waiting.{previous_justified, current_justified, finalized}
use Rattle.history.proofs.Premises.{Handed, Rising, Ordered, met}
use Rattle.history.proofs.Follow.{Follows, follow}
use Rattle.history.proofs.Small.{settings, call}

pub data Part : Type 0 where
  limit settings_stay : Part
  previous_checkpoint current_checkpoint finalized_checkpoint numbering eligibilities activations new_eligibilities : Part
  rising finalized_low previous_low current_low : Part

abbrev pub place : Part → ℕ
place limit = 0
place settings_stay = 1
place previous_checkpoint = 2
place current_checkpoint = 3
place finalized_checkpoint = 4
place numbering = 5
place eligibilities = 6
place activations = 7
place new_eligibilities = 8
place rising = 9
place finalized_low = 10
place previous_low = 11
place current_low = 12

-- A is asked as y, unless y is the part x that is left out
abbrev pub Unless : Part → Part → Type 0 → Type 0
Unless x y A = T (not (eqb (place x) (place y))) → A

-- The premises without x, by going through the lists

-- the numbers f of those that were there, and of those added
abbrev pub Same : (Validator → ℕ) → List Validator → List Validator → Type 0
Same f [] ws = Unit {0}
Same f (v ∷ vs) [] = Unit {0}
Same f (v ∷ vs) (w ∷ ws) = (f w ≡ f v) × Same f vs ws

abbrev pub Far : (Validator → ℕ) → List Validator → List Validator → Type 0
Far f [] [] = Unit {0}
Far f [] (w ∷ ws) = (f w ≡ FAR_FUTURE_EPOCH) × Far f [] ws
Far f (v ∷ vs) [] = Unit {0}
Far f (v ∷ vs) (w ∷ ws) = Far f vs ws

abbrev pub eligibility_of : Validator → ℕ
eligibility_of v = v.activation_eligibility_epoch

abbrev pub activation_of : Validator → ℕ
activation_of v = v.activation_epoch

pub record RegistryBut (x : Part) (vs ws : List Validator) : Type 0 where
  pub more : Unless x numbering (length vs ≤ length ws)
  pub eligibility : Unless x eligibilities (Same eligibility_of vs ws)
  pub activation : Unless x activations (Same activation_of vs ws)
  pub new_eligibility : Unless x new_eligibilities (Far eligibility_of vs ws)
  pub new_activation : Far activation_of vs ws

pub record OthersBut (x : Part) (r o : BeaconState) : Type 0 where
  pub previous : Unless x previous_checkpoint (previous_justified o ≡ previous_justified r)
  pub current : Unless x current_checkpoint (current_justified o ≡ current_justified r)
  pub final : Unless x finalized_checkpoint (finalized o ≡ finalized r)
  pub registry : RegistryBut x r.validators o.validators

abbrev pub HandedBut : Part → BeaconState → List Event → Type 0
HandedBut x r [] = Unit {0}
HandedBut x r (e ∷ es) = OthersBut x r e.opening × HandedBut x (after r e) es

pub record OrderBut (x : Part) (r : BeaconState) (e : ℕ) : Type 0 where
  pub low : Unless x finalized_low ((finalized r).epoch ≤ (previous_justified r).epoch)
  pub middle : Unless x previous_low ((previous_justified r).epoch ≤ (current_justified r).epoch)
  pub high : Unless x current_low ((current_justified r).epoch ≤ e - 1)

abbrev pub OrderedBut : Part → BeaconState → List Event → Type 0
OrderedBut x r [] = Unit {0}
OrderedBut x r (e ∷ es) = OrderBut x r e.epoch

pub record PremisesBut (x : Part) (s : Settings) (start : BeaconState) (closes : List Close) : Type 0 where
  pub churn : Unless x limit (1 ≤ s.min_per_epoch_churn_limit)
  pub stay : Unless x settings_stay (map (λ c. c.call.rules.settings) closes ≡ replicate (length closes) s)
  pub handed : HandedBut x start (map event closes)
  pub later : Unless x rising (Rising (accepted (map event closes)))
  pub ordered : OrderedBut x start (accepted (map event closes))

-- x is needed: a list of closes by the definition that meets the others, and of which the claim is false
pub record Shows (x : Part) : Type 0 where
  pub settings-used : Settings
  pub start : BeaconState
  pub calls : List (Bool × Call)
  pub others-met : PremisesBut x settings-used start (map close_of calls)
  pub not_claimed : Claim settings-used.min_per_epoch_churn_limit start (map event (map close_of calls)) → ⊥

-- Others leave the registry as it is, or all

pub registry-kept : (x : Part) (vs : List Validator) → RegistryBut x vs vs
registry-kept x vs =
    record {
      more = λ _. omega arith;
      eligibility = λ _. same eligibility_of vs;
      activation = λ _. same activation_of vs;
      new_eligibility = λ _. none eligibility_of vs;
      new_activation = none activation_of vs;
    }
  where
    same : (f : Validator → ℕ) (vs : List Validator) → Same f vs vs
    same f [] = tt
    same f (v ∷ vs) = (refl, same f vs)

    none : (f : Validator → ℕ) (vs : List Validator) → Far f vs vs
    none f [] = tt
    none f (v ∷ vs) = none f vs

pub all-kept : (x : Part) (r : BeaconState) → OthersBut x r r
all-kept x r = record { previous = λ _. refl; current = λ _. refl; final = λ _. refl; registry = registry-kept x r.validators }

-- One close with limit 2, handed o, for which a closing registry of n numbers is lent

abbrev pub one : ℕ → BeaconState → List (Bool × Call)
one n o = (false, call settings n o) ∷ []

abbrev pub came : ℕ → BeaconState → List Event
came n o = map event (map close_of (one n o))

pub in_one : (x : Part) (r : BeaconState) (n : ℕ) (o : BeaconState) → OthersBut x r (state_of (call settings n o)) → OrderBut x r (o.finality.slot / 4) → PremisesBut x settings r (map close_of (one n o))
unfolding filter
in_one x r n o h g =
    record {
      churn = λ _. omega arith;
      stay = λ _. refl;
      handed = (h, tt);
      later = λ _. later (accepts e);
      ordered = ordered (accepts e);
    }
  where
    e : Event
    e = event (close_of (false, call settings n o))

    later : (b : Bool) → Rising (cond b (e ∷ []) [])
    later true = tt
    later false = tt

    ordered : (b : Bool) → OrderedBut x r (cond b (e ∷ []) [])
    ordered true = g
    ordered false = tt

-- All parts

through-registry : (vs ws : List Validator) → length vs ≤ length ws → Same eligibility_of vs ws → Same activation_of vs ws → Far eligibility_of vs ws → Far activation_of vs ws → Follows vs ws
through-registry [] [] n a b c d = tt
through-registry [] (w ∷ ws) n a b c d = (c.0, d.0, through-registry [] ws (omega arith) tt tt c.1 d.1)
through-registry (v ∷ vs) [] n a b c d = absurd (omega arith)
through-registry (v ∷ vs) (w ∷ ws) n a b c d = (a.0, b.0, through-registry vs ws (omega arith) a.1 b.1 c d)

-- with `limit` left out and with `settings_stay` left out, every other part is asked
through-handed : (r : BeaconState) (es : List Event) → HandedBut limit r es → Handed r es
through-handed r [] h = tt
through-handed r (e ∷ es) h =
    let o = h.0 in
    let g = o.registry in
    (follow (o.previous tt) (o.current tt) (o.final tt) (through-registry r.validators e.opening.validators (g.more tt) (g.eligibility tt) (g.activation tt) (g.new_eligibility tt) g.new_activation), through-handed (after r e) es h.1)

through-order : (r : BeaconState) (es : List Event) → OrderedBut limit r es → Ordered r es
through-order r [] h = tt
through-order r (e ∷ es) h = record { low = h.low tt; middle = h.middle tt; high = h.high tt }

pub together : (s : Settings) (start : BeaconState) (closes : List Close) → ((x : Part) → PremisesBut x s start closes) → Premises s start closes
together s start closes h =
    record {
      churn = (h settings_stay).churn tt;
      stay = (h limit).stay tt;
      list = met start (map event closes)
          (record {
            handed = through-handed start (map event closes) (h limit).handed;
            rising = (h limit).later tt;
            ordered = through-order start (accepted (map event closes)) (h limit).ordered;
          });
    }

-- An accepted close has the interface, so that demand 3 holds of the whole close.
use mathlib.Core.Path.{◌≡◌, refl, sym, ap, ◌∙◌, subst, subst₂}
use mathlib.Core.Bool.{Bool, true, false, cond}
use mathlib.Core.List.{List, [], ◌∷◌, map, map-map, head-eq_of_cons-eq, tail-eq_of_cons-eq}
use Prim.Native.Nat.{ℕ, ◌/◌, ◌^◌, ◌<◌}
use native.Mathlib.Nat.{div-le_self}
use native.Mathlib.Omega.{arith}
use borrow.Author.Tests.{ltb-true}
use lib.Dec.{T, eqb, eqb→eq}
use lib.ListN.{length, replicate}
use Rattle.definitions.specs.declared.ActivationLimit.TheVariants.{Churn}
use Rattle.definitions.specs.declared.Settings.{Settings}
use Rattle.definitions.specs.Lists.{filter}
use Rattle.definitions.specs.Record.{BeaconState, encode, decode}
use Rattle.definitions.specs.Checked.{Checked, value, refused, number_of, code_of, settle}
use Rattle.definitions.specs.Refusals.{after_tests, closing_buffer}
use Rattle.definitions.specs.Rust.Phase0.Helpers.{compute_epoch_at_slot, get_current_epoch, get_validator_churn_limit}
use Rattle.definitions.specs.Rules.{settings_under}
use Rattle.definitions.specs.Close.{process_epoch, Call, state_of, close_tests, closed, close}
use Rattle.laws.proofs.Checked.{number_not_zero, bound}
use Rattle.laws.proofs.Encode.{decode-encode}
use Rattle.laws.proofs.Rules.{shared}
use Rattle.laws.proofs.Bounds.{setting_small, close_passed}
use Rattle.history.specs.Events.{Event, accepts, accepted, Least, Premises, Claim}
use Rattle.history.specs.Demand3.{Close, returned_by, event, close_of, Demand3}
use Rattle.history.proofs.Shape.{EventShape, Shaped, EachShaped}
use Rattle.history.proofs.Premises.{AtMost, least}
use Rattle.history.proofs.Registry.{churn-enough}
use Rattle.history.proofs.EightSteps.{Eight, eight}
use Rattle.history.proofs.EveryList.{claim}

-- The tests: slot and lookahead are small, so that the activation epoch that a close gives is below FAR

tests-passed : (c : Call) {u : Unit {0}} → close_tests c ≡ value u → (c.finality.slot < 2 ^ 48) × ((settings_under c.rules).max_seed_lookahead < 2 ^ 48)
tests-passed c p =
    let t = (close_passed c p).passed in
    (ltb-true _ _ t.small, setting_small (settings_under c.rules) t.good 14 (omega arith))

-- The outcome of an accepted close

given : {A : Type 0} (x : Checked A) → T (eqb (code_of x) 0) → (a : A) × (x ≡ value a)
given (value a) t = (a, refl)
given (refused r) t = absurd (number_not_zero r (eqb→eq (number_of r) 0 t))

pub record Accepted (c : Call) : Type 0 where
  pub state : BeaconState
  pub small : (c.finality.slot < 2 ^ 48) × ((settings_under c.rules).max_seed_lookahead < 2 ^ 48)
  pub worked : process_epoch (settings_under c.rules) (state_of c) ≡ value state
  pub finality : (close c).finality ≡ state.finality
  pub registry : (close c).closing_registry ≡ encode state.validators
  pub slashings : (close c).closing_slashings ≡ state.slashings

filled : {A : Type 0} (contents : A → List ℕ) (tests : Checked (Unit {0})) (work : Checked A) {u : Unit {0}} {a : A} (opening closing : List ℕ) → tests ≡ value u → work ≡ value a → closing_buffer contents tests work opening closing ≡ contents a
unfolding closing_buffer
filled contents tests work opening closing p q = rw (p, q)

accepted_as : (c : Call) {st : BeaconState} → closed c ≡ value st → Accepted c
unfolding close closed after_tests
accepted_as c {st} p =
    let b = bound (close_tests c) (λ _. process_epoch (settings_under c.rules) (state_of c)) p in
    record {
      state = st;
      small = tests-passed c b.gave;
      worked = b.then;
      finality = ap (λ (x : Checked BeaconState). (settle x (state_of c)).finality) p;
      registry = filled (λ st. encode st.validators) (close_tests c) (process_epoch (settings_under c.rules) (state_of c)) c.registry c.closing_registry b.gave b.then;
      slashings = filled (λ st. st.slashings) (close_tests c) (process_epoch (settings_under c.rules) (state_of c)) c.slashings c.closing_slashings b.gave b.then;
    }

pub accepted-close : (c : Call) → T (eqb (close c).refusal 0) → Accepted c
unfolding close
accepted-close c t = accepted_as c (given (closed c) t).1

-- The interface

-- the eight steps took the opening to the record returned
pub closed-eight : (c : Call) → T (eqb (close c).refusal 0) → Eight Churn (settings_under c.rules) c.finality (decode c.registry) (close c).finality (decode (close c).closing_registry)
closed-eight c t =
    subst₂ (Eight Churn (settings_under c.rules) c.finality (decode c.registry)) (sym a.finality) (sym (ap decode a.registry ∙ decode-encode a.state.validators)) (eight Churn (settings_under c.rules) (state_of c) a.worked)
  where
    a : Accepted c
    a = accepted-close c t

-- the event of a close, by three numbers of its settings
abbrev numbered : Close → ℕ → ℕ → ℕ → Event
numbered c slots lookahead churn =
    record {
      opening = state_of c.call;
      returned = returned_by c.call c.outcome;
      refusal = c.outcome.refusal;
      epoch = c.call.finality.slot / slots;
      lookahead = lookahead;
      churn = churn;
      others_stay = c.others_stay;
    }

renumbered : (c : Close) {slots slots' lookahead lookahead' churn churn' : ℕ} → slots ≡ slots' → lookahead ≡ lookahead' → churn ≡ churn' → EventShape churn (numbered c slots lookahead churn) → EventShape churn' (numbered c slots' lookahead' churn')
renumbered c p q r h = rw (← p, ← q, ← r) h

pub close-shaped : (c : Bool × Call) → Shaped (event (close_of c))
unfolding get_current_epoch compute_epoch_at_slot
close-shaped (w, c) t =
    -- the event's numbers are those of the settings as they are handed in: under either fork the same
    renumbered (close_of (w, c)) (shared c.rules).slots_per_epoch (shared c.rules).lookahead (shared c.rules).least_churn
    (record {
      churn = get_validator_churn_limit (settings_under c.rules) c.finality.slot x.queue;
      enough = churn-enough (settings_under c.rules) c.finality.slot x.queue;
      fits = omega (arith, a.small.0, a.small.1, div-le_self c.finality.slot (settings_under c.rules).slots_per_epoch);
      checkpoints = x.checkpoints;
      queue = x.queue;
      registry = x.registry;
    })
  where
    a : Accepted c
    a = accepted-close c t

    x : Eight Churn (settings_under c.rules) c.finality (decode c.registry) (close c).finality (decode (close c).closing_registry)
    x = closed-eight c t

-- Demand 3

each-close : (calls : List (Bool × Call)) → EachShaped (map (λ c. event (close_of c)) calls)
each-close [] = tt
each-close (c ∷ calls) = (close-shaped c, each-close calls)

-- of closes whose settings may differ: for each m that is at most the smallest churn limit of every accepted one
pub of-closes : (m : ℕ) (start : BeaconState) (calls : List (Bool × Call)) → let events = map event (map close_of calls) in Least m events → Premises start events → Claim m start events
of-closes m start calls l p = claim m start (map event (map close_of calls)) (subst EachShaped (sym (map-map event close_of calls)) (each-close calls)) l p

-- the smallest churn limit of settings that stay
pub stays-least : (s : Settings) (closes : List Close) → map (λ c. c.call.rules.settings) closes ≡ replicate (length closes) s → AtMost s.min_per_epoch_churn_limit (accepted (map event closes))
unfolding filter
stays-least s [] e = tt
stays-least s (c ∷ closes) e = go (accepts (event c)) (stays-least s closes (tail-eq_of_cons-eq e))
  where
    m : ℕ
    m = s.min_per_epoch_churn_limit

    go : (b : Bool) → AtMost m (accepted (map event closes)) → AtMost m (cond b (event c ∷ accepted (map event closes)) (accepted (map event closes)))
    go true h = (omega (arith, ap (λ (s : Settings). s.min_per_epoch_churn_limit) (head-eq_of_cons-eq e)), h)
    go false h = h

pub demand3 : Demand3
demand3 s start calls p = of-closes s.min_per_epoch_churn_limit start calls (least s.min_per_epoch_churn_limit _ p.churn (stays-least s (map close_of calls) p.stay)) p.list

-- 02, R-14: "How full an exit epoch can get." Words in quotation marks are the request's.
use Rattle.std.specs.Prelude.{◌≡◌, Bool, cond, ℕ, max, ◌≤◌, ◌<◌, T, leb, eqb, length, get_or}
use mathlib.Core.List.{List, [], ◌∷◌, ◌++◌, map, foldl}
use Rattle.definitions.specs.declared.Settings.{Settings}
use Rattle.definitions.specs.Lists.{filter, all, maximum}
use Rattle.definitions.specs.Record.{Validator, nobody, encode, decode, FAR_FUTURE_EPOCH as FAR}
use Rattle.definitions.specs.Checked.{code_of}
use Rattle.definitions.specs.Refusals.{after_tests, closing_buffer}
use Rattle.definitions.specs.LeafRefusals.{exit_tests}
use Rattle.definitions.specs.Rust.Phase0.Helpers.{get_validator_churn_limit, initiate_validator_exit}
use Rattle.definitions.specs.Rules.{settings_under}
use Rattle.definitions.specs.Close.{Call, Outcome, close}

-- A call, by what the claim asks of it: the register handed in and the one handed back, 0 or the refusal's number, and the churn limits met
pub record Event : Type 0 where
  pub opening : List Validator
  pub returned : List Validator
  pub refusal : ℕ
  pub limits : List ℕ

abbrev pub accepts : Event → Bool
accepts e = eqb e.refusal 0

-- the register that stands after some calls; a refused one leaves the register that stood
abbrev pub after : List Validator → Event → List Validator
after r e = cond (accepts e) e.returned r

abbrev pub standing : List Validator → List Event → List Validator
standing start events = foldl after start events

-- the churn limits "met in the run"; a refused call meets none
abbrev pub met : List Event → List ℕ
met [] = []
met (e ∷ events) = cond (accepts e) e.limits [] ++ met events

abbrev pub exit_epoch : List Validator → ℕ → ℕ
exit_epoch vs i = (get_or vs i nobody).exit_epoch

-- "the number of validators holding" exit epoch x
abbrev pub holding : ℕ → List Validator → ℕ
holding x vs = length (filter (λ v. eqb v.exit_epoch x) vs)

-- r stood and o is handed in: "Between calls no exit epoch is changed by others and new validators have exit epoch FAR"
pub record Others (r o : List Validator) : Type 0 where
  pub old : (i : ℕ) → i < length r → exit_epoch o i ≡ exit_epoch r i
  pub new : (i : ℕ) → length r ≤ i → i < length o → exit_epoch o i ≡ FAR

pub record Premises (start : List Validator) (events : List Event) : Type 0 where
  pub handed : (before later : List Event) (e : Event) → events ≡ before ++ e ∷ later → Others (standing start before) e.opening
  -- "with churn limit at least 1 throughout"
  pub churn : T (all (leb 1) (met events))

-- "for every exit epoch below FAR, the number of validators holding it afterwards is at most the larger of the number at the start and the
-- largest churn limit met in the run"
abbrev pub Claim : List Validator → List Event → Type 0
Claim start events = (x : ℕ) → x < FAR → holding x (standing start events) ≤ max (holding x start) (maximum 0 (met events))

-- "accepted closes and exit orders", as they were called and as they came back
pub data Called : Type 0 where
  -- a whole close
  closing : Call → Outcome → Called
  -- the exit of one validator: settings, the state's slot, its number and the register lent; the answer, and the register afterwards
  exiting : Settings → ℕ → ℕ → List ℕ → ℕ → List ℕ → Called

-- the settings that its steps go by, under either fork
abbrev pub settings_of : Call → Settings
settings_of c = settings_under c.rules

-- a close meets the churn limit of the register that it is handed, which stays while it runs; an exit meets it where there is one to make
abbrev pub event : Called → Event
event (closing c o) =
    record {
      opening = decode c.registry;
      returned = decode o.closing_registry;
      refusal = o.refusal;
      limits = get_validator_churn_limit (settings_of c) c.finality.slot (decode c.registry) ∷ [];
    }
event (exiting s slot i registry r registry_after) =
    record {
      opening = decode registry;
      returned = decode registry_after;
      refusal = r;
      limits = cond (eqb (exit_epoch (decode registry) i) FAR) (get_validator_churn_limit s slot (decode registry) ∷ []) [];
    }

-- it came back as its definition says
abbrev pub Defined : Called → Type 0
Defined (closing c o) = o ≡ close c
Defined (exiting s slot i registry r registry_after) =
    let tests = exit_tests s slot i registry in let exit = initiate_validator_exit s slot (decode registry) i in
    (r ≡ code_of (after_tests tests exit)) × (registry_after ≡ closing_buffer encode tests exit registry registry)

-- "over any run"
abbrev pub ExitEpochs : Type 0
ExitEpochs =
    (start : List Validator) (calls : List ((c : Called) × Defined c)) → let events = map (λ c. event c.0) calls in
    Premises start events → Claim start events

-- Demand 3 of every list of calls of the function: its contract says that each is a close of the definition, of which history proves it.
use mathlib.Core.Path.{◌≡◌, refl, ap, ap₂}
use mathlib.Core.Bool.{Bool}
use mathlib.Core.List.{List, [], ◌∷◌, map}
use Rattle.definitions.specs.declared.Settings.{Settings}
use Rattle.definitions.specs.Record.{BeaconState}
use Rattle.definitions.specs.Close.{Call, Outcome}
use Rattle.history.specs.Events.{Claim}
use Rattle.history.specs.Demand3.{event, close_of, Premises}
use Rattle.history.proofs.WholeClose.{demand3}
use Rattle.close.proofs.close.Reads as reads
use Rattle.theorems.proofs.Close.Contract.{call_of, Contract, Came, close_came, Says}

-- of every list of calls of a function with this contract
abbrev pub Demand3Of : Contract → Type 0
Demand3Of contract =
    (s : Settings) (start : BeaconState) (calls : List (Bool × Came contract)) → let closes = map (close_came contract) calls in
    Premises s start closes → Claim s.min_per_epoch_churn_limit start (map event closes)

-- where the contract says that they are closes of the definition
module _ (contract : Contract) (says : Says contract) where
  abbrev calls_of : List (Bool × Came contract) → List (Bool × Call)
  calls_of calls = map (λ c. (c.0, call_of c.1.lifetimes c.1.lent)) calls

  same : (calls : List (Bool × Came contract)) → map (close_came contract) calls ≡ map close_of (calls_of calls)
  same [] = refl
  same (c ∷ calls) =
      let x = c.1 in
      ap₂ ◌∷◌ (ap (λ (out : Outcome). record { call = call_of x.lifetimes x.lent; outcome = out; others_stay = c.0 }) (says x.lifetimes x.lent x.answer x.end x.holds)) (same calls)

  pub demand3-of : Demand3Of contract
  demand3-of s start calls p = rw (same calls) (demand3 s start (calls_of calls) (rw (same calls) at p))

-- the function `close`: `Learnt` is its contract
pub demand3-close : Demand3Of reads.Learnt
demand3-close = demand3-of reads.Learnt (λ κs a r e h. h)

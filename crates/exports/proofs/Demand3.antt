-- Demand 3 of every list of closes by `altair_close`, by steps, or of files on shelves: the contracts say that each is a close of the definition, of
-- which StoreHistory of theorems has it.
use mathlib.Core.Path.{◌≡◌, refl, ap, ap₂}
use mathlib.Core.Bool.{Bool}
use mathlib.Core.List.{List, [], ◌∷◌, map}
use Prim.Native.Nat.{ℕ}
use Rattle.definitions.specs.Record.{BeaconState}
use Rattle.definitions_close.specs.FullClose.{FullOutcome}
use Rattle.definitions_close.specs.StoreClose.{call_by}
use Rattle.history.specs.Events.{Least, Premises, Claim}
use Rattle.history.specs.Demand3.{Close, event}
use Rattle.theorems.specs.StoreHistory.Demand3 as store
use Rattle.theorems.specs.StoreHistory.Demand3.{rules_used, close_with, close_of}
use Rattle.theorems.specs.CloseBySteps.Demand3.{outcome_from}
use Rattle.theorems.proofs.StoreHistory.Demand3.{store-demand3}
use Rattle.theorems.specs.FullClose.Demand3.{close_by}
use Rattle.theorems.specs.Shelf.Files.{whole, outcome_of}
use Rattle.exports.proofs.Closes.{Came, called, came_back}
use Rattle.exports.proofs.ShelfCalls.{FileCame, file_came, file-defined}
use Rattle.exports.proofs.StepCalls.{act_of, StepsCame, last_of, last-is}

-- calls of `altair_close_step`, `altair_take_order` and `altair_carry_out`, in turn or not, each handed what the one before handed back; the close has
-- ended, refused at any call or by the ninth
pub record StepsEnded : Type 0 where
  pub steps : StepsCame
  pub ended : (last_of steps).running.done ≡ 9

pub data CloseCame : Type 0 where
  wholly : Came → CloseCame
  by_steps : StepsEnded → CloseCame
  -- a file of a call of `altair_close_shelf`
  on_shelf : FileCame → CloseCame

-- with a reading of what stands if it was refused
abbrev pub close_came : Bool × CloseCame → Close
close_came (others_stay, wholly c) = close_with others_stay (called c) (came_back c)
close_came (others_stay, by_steps b) =
    let whole = b.steps.whole in
    record { call = (call_by whole (rules_used whole)).call; outcome = outcome_from (last_of b.steps); others_stay = others_stay }
close_came (others_stay, on_shelf f) = close_by others_stay (whole (file_came f)) (outcome_of (file_came f))

-- the close as the statement sees it
pub call_of : CloseCame → store.AnyClose
call_of (wholly c) = store.wholly (called c)
call_of (by_steps b) =
    let s = b.steps in
    store.by_steps
    (record {
      whole = s.whole;
      desk = s.desk;
      begins = s.begins;
      list = map act_of s.calls;
      last = last_of s;
      came = last-is s;
      ended = b.ended;
    })
call_of (on_shelf f) = store.on_shelf (file_came f) (file-defined f)

calls_of : List (Bool × CloseCame) → List (Bool × store.AnyClose)
calls_of calls = map (λ c. (c.0, call_of c.1)) calls

pub same-one : (c : Bool × CloseCame) → close_came c ≡ close_of (c.0, call_of c.1)
unfolding call_of
same-one (w, wholly c) = ap (λ (o : FullOutcome). close_with w (called c) o) c.holds
same-one (w, by_steps b) = refl
same-one (w, on_shelf f) = refl

same : (calls : List (Bool × CloseCame)) → map close_came calls ≡ map close_of (calls_of calls)
unfolding calls_of
same [] = refl
same (c ∷ calls) = ap₂ ◌∷◌ (same-one c) (same calls)

-- m is at least 1, and at most the limit of every entry that an accepted close uses
pub demand3_altair_close :
    (m : ℕ) (start : BeaconState) (calls : List (Bool × CloseCame)) → let events = map event (map close_came calls) in
    Least m events → Premises start events → Claim m start events
demand3_altair_close m start calls l p = rw (same calls) (store-demand3 m start (calls_of calls) (rw (same calls) at l) (rw (same calls) at p))

-- Demand 3 of full closes: one that is accepted is a close with the same record, so that it has the interface of history.
use mathlib.Core.Path.{◌≡◌, sym, subst}
use mathlib.Core.Bool.{Bool}
use mathlib.Core.List.{List, [], ◌∷◌, map, map-map}
use Prim.Native.Nat.{ℕ}
use lib.Dec.{T, eqb, eqb→eq}
use Rattle.definitions.specs.Record.{BeaconState}
use Rattle.definitions.specs.Close.{Outcome, close}
use Rattle.definitions_close.specs.FullClose.{FullCall, full_close}
use Rattle.history.specs.Events.{Least, Premises, Claim}
use Rattle.history.specs.Demand3.{event}
use Rattle.history.proofs.Shape.{Shaped, EachShaped}
use Rattle.history.proofs.Premises.{least}
use Rattle.history.proofs.WholeClose.{close-shaped, stays-least}
use Rattle.history.proofs.EveryList.{claim}
use Rattle.theorems.specs.FullClose.ByNumber.{plain_outcome}
use Rattle.theorems.specs.FullClose.Demand3.{full_close_of, FullDemand3}
use Rattle.theorems.proofs.FullClose.ByNumber.{lent_same, full-by_number}

-- accepted, it gives what `close` gives
pub accepted-same : (c : FullCall) → T (eqb (full_close c).refusal 0) → plain_outcome (full_close c) ≡ close c.call
accepted-same c t = lent_same c ((full-by_number c).accepted (eqb→eq (full_close c).refusal 0 t)).lent

-- the interface, from the close of the same outcome
shaped_as : (w : Bool) (c : FullCall) (o : Outcome) → o ≡ close c.call → Shaped (event (record { call = c.call; outcome = o; others_stay = w }))
shaped_as w c o e = rw e (close-shaped (w, c.call))

pub full-shaped : (c : Bool × FullCall) → Shaped (event (full_close_of c))
full-shaped (w, c) t = shaped_as w c (plain_outcome (full_close c)) (accepted-same c t) t

each-full : (calls : List (Bool × FullCall)) → EachShaped (map (λ c. event (full_close_of c)) calls)
each-full [] = tt
each-full (c ∷ calls) = (full-shaped c, each-full calls)

-- of closes whose settings may differ: for each m that is at most the smallest churn limit of every accepted one
pub of_full_closes : (m : ℕ) (start : BeaconState) (calls : List (Bool × FullCall)) → let events = map event (map full_close_of calls) in Least m events → Premises start events → Claim m start events
of_full_closes m start calls l p = claim m start (map event (map full_close_of calls)) (subst EachShaped (sym (map-map event full_close_of calls)) (each-full calls)) l p

-- the smallest churn limit of settings that stay
pub full-demand3 : FullDemand3
full-demand3 s start calls p = of_full_closes s.min_per_epoch_churn_limit start calls (least s.min_per_epoch_churn_limit _ p.churn (stays-least s (map full_close_of calls) p.stay)) p.list

-- Demand 3 of lists in which each close names its fork: an accepted Deneb close has the interface of history, by the limit of its own.
use mathlib.Core.Path.{refl, ap, ◌∙◌}
use mathlib.Core.Bool.{Bool}
use mathlib.Core.List.{List, [], ◌∷◌, map}
use borrow.Author.Tests.{ltb-true}
use native.Mathlib.Omega.{arith}
use lib.Dec.{eqb→eq}
use Rattle.definitions.specs.Record.{decode}
use Rattle.definitions.specs.Rules.{settings_under}
use Rattle.definitions_deneb.specs.Calls.{limit_of, DenebCall, as_bellatrix, deneb_close}
use Rattle.definitions_close.specs.FullClose.{settings_of}
use Rattle.laws.specs.Bounds.{Passed}
use Rattle.laws.proofs.Encode.{decode-encode}
use Rattle.laws.proofs.Bounds.{setting_small, close_passed}
use Rattle.history.proofs.Shape.{Shaped, EachShaped}
use Rattle.history.proofs.EveryList.{claim}
use Rattle.history.proofs.Limited.{limited-shaped}
use Rattle.theorems.specs.FullClose.ByNumber.{LimitedAccepted}
use Rattle.theorems.proofs.FullClose.ByNumber.{limited-by_number}
use Rattle.theorems.proofs.FullClose.Demand2.{fewer-tests, accepted-tests}
use Rattle.theorems.proofs.StoreHistory.Demand3.{any-shaped}
use Rattle.theorems_deneb.specs.Demand3.{ForkClose, earlier, deneb, deneb_event, event_of, ForkDemand3}

pub deneb-shaped : (w : Bool) (c : DenebCall) → Shaped (deneb_event w c (deneb_close c))
unfolding deneb_close settings_under
deneb-shaped w c t =
    limited-shaped (limit_of c.rules) (settings_of (as_bellatrix c)) (deneb_event w c (deneb_close c))
    (record {
      state = a.state;
      worked = a.gave;
      finality = a.finality;
      validators = ap decode a.registry ∙ decode-encode a.state.validators;
      epoch = refl;
      lookahead = refl;
      slot_small = ltb-true _ _ p.small;
      lookahead-small = setting_small (settings_of (as_bellatrix c)) p.good 14 (omega arith);
    })
  where
    a : LimitedAccepted (limit_of c.rules) (as_bellatrix c)
    a = (limited-by_number (limit_of c.rules) (as_bellatrix c)).accepted (eqb→eq _ 0 t)

    p : Passed (settings_of (as_bellatrix c)) c.finality.slot
    p = (close_passed (as_bellatrix c).call (fewer-tests (limit_of c.rules) (as_bellatrix c).call (accepted-tests (limit_of c.rules) (as_bellatrix c) (eqb→eq _ 0 t)))).passed

fork-shaped : (c : Bool × ForkClose) → Shaped (event_of c)
fork-shaped (w, earlier c) = any-shaped (w, c)
fork-shaped (w, deneb c) = deneb-shaped w c

each : (calls : List (Bool × ForkClose)) → EachShaped (map event_of calls)
each [] = tt
each (c ∷ calls) = (fork-shaped c, each calls)

pub fork-demand3 : ForkDemand3
fork-demand3 m start calls l p = claim m start (map event_of calls) (each calls) l p

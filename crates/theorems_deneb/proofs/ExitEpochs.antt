-- R-14 of runs in which each close names its fork: the exits of a Deneb close are made under the churn limit, as before.
use mathlib.Core.Path.{sym, ap, subst, ◌∙◌}
use mathlib.Core.List.{List, [], ◌∷◌, map}
use lib.Dec.{eqb→eq}
use Rattle.definitions.specs.Record.{decode}
use Rattle.definitions.specs.Close.{state_of}
use Rattle.definitions_close.specs.FullClose.{settings_of}
use Rattle.definitions_deneb.specs.Calls.{limit_of, DenebCall, as_bellatrix, deneb_close}
use Rattle.laws.proofs.Encode.{decode-encode}
use Rattle.history.proofs.EightSteps.{parts}
use Rattle.history.proofs.ExitEpochs.Shape.{Exits, Shaped}
use Rattle.history.proofs.ExitEpochs.OneClose.{eight-exits}
use Rattle.history.proofs.ExitEpochs.EveryRun.{EachShaped, claim}
use Rattle.theorems.specs.FullClose.ByNumber.{LimitedAccepted}
use Rattle.theorems.specs.ExitCalls.ExitCalls.{close_event}
use Rattle.theorems.proofs.FullClose.ByNumber.{limited-by_number}
use Rattle.theorems.proofs.StoreHistory.ExitEpochs as before
use Rattle.theorems_deneb.specs.ExitEpochs.{Called, earlier, deneb, event, Defined, ForkExitCalls}

deneb-shaped : (c : DenebCall) → Shaped (close_event (as_bellatrix c) (deneb_close c).closing_registry (deneb_close c).refusal)
unfolding deneb_close
deneb-shaped c t =
    subst (Exits _ (decode c.registry)) (sym (ap decode a.registry ∙ decode-encode a.state.validators))
    (eight-exits (limit_of c.rules) (settings_of (as_bellatrix c)) (state_of (as_bellatrix c).call) a.state (parts (limit_of c.rules) (settings_of (as_bellatrix c)) (state_of (as_bellatrix c).call) a.gave))
  where
    a : LimitedAccepted (limit_of c.rules) (as_bellatrix c)
    a = (limited-by_number (limit_of c.rules) (as_bellatrix c)).accepted (eqb→eq _ 0 t)

shaped : (c : Called) → Defined c → Shaped (event c)
shaped (earlier c) d = before.shaped c d
shaped (deneb c o) e = rw e (deneb-shaped c)

each : (calls : List ((c : Called) × Defined c)) → EachShaped (map (λ c. event c.0) calls)
each [] = tt
each ((c, e) ∷ calls) = (shaped c e, each calls)

pub fork_exit_calls : ForkExitCalls
fork_exit_calls start calls p = claim start (map (λ c. event c.0) calls) (each calls) p

-- Each call has the interface of history, ExitEpochs/Shape.antt, where it is accepted.
use mathlib.Core.Path.{ap}
use mathlib.Core.Logic.{◌⊎◌, inl, inr}
use mathlib.Core.List.{List, [], ◌∷◌, map}
use Prim.Native.Nat.{ℕ}
use native.Mathlib.Omega.{arith}
use lib.Dec.{eqb→eq}
use Rattle.definitions.specs.declared.Settings.{Settings}
use Rattle.definitions.specs.declared.ExitQueue.{ExitQueue}
use Rattle.definitions.specs.declared.QueueAnswer.{QueueAnswer}
use Rattle.definitions.specs.declared.FullAnswer.{FullAnswer}
use Rattle.definitions.specs.Record.{encode, decode}
use Rattle.definitions.specs.LeafRefusals.{exit_tests}
use Rattle.definitions.specs.Rust.Phase0.Helpers.{initiate_validator_exit}
use Rattle.definitions.specs.Closes.{Closes}
use Rattle.definitions_close.specs.FullClose.{FullCall, full_close}
use Rattle.theorems.specs.CloseBySteps.Desk.{Desk, Act, acts, Gives}
use Rattle.theorems.proofs.CloseBySteps.Eight.{any-calls}
use Rattle.theorems.specs.FullClose.ByNumber.{plain_outcome}
use Rattle.theorems.specs.FullClose.QueueCalls.{WrongPair}
use Rattle.theorems.proofs.FullClose.Demand3.{accepted-same}
use Rattle.theorems.proofs.FullClose.QueueCalls.{exit-call}
use Rattle.history.specs.ExitEpochs as base
use Rattle.history.proofs.ExitEpochs.Shape.{Shaped}
use Rattle.history.proofs.ExitEpochs.OneClose as base-shaped
use Rattle.history.proofs.ExitEpochs.EveryRun.{EachShaped, claim}
use Rattle.theorems.specs.ExitCalls.ExitCalls.{Called, closing, stepping, carrying, exiting, close_event, event, Defined, ExitCalls}
use Rattle.theorems.proofs.ExitCalls.Orders.{carries}

-- accepted, a full close is a close
close-shaped : (c : FullCall) → Shaped (close_event c (full_close c).closing_registry (full_close c).refusal)
close-shaped c t = base-shaped.shaped (base.closing c.call (plain_outcome (full_close c))) (accepted-same c t) t

-- calls of steps leave what it leaves
steps-shaped : (c : FullCall) (d : Desk) (list : List Act) → Gives (full_close c) (acts c d list) → Shaped (close_event c (acts c d list).closing_registry (acts c d list).running.answer.refusal)
steps-shaped c d list g = rw (g.closing_registry, ap (λ (a : FullAnswer). a.refusal) g.answer) (close-shaped c)

-- an exit that is not refused under 8 is one without the pair
exit-shaped : (s : Settings) (slot i : ℕ) (queue : ExitQueue) (registry : List ℕ) (r : QueueAnswer) (after : List ℕ) → WrongPair (exit_tests s slot i registry) queue registry registry after r ⊎ Closes encode (exit_tests s slot i registry) (initiate_validator_exit s slot (decode registry) i) registry registry after r.refusal → Shaped (event (exiting s slot i queue registry r after))
exit-shaped s slot i queue registry r after (inl w) t = absurd (omega (arith, w.refusal, eqb→eq r.refusal 0 t))
exit-shaped s slot i queue registry r after (inr k) t = base-shaped.shaped (base.exiting s slot i registry r.refusal after) (k.number, k.buffer) t

pub shaped : (c : Called) → Defined c → Shaped (event c)
shaped (closing c o) e = rw e (close-shaped c)
shaped (stepping c d list) e = steps-shaped c d list (any-calls c d e.0 list e.1).gives
shaped (carrying c o) e = λ t. rw e (carries c)
shaped (exiting s slot i queue registry r after) h = exit-shaped s slot i queue registry r after (exit-call s slot i queue registry after r h).rest

each-shaped : (cs : List ((c : Called) × Defined c)) → EachShaped (map (λ c. event c.0) cs)
each-shaped [] = tt
each-shaped (c ∷ cs) = (shaped c.0 c.1, each-shaped cs)

pub exit-calls : ExitCalls
exit-calls start cs p = claim start (map (λ c. event c.0) cs) (each-shaped cs) p

-- Demands 1 and 2 of `deneb_close` and `deneb_process_registry_updates`, and demand 3 and R-14 of every list in which each close names its fork; `Learnt`
-- is a function's own contract.
use mathlib.Core.Path.{◌≡◌, refl, sym, ap, ap₂, subst}
use mathlib.Core.Bool.{Bool}
use mathlib.Core.List.{List, [], ◌∷◌, map, map-map}
use Prim.Native.Nat.{ℕ}
use contract.Lifetimes.{Lfts}
use borrow.Fn.Kinds.{Dens, res_t, ended_of}
use denote.Triple.Clauses.{AtExit}
use Rattle.definitions.specs.Record.{Validator, BeaconState, decode}
use Rattle.definitions.specs.Close.{finalized_epoch_of}
use Rattle.definitions_close.specs.Calls.{full_outcome}
use Rattle.definitions_close.specs.FullClose.{FullOutcome}
use Rattle.definitions_deneb.specs.Calls.{DenebCall, deneb_called}
use Rattle.history.specs.Events.{Event, Least, Premises, Claim}
use Rattle.history.specs.Demand3 as demand3
use Rattle.history.specs.ExitEpochs as exits
use Rattle.theorems_deneb.specs.Calls.{DenebCloseCall, DenebRegistryCall}
use Rattle.theorems_deneb.specs.Demand3 as forks
use Rattle.theorems_deneb.specs.ExitEpochs as runs
use Rattle.theorems_deneb.proofs.Calls.{deneb_close-call, deneb_registry_call}
use Rattle.theorems_deneb.proofs.Demand3.{fork-demand3}
use Rattle.theorems_deneb.proofs.ExitEpochs.{fork_exit_calls}
use Rattle.exports.proofs.Demand3.{CloseCame, close_came, call_of, same-one}
use Rattle.exports.proofs.ExitEpochs.{CameBack, called as called_before}
use Rattle.exports.proofs.deneb_calls.deneb_close.Kinds as close_kinds
use Rattle.exports.proofs.deneb_calls.deneb_close.Reads as close
use Rattle.exports.proofs.deneb_calls.deneb_process_registry_updates.Kinds as registry_kinds
use Rattle.exports.proofs.deneb_calls.deneb_process_registry_updates.Reads as registry

-- a call of the close that came back, and that the contract holds of it
pub record DenebCame : Type 0 where
  pub lifetimes : Lfts 6
  pub lent : Dens lifetimes close_kinds.ps
  pub answer : (res_t close_kinds.r lifetimes).Denot
  pub end : AtExit (ended_of 6 close_kinds.ps close_kinds.r) lifetimes
  pub holds : close.Learnt lifetimes lent answer end

-- the call, from what was lent; the outcome, from the answer and what the lent numbers are at the end
abbrev pub called : DenebCame → DenebCall
called c =
    let a = c.lent in
    let b = a.1.1.1 in
    let d = b.1.1.1 in
    deneb_called a.0 a.1.0 a.1.1.0 b.0.now b.1.0.now b.1.1.0.now d.0.now d.1.0.now d.1.1.0.now

abbrev pub came_back : DenebCame → FullOutcome
came_back c =
    let d = c.end.1.1.1.1.1.1 in
    full_outcome c.answer d.0.now d.1.0.now d.1.1.0.now

pub demand2-deneb_close : (c : DenebCame) → DenebCloseCall (called c) (came_back c)
demand2-deneb_close c = rw c.holds (deneb_close-call (called c))

pub demand2_deneb_registry :
    (κs : Lfts 2) (a : Dens κs registry_kinds.ps) (r : (res_t registry_kinds.r κs).Denot) (e : AtExit (ended_of 2 registry_kinds.ps registry_kinds.r) κs)
    → registry.Learnt κs a r e
    → let opening = a.1.1.1.1.0.now in let closing = a.1.1.1.1.1.0.now in let after = e.1.1.1.1.1.0.now in
    (st : BeaconState) → a.1.0 ≡ st.finality.slot → a.1.1.0 ≡ finalized_epoch_of st → decode opening ≡ st.validators
    → DenebRegistryCall a.0 st a.1.1.1.0 opening closing after r
demand2_deneb_registry κs a r e h st p q d = deneb_registry_call a.0 st _ _ _ _ r d (rw (p, q) at h)

-- Demand 3

pub data ForkCame : Type 0 where
  -- `altair_close`, a close by steps, or a file of a shelf
  earlier : CloseCame → ForkCame
  deneb : DenebCame → ForkCame

-- with a reading of what stands if it was refused
abbrev pub event_came : Bool × ForkCame → Event
event_came (others_stay, earlier c) = demand3.event (close_came (others_stay, c))
event_came (others_stay, deneb c) = forks.deneb_event others_stay (called c) (came_back c)

-- the close as the statement sees it
pub fork_of : ForkCame → forks.ForkClose
fork_of (earlier c) = forks.earlier (call_of c)
fork_of (deneb c) = forks.deneb (called c)

closes_of : List (Bool × ForkCame) → List (Bool × forks.ForkClose)
closes_of calls = map (λ c. (c.0, fork_of c.1)) calls

pub same-fork : (c : Bool × ForkCame) → event_came c ≡ forks.event_of (c.0, fork_of c.1)
unfolding fork_of
same-fork (w, earlier c) = ap demand3.event (same-one (w, c))
same-fork (w, deneb c) = ap (forks.deneb_event w (called c)) c.holds

same : (calls : List (Bool × ForkCame)) → map event_came calls ≡ map forks.event_of (closes_of calls)
unfolding closes_of
same [] = refl
same (c ∷ calls) = ap₂ ◌∷◌ (same-fork c) (same calls)

-- m is at least 1, and at most the smallest activation churn limit of every accepted close
pub demand3_forks :
    (m : ℕ) (start : BeaconState) (calls : List (Bool × ForkCame)) → let events = map event_came calls in
    Least m events → Premises start events → Claim m start events
demand3_forks m start calls l p = rw (same calls) (fork-demand3 m start (closes_of calls) (rw (same calls) at l) (rw (same calls) at p))

-- R-14

pub data ForkBack : Type 0 where
  before : CameBack → ForkBack
  of_deneb : DenebCame → ForkBack

abbrev pub called_fork : ForkBack → (c : runs.Called) × runs.Defined c
called_fork (before c) = let k = called_before c in (runs.earlier k.0, k.1)
called_fork (of_deneb c) = (runs.deneb (called c) (came_back c), c.holds)

pub exit_epochs_forks :
    (start : List Validator) (calls : List ForkBack) → let events = map (λ c. runs.event (called_fork c).0) calls in
    exits.Premises start events → exits.Claim start events
exit_epochs_forks start calls p = subst (exits.Claim start) joined (fork_exit_calls start (map called_fork calls) (subst (exits.Premises start) (sym joined) p))
  where
    joined : map (λ c. runs.event c.0) (map called_fork calls) ≡ map (λ c. runs.event (called_fork c).0) calls
    joined = map-map (λ c. runs.event c.0) called_fork calls

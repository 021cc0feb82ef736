-- Calls of a function that has the parameters of `close`, by its own contract, as demand 3 sees them.
use mathlib.Core.Path.{◌≡◌}
use mathlib.Core.Bool.{Bool}
use contract.Lifetimes.{Lfts}
use borrow.Fn.Kinds.{Dens, res_t, ended_of}
use denote.Triple.Clauses.{AtExit}
use Rattle.definitions.specs.Close.{Call, Outcome, close}
use Rattle.history.specs.Demand3.{Close}
use Rattle.close.specs.Called.{called, outcome}
use Rattle.close.proofs.close.Kinds as kinds

module _ (κs : Lfts 5) where
  -- the call, from what was lent; the outcome, from the answer and what the lent numbers are at the end
  abbrev pub call_of : Dens κs kinds.ps → Call
  call_of a = called a.0 a.1.0 a.1.1.0.now a.1.1.1.0.now a.1.1.1.1.0.now a.1.1.1.1.1.0.now a.1.1.1.1.1.1.0.now

  abbrev pub outcome_of : (res_t kinds.r κs).Denot → AtExit (ended_of 5 kinds.ps kinds.r) κs → Outcome
  outcome_of r e = outcome r e.1.1.1.1.1.0.now e.1.1.1.1.1.1.0.now

-- a contract, as the checker reads it off the function: what it says of what was lent, the answer and the end
abbrev pub Contract : Type 1
Contract = (κs : Lfts 5) → Dens κs kinds.ps → (res_t kinds.r κs).Denot → AtExit (ended_of 5 kinds.ps kinds.r) κs → Type 0

-- a call that came back, and that the contract holds of it
pub record Came (contract : Contract) : Type 0 where
  pub lifetimes : Lfts 5
  pub lent : Dens lifetimes kinds.ps
  pub answer : (res_t kinds.r lifetimes).Denot
  pub end : AtExit (ended_of 5 kinds.ps kinds.r) lifetimes
  pub holds : contract lifetimes lent answer end

-- with a reading of what stands if it was refused
abbrev pub close_came : (contract : Contract) → Bool × Came contract → Close
close_came contract c =
    record {
      call = call_of c.1.lifetimes c.1.lent;
      outcome = outcome_of c.1.lifetimes c.1.answer c.1.end;
      others_stay = c.0;
    }

-- the contract says that the outcome is the definition's
abbrev pub Says : Contract → Type 0
Says contract = (κs : Lfts 5) (a : Dens κs kinds.ps) (r : (res_t kinds.r κs).Denot) (e : AtExit (ended_of 5 kinds.ps kinds.r) κs) → contract κs a r e → outcome_of κs r e ≡ close (call_of κs a)

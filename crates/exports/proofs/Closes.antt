-- Calls of `altair_close` that came back, as the definition's records; `Learnt` is the function's own contract.
use contract.Lifetimes.{Lfts}
use borrow.Fn.Kinds.{Dens, res_t, ended_of}
use denote.Triple.Clauses.{AtExit}
use Rattle.definitions_close.specs.FullClose.{FullOutcome}
use Rattle.definitions_close.specs.StoreClose.{StoreCall}
use Rattle.definitions_close.specs.Calls.{full_outcome, lent, store_called}
use Rattle.exports.proofs.whole.altair_close.Kinds as kinds
use Rattle.exports.proofs.whole.altair_close.Reads as reads

module _ (κs : Lfts 7) where
  -- the call, from what was lent; the outcome, from the answer and what the lent numbers are at the end
  abbrev pub call_of : Dens κs kinds.ps → StoreCall
  call_of a =
      let b = a.1.1.1.1 in
      let d = b.1.1.1 in
      store_called (lent a.0.now a.1.0) a.1.1.0 a.1.1.1.0 b.0.now b.1.0.now b.1.1.0.now d.0.now d.1.0.now d.1.1.0.now

  abbrev pub outcome_of : (res_t kinds.r κs).Denot → AtExit (ended_of 7 kinds.ps kinds.r) κs → FullOutcome
  outcome_of r e =
      let d = e.1.1.1.1.1.1.1 in
      full_outcome r d.0.now d.1.0.now d.1.1.0.now

-- a call that came back, and that the contract holds of it
pub record Came : Type 0 where
  pub lifetimes : Lfts 7
  pub lent : Dens lifetimes kinds.ps
  pub answer : (res_t kinds.r lifetimes).Denot
  pub end : AtExit (ended_of 7 kinds.ps kinds.r) lifetimes
  pub holds : reads.Learnt lifetimes lent answer end

abbrev pub called : Came → StoreCall
called c = call_of c.lifetimes c.lent

abbrev pub came_back : Came → FullOutcome
came_back c = outcome_of c.lifetimes c.answer c.end

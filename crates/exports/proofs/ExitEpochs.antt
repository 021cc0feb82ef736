-- R-14 of every run of whole closes, closes by steps, files on shelves, orders carried out and exits of one validator, by the library's own calls;
-- `Learnt` is a function's own contract.
use mathlib.Core.Path.{◌≡◌, sym, subst}
use mathlib.Core.List.{List, map, map-map}
use contract.Lifetimes.{Lfts}
use borrow.Fn.Kinds.{Dens, res_t, ended_of}
use denote.Triple.Clauses.{AtExit}
use Rattle.definitions.specs.Record.{Validator}
use Rattle.history.specs.ExitEpochs.{Premises, Claim}
use Rattle.theorems.specs.CloseBySteps.Desk.{Closed}
use Rattle.theorems.specs.ExitCalls.ExitCalls.{exiting}
use Rattle.theorems.specs.StoreHistory.ExitEpochs.{Called, storing, stepping, carrying, shelving, other, Defined, event}
use Rattle.theorems.proofs.StoreHistory.ExitEpochs.{store_exit_calls}
use Rattle.exports.proofs.Closes as closes
use Rattle.exports.proofs.ShelfCalls.{FileCame, file_came, file-defined}
use Rattle.exports.proofs.StepCalls.{act_of, StepsCame, last_of, last-is, NinthCame, ninth_of, ninth_back}
use Rattle.exports.proofs.phase0_helpers.altair_initiate_validator_exit.Kinds as exit_kinds
use Rattle.exports.proofs.phase0_helpers.altair_initiate_validator_exit.Reads as exit

-- an exit that came back, and that the contract holds of it
pub record ExitCame : Type 0 where
  pub lifetimes : Lfts 1
  pub lent : Dens lifetimes exit_kinds.ps
  pub answer : (res_t exit_kinds.r lifetimes).Denot
  pub end : AtExit (ended_of 1 exit_kinds.ps exit_kinds.r) lifetimes
  pub holds : exit.Learnt lifetimes lent answer end

pub data CameBack : Type 0 where
  of_close : closes.Came → CameBack
  -- calls of `altair_close_step`, in turn or not, with whatever other calls of the close between them: the steps are done, or the close is refused
  of_steps : (s : StepsCame) → Closed (last_of s) → CameBack
  -- `altair_carry_out`
  of_ninth : NinthCame → CameBack
  -- a file of a call of `altair_close_shelf`
  of_shelf : FileCame → CameBack
  of_exit : ExitCame → CameBack

-- the call as the statement sees it, and that it came back as its definition says
abbrev pub called : CameBack → (c : Called) × Defined c
called (of_close c) = (storing (closes.called c) (closes.came_back c), c.holds)
called (of_steps s f) = (stepping s.whole s.desk (map act_of s.calls) (last_of s), (s.begins, last-is s, f))
called (of_ninth n) = (carrying (ninth_of n) (ninth_back n), n.holds)
called (of_shelf f) = (shelving (file_came f), file-defined f)
called (of_exit c) =
    let a = c.lent in
    (other (exiting a.0 a.1.0 a.1.1.0 a.1.1.1.0 a.1.1.1.1.0.now c.answer c.end.1.1.1.1.0.now), c.holds)

pub exit_epochs-altair :
    (start : List Validator) (calls : List CameBack) → let events = map (λ c. event (called c).0) calls in
    Premises start events → Claim start events
exit_epochs-altair start calls p = subst (Claim start) same (store_exit_calls start (map called calls) (subst (Premises start) (sym same) p))
  where
    same : map (λ c. event c.0) (map called calls) ≡ map (λ c. event (called c).0) calls
    same = map-map (λ c. event c.0) called calls

-- R-4: the number of the finality test tells the checkpoint, of `altair_close` and of a close by steps. Of the justification step: Demand2.antt.
use mathlib.Core.List.{map}
use mathlib.Core.Logic.{◌⊎◌}
use mathlib.Core.Path.{◌≡◌, sym, subst}
use Rattle.definitions_close.specs.FullClose.{FullOutcome}
use Rattle.theorems.specs.Amounts.Laws.{set_by}
use Rattle.theorems.specs.CloseBySteps.Desk.{Desk}
use Rattle.theorems.proofs.StoreHistory.Test.{store_close_tells, steps_tell}
use Rattle.exports.proofs.Closes.{Came, called, came_back}
use Rattle.exports.proofs.StepCalls.{act_of, StepsCame, last_of, last-is}

pub tells_altair_close : (c : Came) → let o = came_back c in o.finality.finalized_checkpoint ≡ set_by o.test (called c).finality
tells_altair_close c =
    subst (λ (o : FullOutcome). o.finality.finalized_checkpoint ≡ set_by o.test (called c).finality) (sym c.holds) (store_close_tells (called c))

-- once all steps are done, and when it has ended
pub tells_altair_steps :
    (s : StepsCame) → let running = (last_of s).running in (running.done ≡ 8) ⊎ (running.done ≡ 9)
    → running.answer.finality.finalized_checkpoint ≡ set_by running.answer.test s.whole.finality
tells_altair_steps s f =
    let e = last-is s in
    rw e
    (steps_tell s.whole s.desk s.begins (map act_of s.calls)
    (subst (λ (x : Desk). (x.running.done ≡ 8) ⊎ (x.running.done ≡ 9)) e f))

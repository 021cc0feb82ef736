-- The exit queue's pair of a register. Document 02, R-8: "the largest exit epoch below FAR, or 0 where there is none, and how many validators
-- have exactly that epoch (0 with none)".
use Rattle.std.specs.Prelude.{Bool, cond, ◌&&◌, List, eqb}
use Rattle.definitions.specs.declared.ExitQueue.{ExitQueue}
use Rattle.definitions.specs.Lists.{maximum}
use Rattle.definitions.specs.Record.{Validator}
use Rattle.definitions.specs.Checked.{Checked, value, refused}
use Rattle.definitions.specs.declared.Refusal.TheVariants.{WrongQueue}
use Rattle.definitions.specs.Document.Phase0.Helpers.{exit_epochs, exit_queue_churn}

unfoldable pub queue_of : List Validator → ExitQueue
queue_of vs =
    let last = maximum 0 (exit_epochs vs) in
    record { last_epoch = last; number = exit_queue_churn last vs }

unfoldable pub is_queue_of : ExitQueue → List Validator → Bool
is_queue_of q vs = eqb q.last_epoch (queue_of vs).last_epoch && eqb q.number (queue_of vs).number

-- "Turned away: 8, where a stored pair is not that of the register"
unfoldable pub queue_test : ExitQueue → List Validator → Checked (Unit {0})
queue_test q vs = cond (is_queue_of q vs) (value tt) (refused WrongQueue)

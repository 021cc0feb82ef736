use Rattle.arithmetic.proofs.Laws.{carried}
use Rattle.write_turn.proofs.Entry.{turn-steps, turn-few, admit_steps, moves-value, moves-refused}
use Rattle.write_turn.proofs.Sweeps.Steps.{after_then, after_stop}
use Rattle.write_turn.proofs.entry_move.Goals as goal

pub returns-in_err-next : goal.returns-in_err-next
returns-in_err-next c = moves-refused _ _ _ (after_stop (turn-steps _ _ _ c.update_entry.ensures) _ c.in_err-next.was) (carried _ c.from_residual.ensures)

pub returns : goal.returns
returns c = moves-value _ _ _ (after_then (turn-steps _ _ _ c.update_entry.ensures) _ c.in_ok-next.was (admit_steps _ _ _ _ c.admit_entry-rest.ensures.after c.admit_entry-rest.ensures.value)) (turn-few _ _ _ c.update_entry.ensures c.in_ok-next.was)

use mathlib.Core.Path.{ap, ◌∙◌}
use Rattle.definitions.specs.Checked.{done}
use Rattle.arithmetic.proofs.Laws.{carried}
use Rattle.write_turn.specs.Written.{moved_of}
use Rattle.write_turn.proofs.Entry.{queue-steps, later-steps, unpaid_steps, writes-value, writes-refused}
use Rattle.write_turn.proofs.Sweeps.Steps.{steps_copied, first_then, last_then, last-over, last-stop}
use native.Mathlib.Omega.{arith}
use borrow.Author.Rules.{rules}
use Rattle.write_turn.proofs.write_entry.Goals as goal

pub entry_pay-requires : goal.entry_pay-requires
entry_pay-requires c =
    let a = c.requires in record { planned = a.planned; len = search rules; rates_for = rw c.copy_entry.ensures a.rates_for }

pub returns-in_err-pairs : goal.returns-in_err-pairs
returns-in_err-pairs c =
    let a = c.args in
    writes-refused _ _ _ _ _ (steps_copied c.copy_entry.ensures (unpaid_steps a.later a.s a.p a.t a.n c.entry_pay.ensures.runs (ap done c.in_err-pairs.was))) (carried _ c.from_residual.ensures)

pub entry_turn-requires : goal.entry_turn-requires
entry_turn-requires c =
    let a = c.requires in
    record { planned = a.planned; len = (c.entry_pay.auto.entry ∙ c.copy_entry.auto.to ∙ a.from_len.1, a.current_epoch_bound.1) }

pub returns-in_err-after : goal.returns-in_err-after
returns-in_err-after c =
    let a = c.args in
    let turned = rw c.in_err-after.was at c.entry_turn.ensures in
    writes-refused _ _ _ _ _ (steps_copied c.copy_entry.ensures (later-steps a.later a.s a.p a.t a.n c.if-later-ne0.true (first_then c.entry_pay.ensures.runs _ (ap done c.in_ok-pairs.was) turned))) (carried _ c.from_residual-in_err-after.ensures)

pub returns-then-later-ne0 : goal.returns-then-later-ne0
returns-then-later-ne0 c =
    let a = c.args in
    let pays = c.entry_pay.ensures in
    let same = c.copy_entry.ensures in
    let turned = rw c.in_ok-after.was at c.entry_turn.ensures in
    writes-value _ _ _ _ _ (steps_copied same (later-steps a.later a.s a.p a.t a.n c.if-later-ne0.true (first_then pays.runs _ (ap done c.in_ok-pairs.was) turned))) (omega arith) (rw (← same) (pays.pairs _ c.in_ok-pairs.was))

pub entry_move-requires : goal.entry_move-requires
entry_move-requires c =
    let a = c.requires in
    (c.entry_pay.auto.entry ∙ c.copy_entry.auto.to ∙ a.from_len.1, a.current_epoch_bound.0, a.current_epoch_bound.2)

pub returns-in_err-moved : goal.returns-in_err-moved
returns-in_err-moved c =
    let a = c.args in
    let moved = c.entry_move.ensures in
    writes-refused _ _ _ _ _ (steps_copied c.copy_entry.ensures (queue-steps a.later a.s a.p a.t a.n (omega (arith, c.if-later-ne0.false)) (first_then c.entry_pay.ensures.runs _ (ap done c.in_ok-pairs.was) (last-stop moved.steps _ (ap moved_of c.in_err-moved.was))))) (carried _ c.from_residual-in_err-moved.ensures)

pub entry_finish-requires : goal.entry_finish-requires
entry_finish-requires c =
    let a = c.requires in
    record { planned = a.planned; len = c.entry_move.auto.entry ∙ c.entry_pay.auto.entry ∙ c.copy_entry.auto.to ∙ a.from_len.1 }

pub returns-in_err-entry_finish : goal.returns-in_err-entry_finish
returns-in_err-entry_finish c =
    let a = c.args in
    let moved = c.entry_move.ensures in
    writes-refused _ _ _ _ _ (steps_copied c.copy_entry.ensures (queue-steps a.later a.s a.p a.t a.n (omega (arith, c.if-later-ne0.false)) (first_then c.entry_pay.ensures.runs _ (ap done c.in_ok-pairs.was) (last-over moved.steps _ (ap moved_of c.in_ok-moved.was) c.entry_finish.ensures c.in_err-entry_finish.was)))) (carried _ c.from_residual-in_err-entry_finish.ensures)

pub returns : goal.returns
returns c =
    let a = c.args in
    let pays = c.entry_pay.ensures in
    let same = c.copy_entry.ensures in
    let moved = c.entry_move.ensures in
    writes-value _ _ _ _ _ (steps_copied same (queue-steps a.later a.s a.p a.t a.n (omega (arith, c.if-later-ne0.false)) (first_then pays.runs _ (ap done c.in_ok-pairs.was) (last_then moved.steps _ (ap moved_of c.in_ok-moved.was) c.entry_finish.ensures c.in_ok-entry_finish.was)))) (moved.few _ c.in_ok-moved.was) (rw (← same) (pays.pairs _ c.in_ok-pairs.was))

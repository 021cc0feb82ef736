use Rattle.refusals.proofs.Laws.{good-settings}
use Rattle.arithmetic.proofs.Laws.{carried}
use Rattle.electra_deposits.proofs.step.Close.{next-far, queue-given, step-over, step_run}
use Rattle.electra_deposits.proofs.step.run_deposits.Goals as goal

pub returns-in_err-q : goal.returns-in_err-q
returns-in_err-q c =
    let a = c.args in
    step-over a.rules a.state_slot a.finalized_epoch a.numbers a.registry.now a.compounding.now a.deposits.now c.queue_numbers.ensures c.in_err-q.was (carried _ c.from_residual.ensures)

pub run_queue-requires : goal.run_queue-requires
run_queue-requires c =
    let a = c.args in
    let p = c.requires in
    let g = queue-given a.rules.electra.max_pending_deposits_per_epoch c.queue_numbers.ensures c.in_ok-q.was in
    record { lent = p.lent; increment_nonzero = (rw c.new_numbers-k.ensures (good-settings a.rules.settings p.settings_value.0).positive.effective_balance_increment, p.settings_value.1, next-far _ _ g.is) }

pub returns : goal.returns
returns c =
    let a = c.args in
    step_run a.rules a.state_slot a.finalized_epoch a.numbers a.registry.now a.compounding.now a.deposits.now c.queue_numbers.ensures c.in_ok-q.was c.new_numbers-k.ensures c.run_queue.ensures

use Rattle.std.proofs.Common.{arith}
use Rattle.laws.proofs.Bounds.{bounds}
use Rattle.refusals.proofs.Laws.{good-settings}
use Rattle.electra_refusals.proofs.Passed.{ConsolidationsPassed, consolidations-passed}
use Rattle.electra_consolidations.proofs.Closing.{placed_of, call-refused, call-done, call-undone}
use Rattle.electra_consolidations.proofs.process_pending_consolidations.Goals.{In_default}
use Rattle.electra_consolidations.proofs.process_pending_consolidations.Goals as goal

-- behind the tests
passed : (c : In_default) → let a = c.args in ConsolidationsPassed a.rules a.state_slot a.registry.now a.consolidations.now a.closing_registry.now a.closing_consolidations.now
passed c = consolidations-passed _ _ _ _ _ _ c.consolidations_tests.ensures c.in_default.is

pub returns-in-Err : goal.returns-in-Err
returns-in-Err c = rw c.number.ensures (call-refused _ _ _ _ _ c.consolidations_tests.ensures c.in-Err.is)

pub copy-requires : goal.copy-requires
copy-requires c = (passed (goal.at.copy-requires c).In_default).same

pub current_epoch-next_epoch-requires : goal.current_epoch-next_epoch-requires
current_epoch-next_epoch-requires c = (good-settings _ (passed (goal.at.current_epoch-next_epoch-requires c).In_default).settings.good).positive.slots_per_epoch

pub overflow_add-next_epoch : goal.overflow_add-next_epoch
overflow_add-next_epoch c =
    let p = passed (goal.at.overflow_add-next_epoch c).In_default in
    omega (arith, (bounds _ _ p.settings).next_epoch, c.current_epoch-next_epoch.ensures)

pub consolidate_all-done-requires : goal.consolidate_all-done-requires
consolidate_all-done-requires c =
    let p = passed (goal.at.consolidate_all-done-requires c).In_default in
    record { registry_len = (rw c.copy.ensures p.shape.long, p.queue.long); pairs_value = placed_of _ _ p.indices }

pub overflow_mul-count : goal.overflow_mul-count
overflow_mul-count c =
    let p = passed (goal.at.overflow_mul-count c).In_default in
    omega (arith, c.consolidate_all-done.ensures.consolidates.most _ c.in-Ok.is, p.queue.few)

pub keep_rest-requires : goal.keep_rest-requires
keep_rest-requires c =
    let p = passed (goal.at.keep_rest-requires c).In_default in
    (p.same_queue, omega (arith, c.consolidate_all-done.ensures.consolidates.most _ c.in-Ok.is))

pub returns-in-Ok : goal.returns-in-Ok
returns-in-Ok c =
    let p = passed (goal.at.returns-in-Ok c).In_default in
    call-done _ _ _ _ _ c.consolidations_tests.ensures c.in_default.is p.settings (rw (c.copy.ensures, c.current_epoch-next_epoch.ensures) at c.consolidate_all-done.ensures.consolidates) p.queue.long c.in-Ok.is c.keep_rest.ensures

pub copy-requires-in-Err-done : goal.copy-requires-in-Err-done
copy-requires-in-Err-done c = omega (arith, (passed (goal.at.copy-requires-in-Err-done c).In_default).same)

pub keep_rest-requires-in-Err-done : goal.keep_rest-requires-in-Err-done
keep_rest-requires-in-Err-done c = ((passed (goal.at.keep_rest-requires-in-Err-done c).In_default).same_queue, omega arith)

pub returns-in-Err-done : goal.returns-in-Err-done
returns-in-Err-done c =
    let p = passed (goal.at.returns-in-Err-done c).In_default in
    rw c.number-in-Err-done.ensures (call-undone _ _ _ _ _ c.consolidations_tests.ensures c.in_default.is p.settings (rw (c.copy.ensures, c.current_epoch-next_epoch.ensures) at c.consolidate_all-done.ensures.consolidates) c.in-Err-done.is c.copy-in-Err-done.ensures c.keep_rest-in-Err-done.ensures (omega arith))

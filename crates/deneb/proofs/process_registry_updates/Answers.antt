-- the tests but for those of the entries and the pair
use mathlib.Core.Path.{◌≡◌}
use native.Mathlib.Omega.{arith}
use Rattle.selection.proofs.Picking.{blank-length, blank_part}
use Rattle.deneb.proofs.Step.{first, first-tested, first-passed, step-refused, step-done}
use Rattle.deneb.proofs.process_registry_updates.Goals.{After-limit_refusal}
use Rattle.deneb.proofs.process_registry_updates.Goals as goal

tested : (c : After-limit_refusal) → let a = c.args in c.limit_refusal.result ≡ first a.rules a.state_slot a.finalized_epoch a.queue a.opening.now a.closing.now
tested c =
    let a = c.args in
    first-tested a.rules a.state_slot a.finalized_epoch a.queue a.opening.now a.closing.now c.step_tests-by_settings.ensures
    (rw c.under_bellatrix-under.ensures at c.rules_refusal-by_rules.ensures) (rw c.limit_of-limit.ensures at c.limit_refusal.ensures)

pub returns-in-Err : goal.returns-in-Err
returns-in-Err c =
    let a = c.args in
    step-refused a.rules a.state_slot a.finalized_epoch a.queue a.opening.now a.closing.now (tested (goal.at.returns-in-Err c).After-limit_refusal) c.in-Err.is c.number.ensures

pub step_surveyed-requires : goal.step_surveyed-requires
step_surveyed-requires c =
    let a = c.args in
    record { closing_value = first-passed a.rules a.state_slot a.finalized_epoch a.queue a.opening.now a.closing.now (tested (goal.at.step_surveyed-requires c).After-limit_refusal) c.in_default.is; kept_len = (blank-length 64 64 (omega arith), blank_part 64 64 (omega arith) (omega arith)) }

pub returns : goal.returns
returns c =
    let a = c.args in
    step-done a.rules a.state_slot a.finalized_epoch a.queue a.opening.now a.closing.now (tested (goal.at.returns c).After-limit_refusal) c.in_default.is (rw c.limit_of-limit.ensures at c.step_surveyed.ensures)

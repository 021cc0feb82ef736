use native.Mathlib.Omega.{arith}
use Rattle.definitions.specs.Record.{decode}
use Rattle.arithmetic.proofs.Laws.{carried}
use Rattle.rates.proofs.Table.{table_none}
use Rattle.write_pass.proofs.Forks.{later_swept}
use Rattle.write_pass.proofs.write_later.Goals as goal

pub write_by-requires : goal.write_by-requires
write_by-requires c =
    let a = c.requires in
    record { planned = a.planned; table_for = table_none _ _ _ _ _; opening_len = a.opening_len; current_epoch_bound = (a.current_epoch_bound.0, a.current_epoch_bound.1, omega arith) }

pub returns-in_err-passed : goal.returns-in_err-passed
returns-in_err-passed c =
    let a = c.args in
    let h = rw c.in_err-passed.was at c.write_by.ensures in
    rw (carried _ c.from_residual.ensures) (record { swept = later_swept a.s a.p (record { limit = 0; finalized_epoch = 0; bound = 0; activation_epoch = 0 }) a.e (record { queue = record { last_epoch = 0; number = 0 }; left = 0; churn = a.churn }) (decode a.opening.now) h.swept; fills = h.fills })

pub returns : goal.returns
returns c =
    let a = c.args in
    let h = rw c.in_ok-passed.was at c.write_by.ensures in
    record { swept = later_swept a.s a.p (record { limit = 0; finalized_epoch = 0; bound = 0; activation_epoch = 0 }) a.e (record { queue = record { last_epoch = 0; number = 0 }; left = 0; churn = a.churn }) (decode a.opening.now) h.swept; fills = h.fills }

use native.Mathlib.Omega.{arith}
use Rattle.definitions.specs.Record.{decode}
use Rattle.arithmetic.proofs.Laws.{carried}
use Rattle.rates.proofs.Table.{table_none}
use Rattle.write_pass.proofs.Forks.{altair-ran}
use Rattle.write_pass.proofs.write_all.Goals as goal

pub write_by-requires : goal.write_by-requires
write_by-requires c =
    let a = c.requires in
    record { planned = a.planned; table_for = table_none _ _ _ _ _; opening_len = a.opening_len; current_epoch_bound = (a.current_epoch_bound.0, omega arith, a.current_epoch_bound.1) }

pub returns-in_err-passed : goal.returns-in_err-passed
returns-in_err-passed c =
    let a = c.args in
    let h = rw c.in_err-passed.was at c.write_by.ensures in
    rw (carried _ c.from_residual.ensures) (record { ran = altair-ran a.s a.p a.t (record { epoch = 0; finalized_epoch = 0; least = 0; limit = 0; delay = 0; min_activation_balance = 0; ejection_balance = 0 }) (record { queue = a.first; left = a.quota; churn = record { exit_balance_to_consume = 0; earliest_exit_epoch = 0 } }) (decode a.opening.now) h.swept; fills = h.fills; pair_in = h.pair_in })

pub returns : goal.returns
returns c =
    let a = c.args in
    let h = rw c.in_ok-passed.was at c.write_by.ensures in
    record { ran = altair-ran a.s a.p a.t (record { epoch = 0; finalized_epoch = 0; least = 0; limit = 0; delay = 0; min_activation_balance = 0; ejection_balance = 0 }) (record { queue = a.first; left = a.quota; churn = record { exit_balance_to_consume = 0; earliest_exit_epoch = 0 } }) (decode a.opening.now) h.swept; fills = h.fills; pair_in = h.pair_in }

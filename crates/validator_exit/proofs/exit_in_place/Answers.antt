use native.Mathlib.Omega.{arith}
use Rattle.laws.proofs.Loops.Entry.{entry-ten}
use Rattle.arithmetic.proofs.Laws.{carried}
use Rattle.validator_exit.proofs.InPlace.{starts-few, pair-few, leaves-known, leaves-refused, leaves-written}
use Rattle.validator_exit.proofs.exit_in_place.Goals as goal

pub returns-then-registry-at : goal.returns-then-registry-at
returns-then-registry-at c = leaves-known _ _ _ _ _ _ c.requires.registry_len.0 c.requires.registry_len.1 c.requires.registry_len.2 c.requires.queue_value c.if-registry-at.true

pub exit_entry-requires : goal.exit_entry-requires
exit_entry-requires c = (entry-ten _ _ _ c.requires.registry_len.0 c.requires.registry_len.1, rw c.start_pair-start.ensures (omega (arith, starts-few _ 0 0 _ _ _ c.requires.registry_len.0 c.requires.registry_len.1 c.requires.registry_len.2 c.requires.queue_value)))

pub returns-in_err-exit_entry : goal.returns-in_err-exit_entry
returns-in_err-exit_entry c = leaves-refused _ _ _ _ _ _ c.requires.registry_len.0 c.requires.registry_len.1 c.requires.registry_len.2 c.requires.queue_value c.start_pair-start.ensures c.exit_entry.ensures c.in_err-exit_entry.was (carried _ c.from_residual.ensures)

pub exited-moved-requires : goal.exited-moved-requires
exited-moved-requires c = omega (arith, pair-few _ 0 0 _ _ _ c.requires.registry_len.0 c.requires.registry_len.1 c.requires.registry_len.2 c.requires.queue_value)

pub returns : goal.returns
returns c = leaves-written _ _ _ _ _ _ c.requires.registry_len.0 c.requires.registry_len.1 c.requires.registry_len.2 c.requires.queue_value c.start_pair-start.ensures c.exit_entry.ensures c.if-registry-at.false c.in_ok-exit_entry.was (omega arith) c.exited-moved.ensures

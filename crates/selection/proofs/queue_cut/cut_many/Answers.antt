use mathlib.Core.Path.{refl, ◌∙◌}
use native.Mathlib.Omega.{arith}
use Rattle.definitions.specs.Record.{decode}
use Rattle.selection.proofs.Waiting.{count-waiting}
use Rattle.selection.proofs.queue_cut.Bracket.{cut_all, kept-count, kept-few, bracket_start}
use native.Mathlib.Omega.{arith}
use Rattle.selection.proofs.queue_cut.cut_many.Goals as goal

pub overflow_sub-result : goal.overflow_sub-result
overflow_sub-result c = omega (arith, kept-few c.requires.smallest c.highest-p.ensures _ (omega arith) c.count_under-few.ensures)

pub returns-then-finalized_epoch-first : goal.returns-then-finalized_epoch-first
returns-then-finalized_epoch-first c = cut_all refl (kept-count c.requires.smallest c.highest-p.ensures (omega arith) (omega arith) c.count_under-few.ensures) (omega (arith, kept-few c.requires.smallest c.highest-p.ensures _ (omega arith) c.count_under-few.ensures))

pub returns-then-queued-limit : goal.returns-then-queued-limit
returns-then-queued-limit c = let a = c.args in cut_all refl (c.count_waiting-queued.ensures ∙ count-waiting a.s a.epoch _ (omega arith) (decode a.registry.now)) c.if-queued-limit.true

pub bisect-requires : goal.bisect-requires
bisect-requires c = let a = c.args in record { registry_len = (c.requires.registry_len, omega arith); finalized_epoch_bound = (omega arith, bracket_start c.requires.smallest c.highest-p.ensures (omega arith) (omega arith) c.if-finalized_epoch-first.false c.count_under-number.ensures (c.count_waiting-queued.ensures ∙ count-waiting a.s a.epoch _ (omega arith) (decode a.registry.now)) c.if-queued-limit.false) }

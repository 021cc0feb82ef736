use native.Mathlib.Omega.{arith}
use Rattle.selection.proofs.Waiting.{cut-kept}
use Rattle.selection.proofs.queue_cut.Bracket.{cut-none}
use Rattle.selection.proofs.queue_cut.cut_queue.Goals as goal

pub returns-then-limit-eq0 : goal.returns-then-limit-eq0
returns-then-limit-eq0 c = cut-none c.if-limit-eq0.true

pub returns-then-limit-le64 : goal.returns-then-limit-le64
returns-then-limit-le64 c = cut-kept c.requires.smallest (omega arith) (omega arith) c.cut_few.ensures

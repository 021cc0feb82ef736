use mathlib.Core.Path.{◌∙◌}
use Rattle.definitions.specs.Record.{decode}
use Rattle.selection.proofs.Waiting.{count-waiting}
use Rattle.selection.proofs.queue_cut.Bracket.{bracket_hit, bracket_low, bracket_high, bracket_done}
use native.Mathlib.Omega.{arith}
use Rattle.selection.proofs.queue_cut.bisect.Goals as goal

pub loop-low-init : goal.loop-low-init
loop-low-init c = c.requires.finalized_epoch_bound.1

pub count_waiting-c-requires : goal.count_waiting-c-requires
count_waiting-c-requires c = c.requires.registry_len

pub returns-then-c-limit : goal.returns-then-c-limit
returns-then-c-limit c = let a = c.args in bracket_hit c.loop-low.invariant (c.count_waiting-c.ensures ∙ count-waiting a.s a.epoch _ (omega arith) (decode a.registry.now)) (omega arith) c.if-c-limit.true

pub loop-low-preserved-then-c-limit-2 : goal.loop-low-preserved-then-c-limit-2
loop-low-preserved-then-c-limit-2 c = let a = c.args in bracket_low c.loop-low.invariant (c.count_waiting-c.ensures ∙ count-waiting a.s a.epoch _ (omega arith) (decode a.registry.now)) (omega arith) (omega arith)

pub loop-low-preserved : goal.loop-low-preserved
loop-low-preserved c = let a = c.args in bracket_high c.loop-low.invariant (c.count_waiting-c.ensures ∙ count-waiting a.s a.epoch _ (omega arith) (decode a.registry.now)) (omega arith) (omega arith) (omega arith)

pub returns : goal.returns
returns c = bracket_done c.loop-low.invariant c.loop-low-test.false

use Rattle.laws.proofs.Loops.Filtered.{filter_le}
use Rattle.selection.specs.Keep.{under}
use mathlib.Core.Path.{refl}
use Rattle.selection.proofs.Picking.{picking_none, picking_more, picking_cut}
use native.Mathlib.Omega.{arith}
use Rattle.selection.proofs.pick.Goals as goal

pub loop-epoch-init : goal.loop-epoch-init
loop-epoch-init c = picking_none _ c.requires.1

pub keep-p-requires : goal.keep-p-requires
keep-p-requires c = c.loop-epoch.invariant.top

pub loop-epoch-preserved : goal.loop-epoch-preserved
loop-epoch-preserved c = picking_more c.loop-epoch.invariant 0 c.loop-epoch-test.true refl c.keep-p.ensures

pub overflow_sub-result : goal.overflow_sub-result
overflow_sub-result c = omega (arith, c.count_under-before.ensures, filter_le (under c.at_most_next-bound.result) c.loop-epoch.first)

pub returns : goal.returns
returns c = rw (c.count_under-before.ensures, c.loop-epoch.invariant.places) (picking_cut c.loop-epoch.invariant c.loop-epoch-test.false (omega arith) c.at_most_next-bound.ensures)

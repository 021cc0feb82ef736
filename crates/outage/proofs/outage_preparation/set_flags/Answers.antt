use native.Mathlib.Omega.{arith}
use Rattle.laws.proofs.Loops.Entry.{entry-ten}
use Rattle.registry.proofs.activation.Places.{placed-none, placed-more}
use Rattle.outage.proofs.outage_preparation.Prepared.{flags-all}
use Rattle.outage.proofs.outage_preparation.set_flags.Goals as goal

pub loop-i-init : goal.loop-i-init
loop-i-init c = (omega arith, placed-none _ c.requires.registry_len)

pub entry_flags-requires : goal.entry_flags-requires
entry_flags-requires c = entry-ten _ _ _ c.loop-i.invariant.1.long c.loop-i-test.true

pub loop-i-preserved : goal.loop-i-preserved
loop-i-preserved c = (omega arith, placed-more c.loop-i.invariant.1 c.loop-i-test.true (rw c.flags_at-flags.ensures at c.entry_flags.ensures))

pub returns : goal.returns
returns c = flags-all _ _ c.loop-i.invariant.1 c.loop-i.invariant.0 c.loop-i-test.false

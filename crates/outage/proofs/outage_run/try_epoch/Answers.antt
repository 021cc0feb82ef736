use native.Mathlib.Omega.{arith}
use Rattle.outage.proofs.outage_run.Once.{went-same}
use Rattle.outage.proofs.outage_run.try_epoch.Goals as goal

pub prepare-moved-requires : goal.prepare-moved-requires
prepare-moved-requires c = c.requires.ready

pub close_once-requires : goal.close_once-requires
close_once-requires c =
    let r = c.requires.room in
    record { entries = omega (arith, r.entries, c.prepare-moved.auto.registry); sums = r.sums; few = r.few; heads = r.heads }

pub returns : goal.returns
returns c = went-same (c.prepare-moved.ensures.held _) c.close_once.ensures

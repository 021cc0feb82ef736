use Rattle.laws.proofs.Loops.Mapped.{mapped-none, mapped-ten, mapped-more, mapped-all}
use Rattle.over_entries.proofs.map_entries.Goals as goal

pub loop-i-init : goal.loop-i-init
loop-i-init g c f k = mapped-none f c.requires.registry_len

pub loop-i-preserved : goal.loop-i-preserved
loop-i-preserved g c f k =
    let i = c.loop-i.invariant f k in
    mapped-more i c.loop-i-test.true (k _ _ _ (mapped-ten i c.loop-i-test.true) c.rule.ensures)

pub returns : goal.returns
returns g c f k = mapped-all (c.loop-i.invariant f k) c.loop-i-test.false

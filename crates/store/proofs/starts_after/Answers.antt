use Prim.Native.Nat.{◌<◌}
use native.Mathlib.Omega.{arith}
use Rattle.definitions_close.specs.Store.{entries_from, last_of, of_last}
use Rattle.store.proofs.Last.{last_entry, last-start}
use Rattle.store.proofs.starts_after.Goals as goal

pub returns-then-n-eq0 : goal.returns-then-n-eq0
unfolding of_last last_of entries_from
returns-then-n-eq0 c = rw c.if-n-eq0.true

pub returns : goal.returns
unfolding of_last
returns c =
    let a = c.args in
    let l : 0 < a.n = omega (arith, c.if-n-eq0.false) in
    rw (last_entry a.n a.store.now l, last-start a.n a.store.now l)

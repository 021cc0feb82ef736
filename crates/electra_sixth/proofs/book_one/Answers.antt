use native.Mathlib.Omega.{arith}
use borrow.Author.Tests.{lt-ltb, le-ltb}
use lib.ListN.{length}
use Prim.Native.Nat.{◌/◌}
use Rattle.laws.proofs.Loops.Entry.{number-at}
use Rattle.electra_sixth.specs.Named.{one_by}
use Rattle.electra_sixth.proofs.Named.{place-below}
use Rattle.electra_sixth.proofs.book_one.Goals as goal

pub returns-then-n-key : goal.returns-then-n-key
unfolding one_by
returns-then-n-key c = rw (le-ltb c.args.key (length c.args.registry.now / 10) c.if-n-key.true)

pub offset_bounds-amounts-p : goal.offset_bounds-amounts-p
offset_bounds-amounts-p c = omega (arith, c.place_of-p.ensures, place-below c.args.op c.args.key, c.if-n-key.false, c.requires, c.well_formed.1.1.1.0)

pub bounds-amounts-p : goal.bounds-amounts-p
bounds-amounts-p c = omega (arith, c.place_of-p.ensures, place-below c.args.op c.args.key, c.if-n-key.false, c.requires)

pub returns : goal.returns
unfolding one_by
returns c =
    let a = c.args in
    let l = c.if-n-key.false in
    rw (lt-ltb a.key (length a.registry.now / 10) l, c.place_of-p.ensures, c.value_of-x.ensures, number-at (length a.registry.now / 10) a.registry.now a.key c.requires.0 l 6 (omega arith))

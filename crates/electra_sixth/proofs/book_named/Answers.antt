use mathlib.Core.Path.{refl, subst, ◌∙◌}
use Prim.Native.Nat.{ℕ}
use native.Mathlib.Omega.{arith}
use Rattle.electra_sixth.specs.Named.{Naming}
use Rattle.electra_sixth.proofs.Named.{naming_none, naming_more}
use Rattle.electra_sixth.proofs.book_named.Goals as goal

pub loop-k-init : goal.loop-k-init
loop-k-init c = (refl, refl, omega arith, naming_none _ _ _ _)

pub overflow_mul-key : goal.overflow_mul-key
overflow_mul-key c = omega (arith, c.loop-k-test.true, c.loop-k.invariant.0, c.well_formed.1.0)

pub offset_bounds-deposits-k : goal.offset_bounds-deposits-k
offset_bounds-deposits-k c = omega (arith, c.loop-k-test.true, c.loop-k.invariant.0, c.well_formed.1.0)

pub bounds-deposits-k : goal.bounds-deposits-k
bounds-deposits-k c = omega (arith, c.loop-k-test.true, c.loop-k.invariant.0)

pub book_one-requires : goal.book_one-requires
book_one-requires c =
    (c.requires.0, c.loop-k.invariant.1 ∙ c.requires.1)

pub overflow_step-k : goal.overflow_step-k
overflow_step-k c = omega (arith, c.loop-k-test.true, c.loop-k.invariant.0, c.well_formed.1.0)

pub loop-k-smaller : goal.loop-k-smaller
loop-k-smaller c = omega (arith, c.loop-k-test.true)

pub loop-k-preserved : goal.loop-k-preserved
loop-k-preserved c =
    let inv = c.loop-k.invariant in
    let one = c.book_one in
    (inv.0, one.auto.amounts ∙ inv.1, omega (arith, c.loop-k-test.true), naming_more inv.3 c.requires.1 one.ensures)

pub shape_of-amounts : goal.shape_of-amounts
shape_of-amounts c = c.loop-k.invariant.1

pub returns : goal.returns
returns c =
    let inv = c.loop-k.invariant in
    let a = c.args in
    subst (λ (j : ℕ). Naming a.op a.deposits.now a.registry.now a.amounts.now j c.loop-k.amounts) (omega (arith, inv.0, inv.2, c.loop-k-test.false)) inv.3

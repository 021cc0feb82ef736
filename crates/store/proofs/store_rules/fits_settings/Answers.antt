use Prim.Native.Nat.{◌*◌}
use native.Mathlib.Omega.{arith}
use borrow.Author.Tests.{eq-eqb, ne_eqb}
use lib.ListN.{length}
use Rattle.store.proofs.store_rules.fits_settings.Goals as goal

pub returns-then-long-ne0 : goal.returns-then-long-ne0
returns-then-long-ne0 c =
    let a = c.args in
    rw (ne_eqb (length a.roots.now) (32 * a.s.slots_per_historical_root) (λ e. omega (arith, e, c.if-long-ne0.true)))

pub returns-then-long-s : goal.returns-then-long-s
returns-then-long-s c =
    let a = c.args in
    rw (ne_eqb (length a.roots.now) (32 * a.s.slots_per_historical_root) (λ e. omega (arith, e, c.if-long-s.true)))

pub returns : goal.returns
returns c =
    let a = c.args in
    rw (eq-eqb (length a.roots.now) (32 * a.s.slots_per_historical_root) (omega (arith, c.if-long-ne0.false, c.if-long-s.false)))

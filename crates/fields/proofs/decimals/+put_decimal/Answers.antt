use mathlib.Core.Path.{refl}
use mathlib.Core.List.{[], ◌∷◌}
use Prim.Native.Nat.{◌%◌}
use native.Mathlib.Nat.{le_of_lt}
use native.Mathlib.Omega.{arith}
use Rattle.definitions_file.specs.Decimal.{digit}
use Rattle.fields.proofs.decimals.Decimal.{decimal-one, decimal-more, room-one, room-more}
use Rattle.fields.proofs.decimals.Put.{put, put_byte, put-length}
use Rattle.fields.proofs.decimals.+put_decimal.Goals as goal

pub bounds-text-at : goal.bounds-text-at
bounds-text-at t c = room-one _ _ _ c.if-n-lt10.true c.requires

pub returns-then-n-lt10 : goal.returns-then-n-lt10
returns-then-n-lt10 t c =
    let a = c.args in
    rw (decimal-one a.n c.if-n-lt10.true, c.digit.ensures) (put a.text.now a.at (digit a.n ∷ []) refl)

pub put_decimal-last-requires : goal.put_decimal-last-requires
put_decimal-last-requires t c = (omega arith, le_of_lt (room-more _ _ _ c.if-n-lt10.false c.requires))

pub bounds-text-last : goal.bounds-text-last
bounds-text-last t c =
    let p = c.put_decimal-last.ensures in
    omega (arith, p.stopped, put-length p, room-more _ _ _ c.if-n-lt10.false c.requires)

pub overflow_add-result-2 : goal.overflow_add-result-2
overflow_add-result-2 t c =
    let p = c.put_decimal-last.ensures in
    omega (arith, p.stopped, room-more _ _ _ c.if-n-lt10.false c.requires)

pub returns : goal.returns
returns t c =
    let n = c.args.n in
    rw (decimal-more n c.if-n-lt10.false, c.digit-2.ensures) (put_byte c.put_decimal-last.ensures (digit (n % 10)))

use native.Mathlib.Omega.{arith}
use Rattle.fields.proofs.decimals.Decimal.{twenty}
use Rattle.fields.proofs.decimals.Put.{put, put-more}
use Rattle.fields.proofs.decimals.put_labelled.Goals as goal

pub put_decimal-requires : goal.put_decimal-requires
put_decimal-requires c = omega (arith, twenty c.args.n (omega arith))

pub returns : goal.returns
returns c =
    let a = c.args in
    let p = c.put_decimal.ensures in
    record { put = put-more (put a.text.now a.at a.label.now c.put_bytes.ensures) p; upper_bound = omega (arith, p.stopped, twenty a.n (omega arith)) }

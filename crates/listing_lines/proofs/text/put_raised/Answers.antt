use native.Mathlib.Omega.{arith}
use Rattle.fields.proofs.decimals.Put.{put-more}
use Rattle.listing_lines.proofs.text.put_raised.Goals as goal

pub returns : goal.returns
returns c =
    let p1 = c.put_labelled-first.ensures in
    let p2 = c.put_labelled-second.ensures in
    let p3 = c.put_labelled.ensures in
    record { put = put-more (put-more p1.put p2.put) p3.put; upper_bound = omega (arith, p1.upper_bound, p2.upper_bound, p3.upper_bound) }

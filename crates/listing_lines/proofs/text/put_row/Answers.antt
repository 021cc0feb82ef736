use native.Mathlib.Omega.{arith}
use Rattle.fields.proofs.decimals.Put.{put-more}
use Rattle.listing_lines.proofs.text.put_row.Goals as goal

pub returns : goal.returns
returns c =
    let p1 = c.put_labelled-first.ensures in
    let p2 = c.put_labelled-second.ensures in
    let p3 = c.put_labelled-third.ensures in
    let p4 = c.put_labelled-fourth.ensures in
    let p5 = c.put_labelled.ensures in
    record { put = put-more (put-more (put-more (put-more p1.put p2.put) p3.put) p4.put) p5.put; upper_bound = omega (arith, p1.upper_bound, p2.upper_bound, p3.upper_bound, p4.upper_bound, p5.upper_bound) }

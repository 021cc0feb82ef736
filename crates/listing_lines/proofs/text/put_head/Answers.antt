use native.Mathlib.Omega.{arith}
use Rattle.fields.proofs.decimals.Put.{put-more}
use Rattle.listing_lines.proofs.text.put_head.Goals as goal

pub returns : goal.returns
returns c =
    let p = c.put_row-row.ensures in
    let q = c.put_raised-end.ensures in
    let r = c.put_end.ensures in
    record { put = put-more (put-more p.put q.put) r; upper_bound = omega (arith, p.upper_bound, q.upper_bound, r.stopped) }

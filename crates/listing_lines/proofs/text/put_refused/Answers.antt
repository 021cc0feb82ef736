use native.Mathlib.Omega.{arith}
use Rattle.fields.proofs.decimals.Put.{put-more}
use Rattle.listing_lines.proofs.text.put_refused.Goals as goal

pub returns : goal.returns
returns c =
    let p = c.put_labelled-end.ensures in
    let q = c.put_end.ensures in
    record { put = put-more p.put q; upper_bound = omega (arith, p.upper_bound, q.stopped) }

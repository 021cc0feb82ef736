use mathlib.Core.Path.{◌≡◌, ◌∙◌}
use lib.IntN.{sub_ℕ}
use mir.Syntax.{w64}
use mir.Val.{SFits, to_z, of_z}
use mir.Facts.{to_z-of_z}
use native.Mathlib.Omega.{arith}
use borrow.Author.Rules.{rules}
use Rattle.fields.proofs.decimals.Put.{put-more}
use Rattle.listing_lines.proofs.text.put_line.Goals.{Start}
use Rattle.listing_lines.proofs.text.put_line.Goals as goal

fits : (c : Start) → SFits w64 c.args.change
fits c = search rules

pub returns : goal.returns
returns c =
    let p = c.put_row-row.ensures in
    let q = c.put_change-end.ensures in
    let r = c.put_end.ensures in
    let change : to_z w64 (of_z w64 c.args.change) ≡ sub_ℕ c.args.closing c.args.opening = to_z-of_z (fits (goal.at.returns c).Start) ∙ c.requires.1 in
    record { put = put-more (put-more p.put (rw (← change) q.put)) r; upper_bound = omega (arith, p.upper_bound, q.upper_bound, r.stopped) }

use mathlib.Core.Path.{sym, ap, ◌∙◌}
use native.Mathlib.Omega.{arith}
use Rattle.definitions.specs.Checked.{code_of}
use Rattle.laws.proofs.Checked.{number_not_zero}
use Rattle.refusals.proofs.Laws.{registry-shaped}
use Rattle.listing.proofs.listing_close.Printed.{or_refused_lem, or_text}
use Rattle.definitions_file.specs.Outage.{lines_text}
use borrow.Author.Rules.{rules}
use Rattle.outage.proofs.put_rows.Goals as goal

pub changes-requires : goal.changes-requires
changes-requires c = ((registry-shaped _ c.requires.opening_value.0).long, c.requires.opening_value.1)

pub returns-in-Err : goal.returns-in-Err
unfolding lines_text
returns-in-Err c =
    let p = c.put_refused.ensures in
    let m = sym c.in-Err.is ∙ c.changes.ensures in
    record { put = rw (or_refused_lem _ (c.number.ensures ∙ ap code_of m) (λ z. number_not_zero _ (sym c.number.ensures ∙ z))) p.put; upper_bound = omega (arith, p.upper_bound, c.requires.opening_in_bounds) }

pub put_lines-requires : goal.put_lines-requires
put_lines-requires c =
    let fits = sym c.changes.ensures ∙ c.in_default.is in
    record { opening_value = search rules; opening_in_bounds = search rules; closing_value = fits }

pub returns : goal.returns
unfolding lines_text
returns c =
    let p = c.put_lines.ensures in
    record { put = rw (or_text _ (ap code_of (sym c.changes.ensures ∙ c.in_default.is))) p.put; upper_bound = p.upper_bound }

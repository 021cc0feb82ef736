use mathlib.Core.Path.{sym, ap, ◌∙◌}
use native.Mathlib.Omega.{arith}
use borrow.Author.Rules.{rules}
use Rattle.definitions.specs.Checked.{code_of}
use Rattle.laws.proofs.Checked.{number_not_zero}
use Rattle.refusals.proofs.Laws.{registry-shaped}
use Rattle.fields.proofs.decimals.Put.{put-more, put-length}
use Rattle.listing.proofs.listing_close.Printed.{or_refused_lem, or_text}
use Rattle.listing.proofs.listing_close.put_close.Goals as goal

pub changes-requires : goal.changes-requires
changes-requires c = ((registry-shaped _ c.requires.registry_value.0).long, c.requires.registry_value.1)

pub returns-in-Err : goal.returns-in-Err
returns-in-Err c =
    let p = c.put_refused.ensures in
    let m = sym c.in-Err.is ∙ c.changes.ensures in
    record { put = rw (or_refused_lem _ (c.number.ensures ∙ ap code_of m) (λ z. number_not_zero _ (sym c.number.ensures ∙ z))) p.put; upper_bound = omega (arith, p.upper_bound, put-length p.put) }

pub head_core-h-requires : goal.head_core-h-requires
head_core-h-requires c = record { slots_per_epoch_nonzero = c.requires.slots_per_epoch_nonzero; opening_len = (registry-shaped _ c.requires.registry_value.0).long }

pub put_lines-requires : goal.put_lines-requires
put_lines-requires c =
    let fits = sym c.changes.ensures ∙ c.in_default.is in
    record { opening_value = search rules; opening_in_bounds = search rules; closing_value = fits }

pub returns : goal.returns
returns c =
    let q = c.put_lines.ensures in
    let p = c.put_head-at.ensures.put in
    let h = c.head_core-h.ensures in
    record { put = rw (or_text _ (ap code_of (sym c.changes.ensures ∙ c.in_default.is))) (put-more (rw h at p) q.put); upper_bound = omega (arith, q.upper_bound, put-length p) }

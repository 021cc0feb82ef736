use mathlib.Core.Path.{sym}
use native.Mathlib.Omega.{arith}
use lib.Seq.{length-take-le}
use Rattle.listing.proofs.Printed.{long-listed}
use Rattle.listing.proofs.Enough.{Few, few, exact, too_short, long-enough}
use Rattle.listing.proofs.list_file.Goals.{After-read_header-h}
use Rattle.listing.proofs.list_file.Goals as goal

found : (c : After-read_header-h) → Few c.read_header-h.result
found c = few _ c.read_header-h.ensures c.if-bytes-gt-MOST_INPUT.false

pub returns-then-bytes-gt-MOST_INPUT : goal.returns-then-bytes-gt-MOST_INPUT
returns-then-bytes-gt-MOST_INPUT c =
    let q = c.put_refused.ensures in
    long-enough _ c.if-text-lt-LONGEST_LISTING.false (long-listed _ c.if-bytes-gt-MOST_INPUT.true (rw c.number.ensures at q.put)) (omega (arith, q.upper_bound, c.if-text-lt-LONGEST_LISTING.false)) c.put_refused.auto.text

pub list_record-requires : goal.list_record-requires
list_record-requires c =
    exact _ c.read_header-h.ensures c.if-bytes-gt-MOST_INPUT.false _ _ _ _ c.room-registry.ensures c.room-slashings.ensures c.room-closing_registry.ensures c.room-closing_slashings.ensures c.if-text-lt-LONGEST_LISTING.false

pub returns : goal.returns
returns c =
    long-enough _ c.if-text-lt-LONGEST_LISTING.false c.list_record.ensures.put c.list_record.ensures.upper_bound c.list_record.auto.text

pub returns-then-text-lt-LONGEST_LISTING : goal.returns-then-text-lt-LONGEST_LISTING
returns-then-text-lt-LONGEST_LISTING c = too_short _ _ c.if-text-lt-LONGEST_LISTING.true

pub overflow_mul-n : goal.overflow_mul-n
overflow_mul-n c = omega (arith, found (goal.at.overflow_mul-n c).After-read_header-h)

pub slice_bounds-registry-end : goal.slice_bounds-registry-end
slice_bounds-registry-end c = omega (arith, found (goal.at.slice_bounds-registry-end c).After-read_header-h)

pub slice_bounds-list_record-end : goal.slice_bounds-list_record-end
slice_bounds-list_record-end c = sym (length-take-le _ _ (omega (arith, found (goal.at.slice_bounds-list_record-end c).After-read_header-h, c.room-registry.ensures)))

pub slice_bounds-slashings-end : goal.slice_bounds-slashings-end
slice_bounds-slashings-end c = omega (arith, found (goal.at.slice_bounds-slashings-end c).After-read_header-h)

pub slice_bounds-list_record-end-2 : goal.slice_bounds-list_record-end-2
slice_bounds-list_record-end-2 c = sym (length-take-le _ _ (omega (arith, found (goal.at.slice_bounds-list_record-end-2 c).After-read_header-h, c.room-slashings.ensures)))

pub slice_bounds-closing_registry-end : goal.slice_bounds-closing_registry-end
slice_bounds-closing_registry-end c = omega (arith, found (goal.at.slice_bounds-closing_registry-end c).After-read_header-h)

pub slice_bounds-list_record-end-3 : goal.slice_bounds-list_record-end-3
slice_bounds-list_record-end-3 c = sym (length-take-le _ _ (omega (arith, found (goal.at.slice_bounds-list_record-end-3 c).After-read_header-h, c.room-closing_registry.ensures)))

pub slice_bounds-closing_slashings-end : goal.slice_bounds-closing_slashings-end
slice_bounds-closing_slashings-end c = omega (arith, found (goal.at.slice_bounds-closing_slashings-end c).After-read_header-h)

pub slice_bounds-list_record-end-4 : goal.slice_bounds-list_record-end-4
slice_bounds-list_record-end-4 c = sym (length-take-le _ _ (omega (arith, found (goal.at.slice_bounds-list_record-end-4 c).After-read_header-h, c.room-closing_slashings.ensures)))

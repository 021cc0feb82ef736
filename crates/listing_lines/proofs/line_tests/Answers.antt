use mathlib.Core.Path.{◌≡◌, refl, sym, ◌∙◌}
use mathlib.Core.Bool.{Bool}
use native.Mathlib.Omega.{arith}
use borrow.Author.Tests.{not-true, not-false}
use lib.ListN.{get_or}
use Rattle.laws.proofs.Loops.Entry.{entry-ten, entry-is}
use Rattle.definitions.specs.Record.{decode, nobody}
use Rattle.definitions.specs.Refusals.{good_validator}
use Rattle.arithmetic.proofs.Laws.{carried}
use Rattle.listing_lines.proofs.LineNumbers.{Shaped, shape-refused, shape-passed, entries-tested}
use mathlib.Core.Path.{ap}
use mathlib.Core.Bool.{not}
use Rattle.listing_lines.proofs.line_tests.Goals.{After-good_entry, After-good_entry-2, In_ok-line_shaped}
use Rattle.listing_lines.proofs.line_tests.Goals as goal

shaped : (c : In_ok-line_shaped) → Shaped c.args.opening.now c.args.closing.now c.args.index
shaped c = shape-passed _ _ _ c.line_shaped.ensures c.in_ok-line_shaped.was

-- what the test of either entry said
opening-is : (c : After-good_entry) {b : Bool} → c.good_entry.result ≡ b → good_validator (get_or (decode c.args.opening.now) c.args.index nobody) ≡ b
opening-is c e = let s = shape-passed _ _ _ c.line_shaped.ensures c.in_ok-line_shaped.was in rw (← entry-is _ _ _ s.long s.below) (sym c.good_entry.ensures ∙ e)

closing-is : (c : After-good_entry-2) {b : Bool} → c.good_entry-2.result ≡ b → good_validator (get_or (decode c.args.closing.now) c.args.index nobody) ≡ b
closing-is c e = let s = shape-passed _ _ _ c.line_shaped.ensures c.in_ok-line_shaped.was in rw (← entry-is _ _ _ (s.alike ∙ s.long) s.below) (sym c.good_entry-2.ensures ∙ e)

pub returns-in_err-line_shaped : goal.returns-in_err-line_shaped
returns-in_err-line_shaped c =
    carried _ c.from_residual.ensures ∙ sym c.in_err-line_shaped.was ∙ shape-refused _ _ _ c.line_shaped.ensures c.in_err-line_shaped.was

pub returns-then-not-good_entry : goal.returns-then-not-good_entry
returns-then-not-good_entry c =
    sym (entries-tested _ _ _ c.line_shaped.ensures c.in_ok-line_shaped.was (opening-is (goal.at.returns-then-not-good_entry c).After-good_entry (not-true _ (ap not c.if-not-good_entry.true))) refl)

pub returns-then-not-good_entry-2 : goal.returns-then-not-good_entry-2
returns-then-not-good_entry-2 c =
    sym (entries-tested _ _ _ c.line_shaped.ensures c.in_ok-line_shaped.was (opening-is (goal.at.returns-then-not-good_entry-2 c).After-good_entry (not-false _ (ap not c.if-not-good_entry.false))) (closing-is (goal.at.returns-then-not-good_entry-2 c).After-good_entry-2 (not-true _ (ap not c.if-not-good_entry-2.true))))

pub returns : goal.returns
returns c =
    sym (entries-tested _ _ _ c.line_shaped.ensures c.in_ok-line_shaped.was (opening-is (goal.at.returns c).After-good_entry (not-false _ (ap not c.if-not-good_entry.false))) (closing-is (goal.at.returns c).After-good_entry-2 (not-false _ (ap not c.if-not-good_entry-2.false))))

pub overflow_mul-a : goal.overflow_mul-a
overflow_mul-a c = omega (arith, (shaped (goal.at.overflow_mul-a c).In_ok-line_shaped).below)

pub overflow_add-b : goal.overflow_add-b
overflow_add-b c = omega (arith, (shaped (goal.at.overflow_add-b c).In_ok-line_shaped).below)

pub offset_bounds-opening-a : goal.offset_bounds-opening-a
offset_bounds-opening-a c = omega (arith, (shaped (goal.at.offset_bounds-opening-a c).In_ok-line_shaped).below)

pub slice_bounds-good_entry-count : goal.slice_bounds-good_entry-count
slice_bounds-good_entry-count c = omega (arith, (shaped (goal.at.slice_bounds-good_entry-count c).In_ok-line_shaped).below)

pub slice_bounds-good_entry-start : goal.slice_bounds-good_entry-start
slice_bounds-good_entry-start c = omega (arith, (shaped (goal.at.slice_bounds-good_entry-start c).In_ok-line_shaped).below)

pub slice_bounds-good_entry-end : goal.slice_bounds-good_entry-end
slice_bounds-good_entry-end c = omega (arith, (shaped (goal.at.slice_bounds-good_entry-end c).In_ok-line_shaped).below, (shaped (goal.at.slice_bounds-good_entry-end c).In_ok-line_shaped).long)

pub good_entry-requires : goal.good_entry-requires
good_entry-requires c = entry-ten _ _ _ (shaped (goal.at.good_entry-requires c).In_ok-line_shaped).long (shaped (goal.at.good_entry-requires c).In_ok-line_shaped).below

pub offset_bounds-closing-a : goal.offset_bounds-closing-a
offset_bounds-closing-a c = omega (arith, (shaped (goal.at.offset_bounds-closing-a c).In_ok-line_shaped).below)

pub slice_bounds-good_entry-count-2 : goal.slice_bounds-good_entry-count-2
slice_bounds-good_entry-count-2 c = omega (arith, (shaped (goal.at.slice_bounds-good_entry-count-2 c).In_ok-line_shaped).below)

pub slice_bounds-good_entry-start-2 : goal.slice_bounds-good_entry-start-2
slice_bounds-good_entry-start-2 c = omega (arith, (shaped (goal.at.slice_bounds-good_entry-start-2 c).In_ok-line_shaped).below)

pub slice_bounds-good_entry-end-2 : goal.slice_bounds-good_entry-end-2
slice_bounds-good_entry-end-2 c = let s = shaped (goal.at.slice_bounds-good_entry-end-2 c).In_ok-line_shaped in omega (arith, s.below, s.long, s.alike)

pub good_entry-requires-2 : goal.good_entry-requires-2
good_entry-requires-2 c = let s = shaped (goal.at.good_entry-requires-2 c).In_ok-line_shaped in entry-ten _ _ _ (s.alike ∙ s.long) s.below

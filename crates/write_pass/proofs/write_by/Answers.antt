use mathlib.Core.Path.{◌≡◌, sym, ◌∙◌}
use Prim.Native.Nat.{◌+◌, ◌*◌, ◌≤◌, ◌<◌}
use lib.ListN.{length}
use native.Mathlib.Omega.{arith}
use Rattle.arithmetic.proofs.Laws.{carried}
use Rattle.write_pass.proofs.Loop.{passing_none, passing_few, passing_balance, passing_from, passing_to, passing_inside, passing_ten, passing_between, passing_more, passing_stop, passing_all, passing_filled, passing_pair, passing_pair_few, passing_room, passing_exit}
use Rattle.write_pass.proofs.write_by.Goals.{After-write_entry, In-loop-i}
use Rattle.write_pass.proofs.write_by.Goals as goal

-- the turn's entry stands in both registries, and came back with its ten numbers
inside : (c : In-loop-i) → let i = c.loop-i.i in (10 * i + 10 ≤ length c.args.opening.now) × (10 * i + 10 ≤ length c.loop-i.closing) × (10 * i + 10 < 1152921504606846976)
inside c = passing_inside c.loop-i.invariant c.loop-i-test.true

ten : (c : After-write_entry) → length c.write_entry.new.to ≡ 10
ten c = c.write_entry.auto.to ∙ passing_to c.loop-i.invariant c.loop-i-test.true

pub loop-i-init : goal.loop-i-init
loop-i-init c =
    passing_none _ _ _ _ _ (omega (arith, c.requires.opening_len)) (omega (arith, c.requires.opening_len)) c.requires.table_for (omega (arith, c.requires.opening_len, c.well_formed.1.1.1.1.1.1.0))

pub rates_in-rates-requires : goal.rates_in-rates-requires
rates_in-rates-requires c =
    record { shared_by = c.requires.planned.shared; table_of = c.loop-i.invariant.told }

pub write_entry-requires : goal.write_entry-requires
write_entry-requires c =
    let g = c.loop-i.invariant in
    let l = c.loop-i-test.true in
    let a = c.requires in
    let told = c.rates_in-rates.ensures in
    record { planned = a.planned; rates_for = record { fits = told.fits; same = told.effective_balance_value ∙ sym (passing_balance g l) }; from_len = (passing_from g l, passing_to g l); current_epoch_bound = (a.current_epoch_bound.0, a.current_epoch_bound.1, passing_few g l a.current_epoch_bound.2) }

pub shape_of-closing-in_err-written : goal.shape_of-closing-in_err-written
shape_of-closing-in_err-written c =
    omega (arith, ten (goal.at.shape_of-closing-in_err-written c).After-write_entry, inside (goal.at.shape_of-closing-in_err-written c).In-loop-i, c.loop-i.invariant.writing.long, c.loop-i.invariant.writing.at.long, c.requires.opening_len)

pub shape_of-table-in_err-written : goal.shape_of-table-in_err-written
shape_of-table-in_err-written c =
    c.rates_in-rates.ensures.table_of_2.long ∙ sym c.requires.table_for.long

pub returns-in_err-written : goal.returns-in_err-written
returns-in_err-written c =
    let p = passing_stop c.loop-i.invariant c.loop-i-test.true c.write_entry.ensures c.in_err-written.was (carried _ c.from_residual.ensures) in
    record { swept = p.0; fills = p.1.0; pair_in = p.1.1 }

pub book_entry-requires : goal.book_entry-requires
book_entry-requires c =
    let g = c.loop-i.invariant in
    let l = c.loop-i-test.true in
    let w = c.write_entry.ensures in
    let z = c.in_ok-written.was in
    record { planned = c.requires.planned; pairs_for = w.pairs _ z; from_len = (passing_from g l, passing_ten g l w z (ten (goal.at.book_entry-requires c).After-write_entry), omega (arith, inside (goal.at.book_entry-requires c).In-loop-i)); between = passing_between g l w z (ten (goal.at.book_entry-requires c).After-write_entry) }

pub loop-i-preserved : goal.loop-i-preserved
loop-i-preserved c =
    let b = c.book_entry in
    passing_more c.loop-i.invariant c.loop-i-test.true c.write_entry.ensures c.in_ok-written.was (ten (goal.at.loop-i-preserved c).After-write_entry) c.rates_in-rates.ensures.table_of_2 b.auto.amounts b.ensures c.exited-pair.ensures

pub bounds-closing-i : goal.bounds-closing-i
bounds-closing-i c =
    passing_exit c.loop-i.invariant c.loop-i-test.true c.write_entry.ensures c.in_ok-written.was (ten (goal.at.bounds-closing-i c).After-write_entry)

pub exited-pair-requires : goal.exited-pair-requires
exited-pair-requires c = passing_pair_few c.loop-i.invariant c.loop-i-test.true

pub returns : goal.returns
returns c = let g = c.loop-i.invariant in let l = c.loop-i-test.false in record { swept = passing_all g l; fills = passing_filled g l (omega (arith, g.writing.at.long)); pair_in = passing_pair g l }

pub overflow_mul-a : goal.overflow_mul-a
overflow_mul-a c = omega (arith, inside (goal.at.overflow_mul-a c).In-loop-i)

pub overflow_add-b : goal.overflow_add-b
overflow_add-b c = omega (arith, inside (goal.at.overflow_add-b c).In-loop-i)

pub overflow_mul-balance : goal.overflow_mul-balance
overflow_mul-balance c = omega (arith, inside (goal.at.overflow_mul-balance c).In-loop-i)

pub overflow_add-balance : goal.overflow_add-balance
overflow_add-balance c = omega (arith, inside (goal.at.overflow_add-balance c).In-loop-i)

pub offset_bounds-opening-i : goal.offset_bounds-opening-i
offset_bounds-opening-i c = omega (arith, inside (goal.at.offset_bounds-opening-i c).In-loop-i)

pub bounds-opening-i : goal.bounds-opening-i
bounds-opening-i c = omega (arith, inside (goal.at.bounds-opening-i c).In-loop-i)

pub offset_bounds-opening-a : goal.offset_bounds-opening-a
offset_bounds-opening-a c = omega (arith, inside (goal.at.offset_bounds-opening-a c).In-loop-i)

pub slice_bounds-from-count : goal.slice_bounds-from-count
slice_bounds-from-count c = omega (arith, inside (goal.at.slice_bounds-from-count c).In-loop-i)

pub slice_bounds-from-start : goal.slice_bounds-from-start
slice_bounds-from-start c = omega (arith, inside (goal.at.slice_bounds-from-start c).In-loop-i)

pub slice_bounds-from-end : goal.slice_bounds-from-end
slice_bounds-from-end c = omega (arith, inside (goal.at.slice_bounds-from-end c).In-loop-i)

pub offset_bounds-closing-a : goal.offset_bounds-closing-a
offset_bounds-closing-a c = omega (arith, inside (goal.at.offset_bounds-closing-a c).In-loop-i)

pub slice_bounds-write_entry-count : goal.slice_bounds-write_entry-count
slice_bounds-write_entry-count c = omega (arith, inside (goal.at.slice_bounds-write_entry-count c).In-loop-i)

pub slice_bounds-write_entry-start : goal.slice_bounds-write_entry-start
slice_bounds-write_entry-start c = omega (arith, inside (goal.at.slice_bounds-write_entry-start c).In-loop-i)

pub slice_bounds-write_entry-end : goal.slice_bounds-write_entry-end
slice_bounds-write_entry-end c = omega (arith, inside (goal.at.slice_bounds-write_entry-end c).In-loop-i)

pub shape_of-amounts-in_err-written : goal.shape_of-amounts-in_err-written
shape_of-amounts-in_err-written c = c.loop-i.invariant.kept

pub offset_bounds-closing-a-in-loop-i : goal.offset_bounds-closing-a-in-loop-i
offset_bounds-closing-a-in-loop-i c = omega (arith, inside (goal.at.offset_bounds-closing-a-in-loop-i c).In-loop-i)

pub slice_bounds-book_entry-count : goal.slice_bounds-book_entry-count
slice_bounds-book_entry-count c = omega (arith, inside (goal.at.slice_bounds-book_entry-count c).In-loop-i)

pub slice_bounds-book_entry-start : goal.slice_bounds-book_entry-start
slice_bounds-book_entry-start c = omega (arith, inside (goal.at.slice_bounds-book_entry-start c).In-loop-i, ten (goal.at.slice_bounds-book_entry-start c).After-write_entry)

pub slice_bounds-book_entry-end : goal.slice_bounds-book_entry-end
slice_bounds-book_entry-end c =
    passing_room c.loop-i.invariant c.loop-i-test.true c.write_entry.ensures c.in_ok-written.was (ten (goal.at.slice_bounds-book_entry-end c).After-write_entry)

pub overflow_mul-i : goal.overflow_mul-i
overflow_mul-i c = omega (arith, inside (goal.at.overflow_mul-i c).In-loop-i)

pub overflow_add-i : goal.overflow_add-i
overflow_add-i c = omega (arith, inside (goal.at.overflow_add-i c).In-loop-i)

pub offset_bounds-closing-i : goal.offset_bounds-closing-i
offset_bounds-closing-i c = omega (arith, inside (goal.at.offset_bounds-closing-i c).In-loop-i)

pub overflow_step-i : goal.overflow_step-i
overflow_step-i c = omega (arith, inside (goal.at.overflow_step-i c).In-loop-i)

pub loop-i-smaller : goal.loop-i-smaller
loop-i-smaller c = omega (arith, c.loop-i-test.true)

pub shape_of-closing : goal.shape_of-closing
shape_of-closing c = omega (arith, c.loop-i.invariant.writing.long, c.loop-i.invariant.writing.at.long, c.requires.opening_len)

pub shape_of-amounts : goal.shape_of-amounts
shape_of-amounts c = c.loop-i.invariant.kept

pub shape_of-table : goal.shape_of-table
shape_of-table c = c.loop-i.invariant.told.long ∙ sym c.requires.table_for.long

use mathlib.Core.Path.{refl, sym, ◌∙◌}
use Prim.Native.Nat.{◌+◌, ◌≤◌, ◌<◌}
use native.Mathlib.Omega.{arith}
use borrow.Author.Tests.{ltb-true, ltb-false}
use lib.ListN.{length, get_or}
use Rattle.shelf.proofs.Lengths.{each-longest, longest-drop}
use Rattle.shelf.proofs.Shelving.{shelving-none, shelving-more, shelving-all, inside, file-long, part-long, shaped}
use Rattle.shelf.proofs.close_files.Goals.{In-loop-more}
use Rattle.shelf.proofs.close_files.Goals as goal

-- a file is left
left : (c : In-loop-more) → c.loop-more.i < length c.args.lengths.now
left c = ltb-true _ _ (sym c.loop-more.invariant.3 ∙ c.loop-more-test.true)

-- and ends within the shelf
fits : (c : In-loop-more) → let k = c.loop-more in let a = c.args in let end = k.at + get_or a.lengths.now k.i 0 in (end ≤ length a.files.now) × (end ≤ length k.closing)
fits c =
    let g = c.loop-more.invariant.0 in
    let l = inside _ _ _ _ _ g (left c) in (l, omega (arith, l, g.as_long))

pub loop-more-init : goal.loop-more-init
loop-more-init c =
    let p = shaped _ c.requires in (shelving-none _ _ _ _ _ c.args.answers.now p.sums p.closing-long p.many, refl, refl, refl)

pub close_file-answer-requires : goal.close_file-answer-requires
close_file-answer-requires c =
    let p = shaped _ c.requires in
    let k = c.loop-more in
    let g = k.invariant.0 in
    let l = left (goal.at.close_file-answer-requires c).In-loop-more in
    let file = file-long _ _ _ _ _ g l in
    let most = each-longest c.args.lengths.now k.i l in
    let all = longest-drop c.args.lengths.now k.i in
    record { part_len = part-long _ _ _ _ _ g l ∙ sym file; file_len_bound = (omega (arith, file, most, all, p.opening-room, k.invariant.1), omega (arith, file, most, all, p.closing-room, k.invariant.2)) }

pub loop-more-preserved : goal.loop-more-preserved
loop-more-preserved c =
    let k = c.loop-more in
    let g = k.invariant.0 in
    let l = left (goal.at.loop-more-preserved c).In-loop-more in
    let f = c.close_file-answer in
    (shelving-more _ _ _ _ _ g l f.ensures.value f.ensures.part_after (f.auto.part ∙ part-long _ _ _ _ _ g l), f.auto.opening_numbers ∙ k.invariant.1, f.auto.closing_numbers ∙ k.invariant.2, refl)

pub returns : goal.returns
returns c =
    let k = c.loop-more in
    let all = shelving-all _ _ _ _ _ k.invariant.0 (ltb-false _ _ (sym k.invariant.3 ∙ c.loop-more-test.false)) in
    record { answers_after = all.0; closing_after = all.1 }

pub offset_bounds-lengths-i : goal.offset_bounds-lengths-i
offset_bounds-lengths-i c = omega (arith, left (goal.at.offset_bounds-lengths-i c).In-loop-more)

pub bounds-lengths-i : goal.bounds-lengths-i
bounds-lengths-i c = omega (arith, left (goal.at.bounds-lengths-i c).In-loop-more)

pub overflow_add-end : goal.overflow_add-end
overflow_add-end c = omega (arith, fits (goal.at.overflow_add-end c).In-loop-more, c.well_formed.0)

pub slice_bounds-close_file-count : goal.slice_bounds-close_file-count
slice_bounds-close_file-count c = omega (arith, fits (goal.at.slice_bounds-close_file-count c).In-loop-more)

pub slice_bounds-close_file-start : goal.slice_bounds-close_file-start
slice_bounds-close_file-start c = omega (arith, fits (goal.at.slice_bounds-close_file-start c).In-loop-more)

pub slice_bounds-close_file-end : goal.slice_bounds-close_file-end
slice_bounds-close_file-end c = omega (arith, fits (goal.at.slice_bounds-close_file-end c).In-loop-more)

pub slice_bounds-close_file-count-in-loop-more : goal.slice_bounds-close_file-count-in-loop-more
slice_bounds-close_file-count-in-loop-more c = omega (arith, fits (goal.at.slice_bounds-close_file-count-in-loop-more c).In-loop-more)

pub slice_bounds-close_file-start-in-loop-more : goal.slice_bounds-close_file-start-in-loop-more
slice_bounds-close_file-start-in-loop-more c = omega (arith, fits (goal.at.slice_bounds-close_file-start-in-loop-more c).In-loop-more)

pub slice_bounds-close_file-end-in-loop-more : goal.slice_bounds-close_file-end-in-loop-more
slice_bounds-close_file-end-in-loop-more c = omega (arith, fits (goal.at.slice_bounds-close_file-end-in-loop-more c).In-loop-more)

pub offset_bounds-answers-i : goal.offset_bounds-answers-i
offset_bounds-answers-i c = omega (arith, left (goal.at.offset_bounds-answers-i c).In-loop-more)

pub bounds-answers-i : goal.bounds-answers-i
bounds-answers-i c = omega (arith, c.loop-more.invariant.0.as_many, left (goal.at.bounds-answers-i c).In-loop-more)

pub overflow_add-i : goal.overflow_add-i
overflow_add-i c = omega (arith, left (goal.at.overflow_add-i c).In-loop-more)

pub loop-more-smaller : goal.loop-more-smaller
loop-more-smaller c = omega (arith, left (goal.at.loop-more-smaller c).In-loop-more)

pub shape_of-closing : goal.shape_of-closing
shape_of-closing c = omega (arith, c.loop-more.invariant.0.as_long, (shaped _ c.requires).closing-long)

pub shape_of-opening_numbers : goal.shape_of-opening_numbers
shape_of-opening_numbers c = c.loop-more.invariant.1

pub shape_of-closing_numbers : goal.shape_of-closing_numbers
shape_of-closing_numbers c = c.loop-more.invariant.2

pub shape_of-answers : goal.shape_of-answers
shape_of-answers c = omega (arith, c.loop-more.invariant.0.as_many, (shaped _ c.requires).many)

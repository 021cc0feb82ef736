use mathlib.Core.Path.{sym}
use native.Mathlib.Omega.{arith}
use lib.Seq.{length-take-le}
use Rattle.outage.proofs.Text.{text-headless}
use Rattle.outage.proofs.Fronts.{Few, Counted, counted, headless, Fit, held, fit, exact}
use Rattle.outage.proofs.put_text.Goals.{Else-h-ne0}
use Rattle.outage.proofs.put_text.Goals as goal

-- where there is a header, what it counts is held by the file and fits what is lent
counts : (c : Else-h-ne0) → Counted c.args.file.now c.read_header-h.result
counts c = counted _ c.read_header-h.ensures c.if-h-ne0.false

holds : (c : Else-h-ne0) → Few c.args.file.now
holds c = held c.requires (counts c)

fits : (c : Else-h-ne0) → let a = c.args in Fit c.read_header-h.result a.opening.now a.absences.now a.registry.now a.slashings.now a.roots.now a.closing_registry.now a.closing_slashings.now
fits c = fit c.requires (counts c)

pub returns-then-h-ne0 : goal.returns-then-h-ne0
returns-then-h-ne0 c =
    let a = c.args in
    let p = c.put_refused.ensures in
    record {
      put = rw (text-headless a.file.now a.tail.now (headless a.file.now c.read_header-h.ensures c.if-h-ne0.true)) (rw c.number.ensures at p.put);
      inside = omega (arith, p.upper_bound, c.requires.bytes);
    }

pub overflow_mul-entries : goal.overflow_mul-entries
overflow_mul-entries c = omega (arith, (counts (goal.at.overflow_mul-entries c).Else-h-ne0).validators, (holds (goal.at.overflow_mul-entries c).Else-h-ne0).entries)

pub overflow_mul-pairs : goal.overflow_mul-pairs
overflow_mul-pairs c = omega (arith, (counts (goal.at.overflow_mul-pairs c).Else-h-ne0).validators, (holds (goal.at.overflow_mul-pairs c).Else-h-ne0).entries)

pub overflow_mul-places : goal.overflow_mul-places
overflow_mul-places c = omega (arith, (counts (goal.at.overflow_mul-places c).Else-h-ne0).roots, (holds (goal.at.overflow_mul-places c).Else-h-ne0).places)

pub slice_bounds-put_file-end : goal.slice_bounds-put_file-end
slice_bounds-put_file-end c = (fits (goal.at.slice_bounds-put_file-end c).Else-h-ne0).openings

pub slice_bounds-put_file-end-2 : goal.slice_bounds-put_file-end-2
slice_bounds-put_file-end-2 c = sym (length-take-le _ _ (fits (goal.at.slice_bounds-put_file-end-2 c).Else-h-ne0).openings)

pub slice_bounds-put_file-end-3 : goal.slice_bounds-put_file-end-3
slice_bounds-put_file-end-3 c = (fits (goal.at.slice_bounds-put_file-end-3 c).Else-h-ne0).pairs

pub slice_bounds-put_file-end-4 : goal.slice_bounds-put_file-end-4
slice_bounds-put_file-end-4 c = sym (length-take-le _ _ (fits (goal.at.slice_bounds-put_file-end-4 c).Else-h-ne0).pairs)

pub slice_bounds-put_file-end-5 : goal.slice_bounds-put_file-end-5
slice_bounds-put_file-end-5 c = (fits (goal.at.slice_bounds-put_file-end-5 c).Else-h-ne0).entries

pub slice_bounds-put_file-end-6 : goal.slice_bounds-put_file-end-6
slice_bounds-put_file-end-6 c = sym (length-take-le _ _ (fits (goal.at.slice_bounds-put_file-end-6 c).Else-h-ne0).entries)

pub slice_bounds-put_file-end-7 : goal.slice_bounds-put_file-end-7
slice_bounds-put_file-end-7 c = (fits (goal.at.slice_bounds-put_file-end-7 c).Else-h-ne0).sums

pub slice_bounds-put_file-end-8 : goal.slice_bounds-put_file-end-8
slice_bounds-put_file-end-8 c = sym (length-take-le _ _ (fits (goal.at.slice_bounds-put_file-end-8 c).Else-h-ne0).sums)

pub slice_bounds-put_file-end-9 : goal.slice_bounds-put_file-end-9
slice_bounds-put_file-end-9 c = (fits (goal.at.slice_bounds-put_file-end-9 c).Else-h-ne0).places

pub slice_bounds-put_file-end-10 : goal.slice_bounds-put_file-end-10
slice_bounds-put_file-end-10 c = sym (length-take-le _ _ (fits (goal.at.slice_bounds-put_file-end-10 c).Else-h-ne0).places)

pub slice_bounds-put_file-end-11 : goal.slice_bounds-put_file-end-11
slice_bounds-put_file-end-11 c = (fits (goal.at.slice_bounds-put_file-end-11 c).Else-h-ne0).closing-entries

pub slice_bounds-put_file-end-12 : goal.slice_bounds-put_file-end-12
slice_bounds-put_file-end-12 c = sym (length-take-le _ _ (fits (goal.at.slice_bounds-put_file-end-12 c).Else-h-ne0).closing-entries)

pub slice_bounds-put_file-end-13 : goal.slice_bounds-put_file-end-13
slice_bounds-put_file-end-13 c = (fits (goal.at.slice_bounds-put_file-end-13 c).Else-h-ne0).closing-sums

pub slice_bounds-put_file-end-14 : goal.slice_bounds-put_file-end-14
slice_bounds-put_file-end-14 c = sym (length-take-le _ _ (fits (goal.at.slice_bounds-put_file-end-14 c).Else-h-ne0).closing-sums)

pub put_file-requires : goal.put_file-requires
put_file-requires c = exact c.requires (counts (goal.at.put_file-requires c).Else-h-ne0)

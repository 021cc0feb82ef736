use mathlib.Core.Bool.{true}
use mathlib.Core.Path.{◌≡◌, sym, ap, ◌∙◌}
use Prim.Native.Nat.{ℕ, ◌+◌, ◌*◌, ◌≤◌}
use native.Mathlib.Omega.{arith}
use borrow.Author.Tests.{eqb-true}
use lib.Dec.{eqb}
use lib.ListN.{length, length-take}
use lib.Seq.{length-take-le}
use Rattle.definitions_file.specs.File.{version_of, contents_of, good_header}
use Rattle.laws.proofs.Tests.{both}
use Rattle.refusals.proofs.All.{fails, passes}
use Rattle.laws_file.proofs.Passed.{good-header}
use Rattle.shelf_file.specs.Parts.{Counts, Counted}
use Rattle.shelf_file.proofs.Parts.{counts-long}
use Rattle.shelf_file.proofs.Tests.{off_shelf, refused-tests}
use mathlib.Core.Bool.{not}
use Rattle.shelf_file.proofs.close_file.Goals.{After-read_counts-counts, Else-not-on_shelf}
use Rattle.shelf_file.proofs.close_file.Goals as goal

head : (c : Else-not-on_shelf) → let file = c.args.file.now in (good_header file ≡ true) × (eqb (version_of file) 2 ≡ true)
head c = both _ _ (passes c.on_shelf.ensures (ap not c.if-not-on_shelf.false))

counts : (c : After-read_counts-counts) → let n = c.read_counts-counts.result in Counts c.args.file.now (10 * n.validators) (10 * n.validators + n.slashings)
counts c =
    let e = c.read_counts-counts.ensures in
    let h = both _ _ (passes c.on_shelf.ensures (ap not c.if-not-on_shelf.false)) in
    record {
      header = h.0;
      second = eqb-true _ 2 h.1;
      registry = ap (λ (n : ℕ). 10 * n) e.0;
      slashings = ap (λ (l : ℕ). 10 * c.read_counts-counts.result.validators + l) e.2;
    }

-- the working lists have room
counted : (c : After-read_counts-counts) → let n = c.read_counts-counts.result in let a = c.args in Counted a.file.now (10 * n.validators) (10 * n.validators + n.slashings) a.opening_numbers.now
counted c = let k = counts c in record { counts = k; room = omega (arith, counts-long k, k, c.requires.file_len_bound.0) }

closing-room : (c : After-read_counts-counts) → 10 * c.read_counts-counts.result.validators ≤ length c.args.closing_numbers.now
closing-room c = let k = counts c in omega (arith, counts-long k, k, c.requires.file_len_bound.1)

pub returns-then-not-on_shelf : goal.returns-then-not-on_shelf
returns-then-not-on_shelf c =
    let f = off_shelf c.args.fork c.args.bellatrix c.args.file.now (fails c.on_shelf.ensures (ap not c.if-not-on_shelf.true)) c.number.ensures c.args.part.now in
    record { value = f.number; part_after = f.part }

pub file_tests-requires : goal.file_tests-requires
unfolding contents_of
file_tests-requires c = record { counted = counted (goal.at.file_tests-requires c).After-read_counts-counts; settings_value = c.read_settings-settings.ensures }

pub returns-in-Err : goal.returns-in-Err
returns-in-Err c =
    let f = refused-tests c.args.fork c.args.bellatrix c.args.file.now (sym c.file_tests.ensures ∙ c.in-Err.is) c.number-in-Err.ensures c.args.part.now in
    record { value = f.number; part_after = f.part }

pub slice_bounds-close_passed-end-2 : goal.slice_bounds-close_passed-end-2
slice_bounds-close_passed-end-2 c =
    omega (arith, closing-room (goal.at.slice_bounds-close_passed-end-2 c).After-read_counts-counts, length-take (10 * c.read_counts-counts.result.validators) c.args.closing_numbers.now)

pub close_passed-requires : goal.close_passed-requires
unfolding contents_of
close_passed-requires c =
    record { counted = counted (goal.at.close_passed-requires c).After-read_counts-counts; settings_value = (c.read_settings-settings.ensures, sym c.file_tests.ensures ∙ c.in_default.is); closing_len = (length-take-le _ c.args.closing_numbers.now (closing-room (goal.at.close_passed-requires c).After-read_counts-counts), c.requires.part_len) }

pub returns : goal.returns
returns c =
    let f = c.close_passed.ensures in record { value = f.number; part_after = f.part }

pub read_counts-counts-requires : goal.read_counts-counts-requires
read_counts-counts-requires c = (good-header _ (head (goal.at.read_counts-counts-requires c).Else-not-on_shelf).0).enough

pub overflow_mul-a : goal.overflow_mul-a
overflow_mul-a c = omega (arith, counts-long (counts (goal.at.overflow_mul-a c).After-read_counts-counts), c.read_counts-counts.ensures.0, c.well_formed.0)

pub overflow_add-b : goal.overflow_add-b
overflow_add-b c = omega (arith, counts-long (counts (goal.at.overflow_add-b c).After-read_counts-counts), c.read_counts-counts.ensures, c.well_formed.0)

pub read_settings-settings-requires : goal.read_settings-settings-requires
read_settings-settings-requires c = omega (arith, counts-long (counts (goal.at.read_settings-settings-requires c).After-read_counts-counts))

pub slice_bounds-close_passed-end : goal.slice_bounds-close_passed-end
slice_bounds-close_passed-end c = omega (arith, closing-room (goal.at.slice_bounds-close_passed-end c).After-read_counts-counts)

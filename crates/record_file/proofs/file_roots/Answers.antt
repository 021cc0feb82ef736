use mathlib.Core.Path.{◌≡◌}
use mathlib.Core.Bool.{true}
use mathlib.Core.List.{List}
use Prim.Native.Nat.{ℕ, ◌+◌, ◌-◌, ◌*◌, ◌≤◌}
use native.Mathlib.Omega.{arith}
use lib.ListN.{length, take, drop}
use Rattle.definitions_file.specs.File.{version_of, validators_at, count_of, root_count_of, slashing_count_of, roots_at, contents_of, good_header}
use Rattle.laws_file.proofs.Passed.{good-header}
use Rattle.record_file.proofs.file_roots.Goals.{After-registry_at}
use Rattle.record_file.proofs.file_roots.Goals as goal

-- the counts call for no more than there is
inside : (c : After-registry_at) → let k = c.read_counts-counts.result in c.registry_at.result + 80 * k.validators + 8 * k.slashings ≤ length c.args.bytes.now
inside c = omega (arith, (good-header _ c.requires).long, c.read_counts-counts.ensures, c.registry_at.ensures)

roots-part : (bytes : List ℕ) → good_header bytes ≡ true → {from n l : ℕ} → from ≡ validators_at (version_of bytes) → n ≡ count_of bytes → l ≡ slashing_count_of bytes → take (length bytes - 8 * l - (from + 80 * n)) (drop (from + 80 * n) bytes) ≡ (contents_of bytes).roots
unfolding contents_of
roots-part bytes g {from} {n} {l} e f h =
    let at : from + 80 * n ≡ roots_at (version_of bytes) (count_of bytes) = omega arith in
    let size : length bytes - 8 * l - roots_at (version_of bytes) (count_of bytes) ≡ 32 * root_count_of bytes = omega (arith, (good-header bytes g).long) in
    rw (at, size)

pub read_counts-counts-requires : goal.read_counts-counts-requires
read_counts-counts-requires c = (good-header _ c.requires).enough

pub returns : goal.returns
returns c =
    roots-part _ c.requires c.registry_at.ensures c.read_counts-counts.ensures.0 c.read_counts-counts.ensures.2

pub overflow_mul-from : goal.overflow_mul-from
overflow_mul-from c = omega (arith, inside (goal.at.overflow_mul-from c).After-registry_at, c.well_formed)

pub overflow_add-from : goal.overflow_add-from
overflow_add-from c = omega (arith, inside (goal.at.overflow_add-from c).After-registry_at, c.well_formed)

pub overflow_mul-to : goal.overflow_mul-to
overflow_mul-to c = omega (arith, inside (goal.at.overflow_mul-to c).After-registry_at, c.well_formed)

pub overflow_sub-to : goal.overflow_sub-to
overflow_sub-to c = omega (arith, inside (goal.at.overflow_sub-to c).After-registry_at)

pub slice_bounds-result-count : goal.slice_bounds-result-count
slice_bounds-result-count c = omega (arith, inside (goal.at.slice_bounds-result-count c).After-registry_at)

pub slice_bounds-result-start : goal.slice_bounds-result-start
slice_bounds-result-start c = omega (arith, inside (goal.at.slice_bounds-result-start c).After-registry_at)

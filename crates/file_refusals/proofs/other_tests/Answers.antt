use mathlib.Core.Path.{◌∙◌}
use native.Mathlib.Omega.{arith}
use Rattle.definitions_file.specs.File.{contents_of}
use Rattle.laws_file.proofs.Passed.{Header, good-header}
use Rattle.file_refusals.proofs.ReadTests.{shape-tested}
use Rattle.file_refusals.proofs.other_tests.Goals.{Start}
use Rattle.file_refusals.proofs.other_tests.Goals as goal

head : (c : Start) → Header c.args.bytes.now
head c = good-header _ c.requires

pub returns : goal.returns
unfolding contents_of
returns c =
    let n = c.read_counts-counts.ensures in
    let a = c.args in
    rw (c.settings_shaped.ensures, c.good_settings.ensures, c.good_finality.ensures, c.read_finality-f.ensures, c.read_settings-s.ensures, n.0, n.1, n.2) at c.in_order.ensures
    ∙ shape-tested a.bytes.now a.registry.now a.slashings.now _ _

pub read_counts-counts-requires : goal.read_counts-counts-requires
read_counts-counts-requires c = (head (goal.at.read_counts-counts-requires c).Start).enough

pub read_settings-s-requires : goal.read_settings-s-requires
read_settings-s-requires c = omega (arith, (head (goal.at.read_settings-s-requires c).Start).long)

pub read_finality-f-requires : goal.read_finality-f-requires
read_finality-f-requires c = omega (arith, (head (goal.at.read_finality-f-requires c).Start).long)

pub overflow_mul-counts : goal.overflow_mul-counts
overflow_mul-counts c = omega (arith, c.read_counts-counts.ensures.0, (head (goal.at.overflow_mul-counts c).Start).long, c.well_formed)

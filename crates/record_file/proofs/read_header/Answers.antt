use mathlib.Core.Path.{◌≡◌, ◌∙◌}
use mathlib.Core.Bool.{true}
use Rattle.definitions_file.specs.File.{good_header}
use Rattle.refusals.proofs.All.{fails, passes}
use Rattle.laws_file.proofs.Passed.{good-header}
use Rattle.record_file.proofs.Reading.{header_refused, header-accepted}
use mathlib.Core.Path.{ap}
use mathlib.Core.Bool.{not}
use Rattle.record_file.proofs.read_header.Goals.{Else-not-good_header}
use Rattle.record_file.proofs.read_header.Goals as goal

header : (c : Else-not-good_header) → good_header c.args.bytes.now ≡ true
header c = passes c.good_header.ensures (ap not c.if-not-good_header.false)

pub returns-then-not-good_header : goal.returns-then-not-good_header
returns-then-not-good_header c = c.no_header.ensures ∙ header_refused _ (fails c.good_header.ensures (ap not c.if-not-good_header.true))

pub read_counts-counts-requires : goal.read_counts-counts-requires
read_counts-counts-requires c = (good-header _ (header (goal.at.read_counts-counts-requires c).Else-not-good_header)).enough

pub returns : goal.returns
returns c =
    let counts = c.read_counts-counts.ensures in
    header-accepted _ (header (goal.at.returns c).Else-not-good_header) counts.0 counts.1 counts.2

-- the header is good
use mathlib.Core.Path.{◌≡◌, ap, ◌∙◌}
use mathlib.Core.Bool.{true}
use mathlib.Core.List.{List}
use Prim.Native.Nat.{ℕ}
use native.Mathlib.Omega.{arith}
use borrow.Author.Rules.{rules}
use Rattle.definitions.specs.Checked.{refused}
use Rattle.definitions.specs.declared.Refusal.TheVariants.{BadRecord}
use Rattle.definitions.specs.Refusals.{good_finality}
use Rattle.definitions_file.specs.File.{version_of, validators_at, count_of, contents_of, good_header, stopped_at}
use Rattle.refusals.proofs.All.{fails, passes}
use Rattle.laws_file.proofs.Passed.{Header, good-header}
use Rattle.file_refusals.proofs.Registry.{registry_in, registry-tested}
use Rattle.file_refusals.proofs.ReadTests.{Others, answered-short, answered-header, answered-sooner, answered-finality, answered-registry, answered-queue}
use mathlib.Core.Bool.{not}
use Rattle.file_refusals.proofs.read_tests.Goals.{After-first_bad-stopped, After-good_finality, After-other_tests, After-read_counts-counts, After-validators_at-from, Else-not-good_header}
use Rattle.file_refusals.proofs.read_tests.Goals as goal

abbrev bytes : List ℕ → List ℕ
bytes bytes' = bytes'

header : (c : Else-not-good_header) → good_header (bytes c.args.bytes.now) ≡ true
header c = passes c.good_header.ensures (ap not c.if-not-good_header.false)

head : (c : Else-not-good_header) → Header (bytes c.args.bytes.now)
head c = good-header _ (header c)

-- where the registry stands, and where reading it stops
count : (c : After-read_counts-counts) → c.read_counts-counts.result.validators ≡ count_of (bytes c.args.bytes.now)
count c = c.read_counts-counts.ensures.0

from : (c : After-validators_at-from) → c.validators_at-from.result ≡ validators_at (version_of (bytes c.args.bytes.now))
from c = c.validators_at-from.ensures ∙ ap validators_at c.read_counts-counts.ensures.3

stopped : (c : After-first_bad-stopped) → let xs = bytes c.args.bytes.now in let at = validators_at (version_of xs) in c.first_bad-stopped.result ≡ stopped_at at (registry_in xs at (count_of xs))
stopped c = rw (c.validators_at-from.ensures, c.read_counts-counts.ensures.3, c.read_counts-counts.ensures.0) at c.first_bad-stopped.ensures

tested : (c : After-other_tests) → let a = c.args in Others a.bytes.now a.registry.now a.slashings.now c.other_tests.result
unfolding contents_of
tested c =
    let xs = bytes c.args.bytes.now in
    record {
      header = passes c.good_header.ensures (ap not c.if-not-good_header.false);
      is = rw (c.first_bad-stopped.ensures, c.validators_at-from.ensures, c.read_counts-counts.ensures.3, c.read_counts-counts.ensures.0, registry-tested xs (validators_at (version_of xs)) (count_of xs)) at c.other_tests.ensures;
    }

-- the finality, where 3 was told
finality : (c : After-good_finality) → c.good_finality.result ≡ good_finality (contents_of (bytes c.args.bytes.now)).finality
unfolding contents_of
finality c = rw c.read_finality.ensures at c.good_finality.ensures

pub queue_tests-requires : goal.queue_tests-requires
queue_tests-requires c =
    let h = head (goal.at.queue_tests-requires c).Else-not-good_header in
    let counts = c.read_counts-counts.ensures in
    let v = counts.3 in
    record { version_value = (v, c.validators_at-from.ensures, counts.0); le_version = (omega (arith, h.some-version), omega (arith, h.known-version), omega (arith, count (goal.at.queue_tests-requires c).After-read_counts-counts, from (goal.at.queue_tests-requires c).After-validators_at-from, h.long)) }

pub returns-then-not-good_finality : goal.returns-then-not-good_finality
returns-then-not-good_finality c =
    rw c.refused-then-not-good_finality.ensures (answered-finality (tested (goal.at.returns-then-not-good_finality c).After-other_tests) (c.in-Err-BadRecord.is ∙ ap refused c.in-Err-BadRecord.field-0-is) (fails (finality (goal.at.returns-then-not-good_finality c).After-good_finality) (ap not c.if-not-good_finality.true)))

pub returns-else-not-good_finality : goal.returns-else-not-good_finality
unfolding contents_of
returns-else-not-good_finality c =
    rw (c.refused-in-Err-BadRecord.ensures, stopped (goal.at.returns-else-not-good_finality c).After-first_bad-stopped) (answered-registry (tested (goal.at.returns-else-not-good_finality c).After-other_tests) (c.in-Err-BadRecord.is ∙ ap refused c.in-Err-BadRecord.field-0-is) (passes (finality (goal.at.returns-else-not-good_finality c).After-good_finality) (ap not c.if-not-good_finality.false)))

pub returns-then-bytes-lt-SETTINGS_AT : goal.returns-then-bytes-lt-SETTINGS_AT
returns-then-bytes-lt-SETTINGS_AT c = rw c.refused.ensures (answered-short _ _ _ c.if-bytes-lt-SETTINGS_AT.true)

pub returns-then-not-good_header : goal.returns-then-not-good_header
returns-then-not-good_header c = rw c.refused-then-not-good_header.ensures (answered-header _ _ _ c.if-bytes-lt-SETTINGS_AT.false (fails c.good_header.ensures (ap not c.if-not-good_header.true)))

pub validators_at-from-requires : goal.validators_at-from-requires
validators_at-from-requires c = let h = head (goal.at.validators_at-from-requires c).Else-not-good_header in let v = c.read_counts-counts.ensures.3 in (omega (arith, h.some-version), omega (arith, h.known-version))

pub first_bad-stopped-requires : goal.first_bad-stopped-requires
first_bad-stopped-requires c = omega (arith, count (goal.at.first_bad-stopped-requires c).After-read_counts-counts, from (goal.at.first_bad-stopped-requires c).After-validators_at-from, (head (goal.at.first_bad-stopped-requires c).Else-not-good_header).long)

pub overflow_mul-whole : goal.overflow_mul-whole
overflow_mul-whole c = omega (arith, count (goal.at.overflow_mul-whole c).After-read_counts-counts, from (goal.at.overflow_mul-whole c).After-validators_at-from, (head (goal.at.overflow_mul-whole c).Else-not-good_header).long, c.well_formed)

pub overflow_add-whole : goal.overflow_add-whole
overflow_add-whole c = omega (arith, count (goal.at.overflow_add-whole c).After-read_counts-counts, from (goal.at.overflow_add-whole c).After-validators_at-from, (head (goal.at.overflow_add-whole c).Else-not-good_header).long, c.well_formed)

pub other_tests-requires : goal.other_tests-requires
other_tests-requires c = header (goal.at.other_tests-requires c).Else-not-good_header

pub returns-in-Ok : goal.returns-in-Ok
returns-in-Ok c = answered-queue (tested (goal.at.returns-in-Ok c).After-other_tests) c.in-Ok.is c.queue_tests.ensures

pub returns-in-Err : goal.returns-in-Err
returns-in-Err c =
    let n : c.in-Err.refusal ≡ BadRecord → ⊥ = search rules in
    rw c.refused-in-Err.ensures (answered-sooner (tested (goal.at.returns-in-Err c).After-other_tests) c.in-Err.is n)

pub read_finality-requires : goal.read_finality-requires
read_finality-requires c = omega (arith, (head (goal.at.read_finality-requires c).Else-not-good_header).long)

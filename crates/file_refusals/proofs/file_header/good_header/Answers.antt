use mathlib.Core.Bool.{and-false}
use mathlib.Core.List.{List}
use mathlib.Core.Path.{◌≡◌, ◌∙◌}
use Prim.Native.Nat.{ℕ}
use native.Mathlib.Omega.{arith}
use borrow.Author.Tests.{le-leb, lt-leb, eqb-true}
use lib.ListN.{length, get_or}
use Rattle.definitions.specs.Lists.{every}
use Rattle.definitions_file.specs.File.{file_length, good_header}
use Rattle.laws.proofs.Tests.{and_true}
use Rattle.refusals.proofs.All.{fails, passes}
use Rattle.file_refusals.proofs.file_header.Headers.{tests_by, by-found, same-pointwise}
use mathlib.Core.Path.{ap}
use mathlib.Core.Bool.{not}
use Rattle.file_refusals.proofs.file_header.good_header.Goals.{After-read_numbers}
use Rattle.file_refusals.proofs.file_header.good_header.Goals as goal

abbrev bytes : List ℕ → List ℕ
bytes bytes' = bytes'

abbrev found : After-read_numbers → List ℕ
found c = c.read_numbers.new.numbers

tests : (c : After-read_numbers) → good_header (bytes c.args.bytes.now) ≡ every (tests_by (bytes c.args.bytes.now) (found c))
tests c = by-found (bytes c.args.bytes.now) (found c) c.read_numbers.ensures

pub returns-then-bytes-lt-SETTINGS_AT : goal.returns-then-bytes-lt-SETTINGS_AT
unfolding good_header every
returns-then-bytes-lt-SETTINGS_AT c = rw (lt-leb _ _ c.if-bytes-lt-SETTINGS_AT.true)

pub returns-then-version-lt1 : goal.returns-then-version-lt1
unfolding every
returns-then-version-lt1 c = rw (tests (goal.at.returns-then-version-lt1 c).After-read_numbers, lt-leb _ _ c.if-version-lt1.true) (simp and-false)

pub returns-then-version-gt2 : goal.returns-then-version-gt2
unfolding every
returns-then-version-gt2 c = rw (tests (goal.at.returns-then-version-gt2 c).After-read_numbers, lt-leb _ _ c.if-version-gt2.true) (simp and-false)

pub returns-then-not-as_long : goal.returns-then-not-as_long
unfolding every
returns-then-not-as_long c =
    rw (tests (goal.at.returns-then-not-as_long c).After-read_numbers, fails c.as_long.ensures (ap not c.if-not-as_long.true)) (simp and-false)

pub header_of-requires : goal.header_of-requires
header_of-requires c =
    let xs = found (goal.at.header_of-requires c).After-read_numbers in
    let e : length (bytes c.args.bytes.now) ≡ file_length (get_or xs 0 0) (get_or xs 2 0) (get_or xs 3 0) (get_or xs 4 0) = eqb-true _ _ (passes c.as_long.ensures (ap not c.if-not-as_long.false)) in
    (omega arith, omega arith, omega arith)

pub returns : goal.returns
unfolding every
returns c =
    rw (tests (goal.at.returns c).After-read_numbers, le-leb _ _ c.if-bytes-lt-SETTINGS_AT.false, le-leb _ _ c.if-version-lt1.false, le-leb _ _ c.if-version-gt2.false, passes c.as_long.ensures (ap not c.if-not-as_long.false)) (simp and_true ((rw c.header_of.ensures at c.eq.ensures) ∙ same-pointwise _ _))

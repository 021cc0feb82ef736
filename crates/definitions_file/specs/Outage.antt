-- All that the program prints. Document 02, R-12.
use Rattle.std.specs.Prelude.{cond, List, ◌++◌, ℕ, ltb, length}
use Rattle.definitions.specs.Record.{decode}
use Rattle.definitions.specs.Checked.{code_of, number_of}
use Rattle.definitions.specs.declared.Refusal.TheVariants.{BadShape, BadFile}
use Rattle.definitions_file.specs.File.{Contents, count_of}
use Rattle.definitions.specs.NetChange.{change_tests}
use Rattle.definitions_file.specs.Lines.{lines, refused_line, or_refused}
use Rattle.definitions_file.specs.Listing.{opened}
use Rattle.definitions_file.specs.OutageInput.{file_in, tail_in, epochs_in, plan_from, good_tail}
use Rattle.definitions_file.specs.OutageRun.{Run, run}

-- "the validator lines after the last ..., with the file's balances as opening", and "7 in place of all validator lines"
unfoldable pub lines_text : List ℕ → List ℕ → List ℕ
lines_text opening closing =
    let changes = change_tests (decode opening) (decode closing) in
    or_refused (code_of changes) (lines 0 (decode opening) (decode closing))

-- "ends at the first refusal, printed as in the listing"
unfoldable pub run_text : Contents → Run → List ℕ
run_text file r = r.heads ++ or_refused r.refusal (lines_text file.registry r.contents.registry)

-- a tail's own test comes after those of the file
unfoldable pub text_of : List ℕ → List ℕ → List ℕ
text_of file tail =
    let n = count_of file in
    let c = (opened file).contents in
    let tried = run (plan_from n tail) (epochs_in tail) c in
    or_refused (opened file).refusal (cond (good_tail n tail) (run_text c tried) (refused_line (number_of BadShape)))

-- "A longer input prints `refused 6`"
unfoldable pub outage : List ℕ → List ℕ
outage input = cond (ltb 65536 (length input)) (refused_line (number_of BadFile)) (text_of (file_in input) (tail_in input))

-- A file on a shelf (02, R-5) is answered and closed as the whole close answers and closes the record that it holds: demand 2, and by number what
-- its part holds. Words in quotation marks are the request's.
use Rattle.std.specs.Prelude.{◌≡◌, true, false, ◌&&◌, List, [], ◌∷◌, ◌⊎◌, ℕ, zero, suc, ◌*◌, ◌<◌, eqb, length, get_or, take, drop, replicate}
use Rattle.definitions.specs.declared.ActivationLimit.TheVariants.{Churn}
use Rattle.definitions.specs.declared.Bellatrix.{Bellatrix}
use Rattle.definitions.specs.Record.{decode}
use Rattle.definitions.specs.Checked.{value}
use Rattle.definitions.specs.Rules.{settings_under}
use Rattle.definitions.specs.ExitQueue.{queue_of}
use Rattle.definitions.specs.Closes.{Closes}
use Rattle.definitions.specs.Document.ByFork.{document_under}
use Rattle.definitions_file.specs.File.{version_of, count_of, contents_of, queue_in, good_header, file_of, contents_with}
use Rattle.definitions_file.specs.ClosedFile.{rules_in, state_in, file_tests, closed_file, answer_for, part_for}
use Rattle.definitions_file.specs.Shelf.{Shelf, shelf_refusal, answers_after, closing_after}
use Rattle.definitions_close.specs.FullClose.{FullCall, FullOutcome, full_close}
use Rattle.agreement.specs.Restored.{OneOf}
use Rattle.theorems.specs.Completeness.DocumentIn64Bits as In64Bits
use Rattle.theorems.specs.Completeness.Complete.{CloseParts}

-- the i-th of the parts of these lengths that stand one behind another
unfoldable pub part_at : List ℕ → ℕ → List ℕ → List ℕ
part_at [] i bytes = []
part_at (n ∷ lengths) zero bytes = take n bytes
part_at (n ∷ lengths) (suc i) bytes = part_at lengths i (drop n bytes)

-- A file on a shelf as it was lent, with its part of the closing buffer, and as it came back
pub record OnShelf : Type 0 where
  pub fork : ℕ
  pub pair : Bellatrix
  pub file : List ℕ
  pub lent : List ℕ
  pub part : List ℕ
  pub answer : ℕ

-- as its definition says
pub record Defined (f : OnShelf) : Type 0 where
  pub number : f.answer ≡ answer_for f.fork f.pair f.file
  pub part : f.part ≡ part_for f.fork f.pair f.file f.lent

-- the whole close of the record in the file, with buffers of their lengths
abbrev pub whole : OnShelf → FullCall
whole f =
    let c = contents_of f.file in
    record {
      call =
          record {
            rules = rules_in f.fork f.pair f.file;
            finality = c.finality;
            registry = c.registry;
            slashings = c.slashings;
            roots = c.roots;
            closing_registry = c.registry;
            closing_slashings = c.slashings;
          };
      queue = queue_in f.file;
      amounts = replicate (9 * count_of f.file) 0;
    }

-- what came of it: the answer, and the record that the part holds, `FileByNumber.closed`
abbrev pub outcome_of : OnShelf → FullOutcome
outcome_of f =
    let o = full_close (whole f) in
    record {
      refusal = f.answer;
      finality = o.finality;
      queue = o.queue;
      raised = o.raised;
      test = o.test;
      closing_registry = o.closing_registry;
      closing_slashings = o.closing_slashings;
      amounts = o.amounts;
    }

-- the record of an outcome as a file: settings and roots stay
abbrev pub file_after : List ℕ → FullOutcome → List ℕ
file_after file o =
    let c = contents_of file in
    file_of (contents_with c.settings o.finality o.closing_registry c.roots o.closing_slashings) o.queue

-- "its own bytes in its part, any other refusal leaves the part untouched"
pub record FileByNumber (f : OnShelf) : Type 0 where
  pub number : OneOf f.answer (0 ∷ 6 ∷ 1 ∷ 2 ∷ 3 ∷ 8 ∷ 4 ∷ 5 ∷ [])
  pub closed : f.answer ≡ 0 → f.part ≡ file_after f.file (outcome_of f)
  pub own : OneOf f.answer (4 ∷ 5 ∷ []) → f.part ≡ f.file
  pub untouched : OneOf f.answer (6 ∷ 1 ∷ 2 ∷ 3 ∷ 8 ∷ []) → f.part ≡ f.lent
  -- 6 for the header or version 1 alone, and else what the whole close answers
  pub six : (good_header f.file && eqb (version_of f.file) 2) ≡ false → f.answer ≡ 6
  pub as_whole : (good_header f.file && eqb (version_of f.file) 2) ≡ true → f.answer ≡ (full_close (whole f)).refusal
  -- R-8: "It is true of every record that a call accepts, or hands back unrefused"
  pub accepts : f.answer ≡ 0 → queue_in f.file ≡ queue_of (decode (contents_of f.file).registry)
  pub hands_back : f.answer ≡ 0 → let o = outcome_of f in o.queue ≡ queue_of (decode o.closing_registry)

-- Demand 2
pub record FileCall (f : OnShelf) : Type 0 where
  pub by_number : FileByNumber f
  -- the document's record, as a file
  pub accepted : f.answer ≡ 0 → f.part ≡ closed_file f.file (document_under (rules_in f.fork f.pair f.file) (state_in f.file))
  -- it is answered as by the document in 64 bits, or a row parts the two
  pub complete : let tests = file_tests f.fork f.pair f.file in let s = settings_under (rules_in f.fork f.pair f.file) in
      Closes (closed_file f.file) tests (In64Bits.process_epoch s (state_in f.file)) f.file f.lent f.part f.answer
      ⊎ ((tests ≡ value tt) × CloseParts Churn s (state_in f.file))

abbrev pub FileCalls : Type 0
FileCalls = (f : OnShelf) → Defined f → FileCall f

-- The call: the i-th file of a shelf that came back with these answers and this closing buffer
abbrev pub file_on : ℕ → Bellatrix → Shelf → List ℕ → List ℕ → ℕ → OnShelf
file_on fork pair s answers closing i =
    record {
      fork = fork;
      pair = pair;
      file = part_at s.lengths i s.files;
      lent = part_at s.lengths i s.closing;
      part = part_at s.lengths i closing;
      answer = get_or answers i 0;
    }

pub record ShelfCall (fork : ℕ) (pair : Bellatrix) (s : Shelf) (answers closing : List ℕ) (r : ℕ) : Type 0 where
  pub number : OneOf r (0 ∷ 1 ∷ [])
  -- one answer for each
  pub many : r ≡ 0 → length answers ≡ length s.lengths
  pub defined : r ≡ 0 → (i : ℕ) → i < length s.lengths → Defined (file_on fork pair s answers closing i)
  pub files : r ≡ 0 → (i : ℕ) → i < length s.lengths → FileCall (file_on fork pair s answers closing i)
  -- "refusal 1 for the whole call, and nothing is written"
  pub refused : r ≡ 1 → (answers ≡ s.answers) × (closing ≡ s.closing)

abbrev pub ShelfCalls : Type 0
ShelfCalls =
    (fork : ℕ) (pair : Bellatrix) (s : Shelf) (answers closing : List ℕ) (r : ℕ) → r ≡ shelf_refusal s
    → answers ≡ answers_after fork pair s → closing ≡ closing_after fork pair s → ShelfCall fork pair s answers closing r

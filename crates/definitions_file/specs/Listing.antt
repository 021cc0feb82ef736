-- The listing of a record file. Document 01, "The listing program reads a record file (at most 65536 bytes) ..".
use Rattle.std.specs.Prelude.{cond, List, ℕ, ◌*◌, ltb, length, replicate}
use Rattle.definitions.specs.Checked.{number_of}
use Rattle.definitions.specs.declared.Refusal.TheVariants.{BadFile}
use Rattle.definitions_file.specs.File.{Contents, ReadOutcome, count_of, slashing_count_of, read}
use Rattle.definitions.specs.Rules.{altair_rules}
use Rattle.definitions.specs.Close.{Call, close}
use Rattle.definitions_file.specs.Lines.{refused_line, or_refused, close_printed}

-- the file, read into buffers as long as its own header calls for
abbrev pub opened : List ℕ → ReadOutcome
opened bytes = read bytes (replicate (10 * count_of bytes) 0) (replicate (slashing_count_of bytes) 0)

-- a close of what it holds, as Altair, into closing buffers of any contents
abbrev pub call_of : Contents → List ℕ → List ℕ → Call
call_of c closing_registry closing_slashings =
    record {
      rules = altair_rules c.settings;
      finality = c.finality;
      registry = c.registry;
      slashings = c.slashings;
      roots = c.roots;
      closing_registry = closing_registry;
      closing_slashings = closing_slashings;
    }

-- into buffers as long as the opening's
abbrev pub closing : Contents → Call
closing c = call_of c c.registry c.slashings

abbrev pub printed : ReadOutcome → Call → List ℕ
printed opening call = or_refused opening.refusal (close_printed call (close call))

-- "longer input prints `refused 6`"
unfoldable pub listing : List ℕ → List ℕ
listing bytes =
    cond (ltb 65536 (length bytes)) (refused_line (number_of BadFile)) (printed (opened bytes) (closing (opened bytes).contents))

-- What trying an outage leaves in the lent text.
use Rattle.std.specs.Prelude.{cond, List, ◌++◌, ℕ, leb, length, drop}
use Rattle.definitions_file.specs.Outage.{outage}

-- room for 4096 head lines, for the lines of 814 validators, which are all that 65536 bytes hold, and for a refused line
abbrev pub longest : ℕ
longest = 964000

-- nothing is written where the longest would not fit
unfoldable pub printed_text : List ℕ → List ℕ → List ℕ
printed_text input text = cond (leb longest (length text)) (outage input ++ drop (length (outage input)) text) text

unfoldable pub printed_length : List ℕ → List ℕ → ℕ
printed_length input text = cond (leb longest (length text)) (length (outage input)) 0

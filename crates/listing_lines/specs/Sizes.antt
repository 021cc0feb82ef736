-- How many bytes a line has at most. A number has at most 20 digits.
use Rattle.std.specs.Prelude.{ℕ}

-- five labels of 43 bytes together and their numbers, three more numbers behind a space each, and the end of the line
abbrev pub longest_head : ℕ
longest_head = 207

-- five numbers with four spaces between, a space, a sign and the net change, and the end of the line
abbrev pub longest_line : ℕ
longest_line = 127

-- a label of 8 bytes, a number and the end of the line
abbrev pub longest_refused : ℕ
longest_refused = 29

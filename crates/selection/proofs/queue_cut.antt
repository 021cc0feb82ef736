-- Why the cut is right.
mod Bracket

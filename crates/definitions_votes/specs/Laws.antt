-- What else holds of the answer.
use Rattle.std.specs.Prelude.{◌≡◌, ◌≤◌, length}
use Rattle.definitions.specs.Checked.{Checked, value}
use Rattle.definitions_votes.specs.Exact.{Ballot, Outcome, Exact}
use Rattle.definitions_votes.specs.Votes.{votes}

-- the quantified statement leaves no choice
abbrev pub OneAnswer : Type 0
OneAnswer = (b : Ballot) (m : Checked Outcome) → Exact b m → m ≡ votes b

-- no list is longer than three
abbrev pub AtMostThree : Type 0
AtMostThree = (b : Ballot) (o : Outcome) → votes b ≡ value o → length o.epochs ≤ 3

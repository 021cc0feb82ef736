-- At most three epochs, as numbers: how many, and the first three of them; and an outcome by them.
use Rattle.std.specs.Prelude.{cond, List, ℕ, ◌+◌, ltb, eqb, length, get_or}
use Rattle.definitions.specs.Checked.{Checked, value, bind}
use Rattle.definitions_votes.specs.Exact.{Outcome}
use Rattle.definitions_votes.specs.Answers.{verdict_number}
use Rattle.votes.specs.declared.vote_outcome.Epochs.{Epochs}
use Rattle.votes.specs.declared.vote_outcome.OutcomeNumbers.{OutcomeNumbers}

unfoldable pub epochs_for : List ℕ → Epochs
epochs_for xs = record { count = length xs; first = get_or xs 0 0; second = get_or xs 1 0; third = get_or xs 2 0 }

abbrev pub four : ℕ → ℕ → ℕ → ℕ → Epochs
four count first second third = record { count = count; first = first; second = second; third = third }

-- e put in its place among at most three, on the numbers themselves
unfoldable pub insert_into : ℕ → Epochs → Epochs
insert_into e l =
    cond (eqb l.count 0) (four 1 e 0 0)
    (cond (ltb e l.first) (four (l.count + 1) e l.first l.second)
    (cond (eqb e l.first) l
    (cond (eqb l.count 1) (four 2 l.first e 0)
    (cond (ltb e l.second) (four (l.count + 1) l.first e l.second)
    (cond (eqb e l.second) l
    (cond (eqb l.count 2) (four 3 l.first l.second e)
    (cond (ltb e l.third) (four (l.count + 1) l.first l.second e)
    (cond (eqb e l.third) l
    (four (l.count + 1) l.first l.second l.third)))))))))

abbrev pub numbers_of : Outcome → OutcomeNumbers
numbers_of o = record { epochs = epochs_for o.epochs; previous_target = verdict_number o.previous; current_target = verdict_number o.current }

abbrev pub numbers_for : Checked Outcome → Checked OutcomeNumbers
numbers_for m = bind m (λ o. value (numbers_of o))

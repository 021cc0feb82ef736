-- The numbers that an outcome is answered by.
use Rattle.std.specs.Prelude.{List, [], ◌∷◌, ℕ, length, get_or}
use Rattle.definitions.specs.Checked.{Checked, value, refused, number_of}
use Rattle.definitions_votes.specs.declared.VotesAnswer.{VotesAnswer}
use Rattle.definitions_votes.specs.Exact.{Verdict, none, some, every, Outcome}

unfoldable pub verdict_number : Verdict → ℕ
verdict_number none = 0
verdict_number some = 1
verdict_number every = 2

-- there are at most three: Laws.antt, AtMostThree
unfoldable pub first_three : List ℕ → List ℕ
first_three xs = get_or xs 0 0 ∷ get_or xs 1 0 ∷ get_or xs 2 0 ∷ []

abbrev pub turned_away : ℕ → VotesAnswer
turned_away number = record { refusal = number; count = 0; finalized_epochs = 0 ∷ 0 ∷ 0 ∷ []; previous_target = 0; current_target = 0 }

abbrev pub votes_answer_for : Checked Outcome → VotesAnswer
votes_answer_for (value o) =
    record {
      refusal = 0;
      count = length o.epochs;
      finalized_epochs = first_three o.epochs;
      previous_target = verdict_number o.previous;
      current_target = verdict_number o.current;
    }
votes_answer_for (refused r) = turned_away (number_of r)

-- The outcome from the five sums.
use Rattle.std.specs.Prelude.{ℕ, max}
use Rattle.definitions.specs.declared.Settings.{Settings}
use Rattle.definitions.specs.declared.Finality.{Finality}
use Rattle.definitions.specs.Checked.{Checked, value, bind}
use Rattle.definitions.specs.Rust.Phase0.EpochProcessing.{is_justified}
use Rattle.definitions_votes.specs.Exact.{Outcome}
use Rattle.definitions_votes.specs.Votes.{finalized_after, outcome_of}
use Rattle.votes.specs.declared.vote_outcome.OutcomeNumbers.{OutcomeNumbers}
use Rattle.votes.specs.declared.vote_sums.VoteSums.{VoteSums}
use Rattle.votes.specs.Epochs.{numbers_of}

-- four tests against one total
unfoldable pub weighed_by : ℕ → ℕ → Finality → ℕ → VoteSums → Checked Outcome
weighed_by increment total old epoch t =
    bind (is_justified (max increment t.previous_most) total) (λ previous_most.
    bind (is_justified (max increment t.current_most) total) (λ current_most.
    bind (is_justified (max increment t.previous_fewest) total) (λ previous_fewest.
    bind (is_justified (max increment t.current_fewest) total) (λ current_fewest.
    value (outcome_of (finalized_after epoch old) previous_fewest previous_most current_fewest current_most)))))

abbrev pub weighed_sums : Settings → Finality → ℕ → VoteSums → Checked Outcome
weighed_sums s old epoch t = weighed_by s.effective_balance_increment (max s.effective_balance_increment t.active) old epoch t

-- the same, as the numbers that the call tells
unfoldable pub weighed_numbers_by : ℕ → ℕ → Finality → ℕ → VoteSums → Checked OutcomeNumbers
weighed_numbers_by increment total old epoch t =
    bind (is_justified (max increment t.previous_most) total) (λ previous_most.
    bind (is_justified (max increment t.current_most) total) (λ current_most.
    bind (is_justified (max increment t.previous_fewest) total) (λ previous_fewest.
    bind (is_justified (max increment t.current_fewest) total) (λ current_fewest.
    value (numbers_of (outcome_of (finalized_after epoch old) previous_fewest previous_most current_fewest current_most))))))

abbrev pub weighed_numbers : Settings → Finality → ℕ → VoteSums → Checked OutcomeNumbers
weighed_numbers s old epoch t = weighed_numbers_by s.effective_balance_increment (max s.effective_balance_increment t.active) old epoch t

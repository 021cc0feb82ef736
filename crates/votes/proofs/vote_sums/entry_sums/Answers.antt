use Rattle.votes.proofs.vote_sums.Entry.{same-sums}
use Rattle.votes.proofs.vote_sums.entry_sums.Goals as goal

pub returns : goal.returns
returns c = same-sums c.weight_in_active.ensures c.weight_in_previous.ensures c.weight_in_previous-2.ensures c.weight_in_current.ensures c.weight_in_current-2.ensures

use Rattle.votes.proofs.vote_outcome.weigh_votes.Goals as goal

pub returns : goal.returns
returns c = rw (← c.raised-total.ensures) c.weigh_sums.ensures

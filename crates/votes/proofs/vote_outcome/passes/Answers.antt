use Rattle.votes.proofs.vote_outcome.passes.Goals as goal

pub returns : goal.returns
returns c = rw (← c.raised.ensures) c.is_justified.ensures

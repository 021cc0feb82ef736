use Rattle.definitions_votes.specs.Votes.{verdict}
use Rattle.definitions_votes.specs.Answers.{verdict_number}
use Rattle.votes.proofs.vote_outcome.verdict_number.Goals as goal

pub returns-then-fewest : goal.returns-then-fewest
unfolding verdict verdict_number
returns-then-fewest c = rw c.if-fewest.true

pub returns-then-most : goal.returns-then-most
unfolding verdict verdict_number
returns-then-most c = rw (c.if-fewest.false, c.if-most.true)

pub returns : goal.returns
unfolding verdict verdict_number
returns c = rw (c.if-fewest.false, c.if-most.false)

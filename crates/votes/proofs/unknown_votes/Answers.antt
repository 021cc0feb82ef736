use Rattle.votes.proofs.Answered.{answer-given, answer-lost}
use Rattle.votes.proofs.unknown_votes.Goals as goal

pub returns-in-Ok : goal.returns-in-Ok
returns-in-Ok c = answer-given _ _ c.votes_after_tests.ensures c.in-Ok.is

pub returns-in-Err : goal.returns-in-Err
returns-in-Err c = answer-lost _ _ c.votes_after_tests.ensures c.in-Err.is c.number.ensures

use Rattle.close_by_steps.proofs.close_steps.ended_by.Goals as goal

pub returns : goal.returns
returns c = rw c.none_raised.ensures

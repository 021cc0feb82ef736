use Rattle.electra_refused.proofs.opening_answer.Goals as goal

pub returns : goal.returns
returns c = rw (c.number.ensures, c.none_raised.ensures)

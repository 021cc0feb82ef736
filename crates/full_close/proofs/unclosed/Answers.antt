use Rattle.full_close.proofs.unclosed.Goals as goal

pub returns : goal.returns
returns c = rw (c.none_raised.ensures, c.number.ensures)

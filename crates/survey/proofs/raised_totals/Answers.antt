use Rattle.survey.proofs.raised_totals.Goals as goal

pub returns : goal.returns
returns c = rw (c.raised.ensures, c.raised-2.ensures, c.raised-3.ensures, c.raised-4.ensures)

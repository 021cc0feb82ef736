use Rattle.survey.proofs.overs_after.Goals as goal

pub returns : goal.returns
returns c = rw (c.over_after.ensures, c.over_after-2.ensures, c.over_after-3.ensures, c.over_after-4.ensures, c.over_after-5.ensures)

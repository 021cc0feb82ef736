use Rattle.definitions.specs.Plain.{plain_total}
use Rattle.plain.proofs.plain_total.Goals as goal

pub returns-in-Ok : goal.returns-in-Ok
unfolding plain_total
returns-in-Ok c = rw c.in-Ok.is

pub returns-in-Err : goal.returns-in-Err
unfolding plain_total
returns-in-Err c = rw (c.in-Err.is, c.number.ensures)

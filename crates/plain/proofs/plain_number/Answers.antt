use Rattle.definitions.specs.Plain.{plain_number}
use Rattle.plain.proofs.plain_number.Goals as goal

pub returns-in-Ok : goal.returns-in-Ok
unfolding plain_number
returns-in-Ok c = rw c.in-Ok.is

pub returns-in-Err : goal.returns-in-Err
unfolding plain_number
returns-in-Err c = rw (c.in-Err.is, c.number-refusal.ensures)

use Rattle.totals.specs.Flags.{flag_for}
use Rattle.totals.proofs.raising.flag_of.Goals as goal

pub returns-in-Ok : goal.returns-in-Ok
unfolding flag_for
returns-in-Ok c = rw c.in-Ok.is

pub returns-in-Err : goal.returns-in-Err
unfolding flag_for
returns-in-Err c = rw c.in-Err.is

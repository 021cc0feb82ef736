use Rattle.definitions.specs.Rust.Altair.EpochProcessing.{moved_score}
use Rattle.participation.proofs.inactivity.moved_score.Goals as goal

pub returns-then-participating : goal.returns-then-participating
unfolding moved_score
returns-then-participating c = rw (c.if-participating.true, c.min.ensures)

pub returns : goal.returns
unfolding moved_score
returns c = rw c.if-participating.false c.add64.ensures

use Rattle.definitions.specs.Rust.Altair.EpochProcessing.{recovered_score}
use Rattle.participation.proofs.inactivity.recovered_score.Goals as goal

pub returns-then-leaking : goal.returns-then-leaking
unfolding recovered_score
returns-then-leaking c = rw c.if-leaking.true

pub returns : goal.returns
unfolding recovered_score
returns c = rw (c.if-leaking.false, c.min.ensures)

use Rattle.definitions.specs.Refusals.{good_finality}
use Rattle.refusals.proofs.good_finality.Goals as goal

pub returns : goal.returns
unfolding good_finality
returns c = rw (c.is_small.ensures, c.is_small-2.ensures, c.is_small-3.ensures, c.is_small-4.ensures) at c.all_pass.ensures

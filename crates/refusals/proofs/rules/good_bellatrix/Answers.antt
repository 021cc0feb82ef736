use Rattle.definitions.specs.Rules.{good_bellatrix}
use Rattle.refusals.proofs.rules.good_bellatrix.Goals as goal

pub returns : goal.returns
unfolding good_bellatrix
returns c = rw (c.is_small.ensures, c.is_small-2.ensures) at c.all_pass.ensures

use Rattle.totals.specs.Totals.{total_from}
use Rattle.totals.proofs.total_from.Goals as goal

pub returns : goal.returns
unfolding total_from
returns c = rw (c.raised.ensures, c.was_raised.ensures)

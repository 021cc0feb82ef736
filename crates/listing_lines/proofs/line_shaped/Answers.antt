use Rattle.listing_lines.specs.Told.{line_shaped}
use Rattle.listing_lines.proofs.line_shaped.Goals as goal

pub returns : goal.returns
unfolding line_shaped
returns c = rw c.registry_shaped.ensures at c.in_order.ensures

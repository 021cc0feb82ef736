use Rattle.definitions_file.specs.Shelf.{shelf_shaped}
use Rattle.shelf.proofs.shelf_shaped.Goals as goal

pub returns : goal.returns
unfolding shelf_shaped
returns c = rw (c.sums_to.ensures, c.holds_longest.ensures, c.holds_longest-2.ensures) at c.all_pass.ensures

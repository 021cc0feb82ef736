use Rattle.selection.proofs.Picking.{blank-length, blank_part}
use Rattle.selection.proofs.cut_few.Goals as goal

pub pick-requires : goal.pick-requires
pick-requires c = (c.requires.0, blank_part c.args.limit 64 c.requires.1 c.requires.2)

pub returns : goal.returns
returns c = rw (blank-length c.args.limit 64 c.requires.2) at c.pick.ensures
